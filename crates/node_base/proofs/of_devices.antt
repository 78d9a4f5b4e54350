pub mod WritesJoin
