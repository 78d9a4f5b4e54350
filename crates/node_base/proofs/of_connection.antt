pub mod PiecesJoin
pub mod StreamStaysWhole
pub mod WritesJoin
