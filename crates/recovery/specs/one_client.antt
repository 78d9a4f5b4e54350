pub mod Online
