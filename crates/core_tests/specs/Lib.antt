pub mod Guards
pub mod Orders
pub mod Ranges
