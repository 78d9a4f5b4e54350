pub mod Desks
pub mod Says
