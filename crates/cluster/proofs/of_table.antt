pub mod Added
pub mod Plain
pub mod Counted
pub mod NodeAlone
