pub mod Carrying
pub mod Errors
