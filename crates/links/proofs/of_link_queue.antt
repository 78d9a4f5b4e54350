pub mod Kept
pub mod Accounted
pub mod LogsThere
