pub mod Escaping
pub mod Kinds
pub mod Limits
pub mod Lines
pub mod LogWords
pub mod Theorems
