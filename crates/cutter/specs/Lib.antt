pub mod Stream
pub mod Theorems
pub mod Refusals
