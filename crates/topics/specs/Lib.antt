pub mod Refusals
pub mod Text
pub mod Matching
pub mod Theorems
pub mod Inside
