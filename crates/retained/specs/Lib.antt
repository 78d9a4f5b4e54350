pub mod Retained
pub mod Refusals
pub mod Inside
pub mod Theorems
