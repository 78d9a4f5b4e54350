pub mod Answers
pub mod Fields
pub mod Lines
pub mod Orders
pub mod Scripts
pub mod Theorems
pub mod Faults
pub mod Inside
