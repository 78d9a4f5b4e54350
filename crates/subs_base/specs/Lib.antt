pub mod Content
pub mod Granted
pub mod Theorems
pub mod ListIndex
pub mod Inside
