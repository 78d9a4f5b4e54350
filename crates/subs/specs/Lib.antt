pub mod Shape
pub mod Ways
pub mod Changes
pub mod Rows
pub mod Inside
pub mod Shown
pub mod Walk
pub mod Gathered
