pub mod Refusals
pub mod Inside
