pub mod Answers
pub mod Errors
