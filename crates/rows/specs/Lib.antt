pub mod Fields
pub mod Rows
pub mod Playing
pub mod Answers
pub mod Numbers
