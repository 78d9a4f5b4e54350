pub mod Reports
pub mod Inside
pub mod Theorems
pub mod Life
pub mod Whole
pub mod Written
