pub mod Checked
pub mod Chained
pub mod Forms
pub mod Answered
pub mod Among
