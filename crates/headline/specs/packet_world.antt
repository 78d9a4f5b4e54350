pub mod World
pub mod Steps
pub mod Exact
pub mod Served
pub mod Agreed
pub mod Groups
pub mod PutOut
pub mod Rows
