pub mod Counted
pub mod Engines
pub mod Inside
