pub mod Inside
pub mod Tables
pub mod Connect
