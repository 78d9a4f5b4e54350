pub mod Relevance
pub mod Inside
pub mod Told
