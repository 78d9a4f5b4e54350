pub mod LineReader
pub mod Worlds
