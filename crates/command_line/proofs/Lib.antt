pub mod Added
pub mod Entries
pub mod Listed
pub mod Plain
pub mod SameDocument
pub mod NumbersAtMostMaxNode
pub mod ValuesRead
pub mod WordsOfWays
