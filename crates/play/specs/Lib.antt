pub mod AcceptedLines
pub mod Transcripts
pub mod Recoveries
pub mod Events
pub mod Errors
pub mod Inside
pub mod Lines
