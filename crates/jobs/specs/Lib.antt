pub mod Done
pub mod Failures
pub mod Errors
pub mod Transcripts
pub mod Looks
