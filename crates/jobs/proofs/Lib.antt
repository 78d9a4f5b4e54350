pub mod JobsEnd
