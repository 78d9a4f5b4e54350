pub mod Program
pub mod Jobs
pub mod Entries
pub mod Tables
pub mod Given
