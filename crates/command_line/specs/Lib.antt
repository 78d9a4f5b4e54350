pub mod Addresses
pub mod Refusals
pub mod Program
pub mod Jobs
pub mod Tables
pub mod Inside
