pub mod Deliveries
pub mod Led
pub mod Opened
pub mod Answered
