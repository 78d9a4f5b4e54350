pub mod Covering
pub mod Logs
pub mod Queues
pub mod Theorems
pub mod Transit
