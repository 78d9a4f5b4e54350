pub mod Used
pub mod Spelled
pub mod HandledBefore
pub mod HandlingFails
pub mod Growing
