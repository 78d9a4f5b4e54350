pub mod connection
pub mod devices
