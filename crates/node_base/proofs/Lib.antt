pub mod of_connection
pub mod of_devices
