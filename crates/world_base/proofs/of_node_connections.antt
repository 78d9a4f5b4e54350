pub mod Spelled
