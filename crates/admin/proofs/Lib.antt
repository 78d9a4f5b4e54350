pub mod Appended
pub mod BytesEscaped
pub mod BytesKept
pub mod DevicesRead
pub mod PagesTurned
