pub mod Delivery
pub mod Ends
pub mod Inside
pub mod Kept
pub mod Naming
