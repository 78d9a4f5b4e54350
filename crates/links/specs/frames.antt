pub mod Parts
pub mod Heads
pub mod Fronts
pub mod Walks
pub mod Theorems
