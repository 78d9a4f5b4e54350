pub mod Theorems
pub mod Named
pub mod LaneReports
pub mod Turns
pub mod ThreadLives
