pub mod States
pub mod Form
pub mod FormTheorems
pub mod Keeping
pub mod Runs
