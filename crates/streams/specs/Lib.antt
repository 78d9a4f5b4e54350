pub mod Theorems
pub mod ListedConnections
pub mod Ports
pub mod WriteTokens
pub mod Taps
