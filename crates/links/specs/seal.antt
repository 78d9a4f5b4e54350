pub mod Hmac
pub mod Keys
pub mod Clusters
pub mod Hellos
pub mod Frames
pub mod FrameStreams
pub mod Theorems
