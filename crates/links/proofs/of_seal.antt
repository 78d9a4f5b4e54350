pub mod HelloWritten
pub mod HelloRead
pub mod SealedFrames
pub mod Memberships
