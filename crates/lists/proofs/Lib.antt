pub mod Prefixes
pub mod Places
pub mod Members
pub mod Tests
pub mod Identifiers
pub mod OfEach
pub mod Tables
