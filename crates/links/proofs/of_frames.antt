pub mod PartHeads
pub mod OneWay
pub mod Longer
pub mod PartsJoined
pub mod Walking
pub mod Joinings
