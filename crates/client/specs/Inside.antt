pub mod PacketSteps
pub mod Ids
