pub mod LateMessages
pub mod QoSOfEntries
