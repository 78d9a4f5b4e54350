pub mod Steps
pub mod PortOutput
pub mod Transport
pub mod ClientCalls
pub mod Connections
pub mod RecoveryEvents
