pub mod node_connections
pub mod node_core
