pub mod of_node_connections
pub mod of_node_core
