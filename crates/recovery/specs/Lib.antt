pub mod one_client
pub mod one_node
pub mod replicas
