pub mod of_one_client
pub mod of_one_node
pub mod of_replicas
