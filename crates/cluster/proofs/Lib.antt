pub mod of_desk
pub mod of_master
pub mod of_table
