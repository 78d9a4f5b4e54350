pub mod desk
pub mod master
pub mod table
