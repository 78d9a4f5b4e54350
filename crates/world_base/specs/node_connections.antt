pub mod Connections
pub mod ConnectionChanges
pub mod Fronts
pub mod PendingOutput
pub mod Refusals
pub mod Silent
pub mod Stands
