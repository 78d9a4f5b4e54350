mod BusyAdded
mod CountsAll
mod HandedByTap
pub mod KeepsItsPort
mod LanesAdded
mod PortsTell
