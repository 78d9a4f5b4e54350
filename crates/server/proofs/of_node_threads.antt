pub mod AllMet
pub mod GivenBySteps
pub mod OwnSendsJoin
pub mod PortsApart
pub mod StartedAlike
pub mod TurnsEnd
