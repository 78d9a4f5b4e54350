-- Given.antt: what one node gives.
pub mod Places
pub mod CommitGives
pub mod RowsGive
pub mod StepGives
pub mod NextPlaces
pub mod WhileItLeads
