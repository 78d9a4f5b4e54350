pub mod Crossing
mod CutsApart
mod Growing
pub mod HandedInRun
mod CountsRight
mod CountsInRun
mod ItsLanes
mod OpenBytes
mod ReportIsOn
pub mod Replaying
pub mod Recorded
pub mod WrittenBack
