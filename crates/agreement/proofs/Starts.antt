-- Starts.antt: ballots begin with their starts.
pub mod Begins
pub mod LongActive
pub mod StaysActive
pub mod StepActive
