pub mod Inside
pub mod Ballots
pub mod Machine
pub mod Tally
