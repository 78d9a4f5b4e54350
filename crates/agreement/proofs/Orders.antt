-- Orders.antt: the order of proposals.
pub mod OwnSteps
pub mod NamesInLists
pub mod OwnedAnyway
pub mod Taken
pub mod TakenStands
pub mod TakenParts
pub mod Owning
