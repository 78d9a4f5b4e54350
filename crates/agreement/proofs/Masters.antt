-- Masters.antt: what the master does.
pub mod Assigned
pub mod Assigning
pub mod Assigns
pub mod MasterAnswers
pub mod MasterActivates
pub mod MasterSends
pub mod MasterMoves
pub mod MasterNodes
