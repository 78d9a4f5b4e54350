-- Definitions for the proofs about groups; no theorem cites them.
pub mod Ballots
pub mod BallotsStand
pub mod Begun
pub mod Chosen
pub mod Extension
pub mod Keeps
pub mod Masters
pub mod MomentSteps
pub mod MovesAt
pub mod OpeningHistory
pub mod Own
pub mod MessageMeaning
pub mod Serves
pub mod Sound
pub mod SoundNodes
pub mod AcknowledgedLengths
