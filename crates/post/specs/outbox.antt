pub mod Given
pub mod Theorems
pub mod MasterAnswers
pub mod Queued
pub mod Refusals
pub mod Replacement
pub mod WaitingItems
pub mod Urgency
