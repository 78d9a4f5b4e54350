pub mod of_recoveries
pub mod Acts
mod Resting
mod Stopped
mod ActsLosing
mod AgreedCounted
mod CountsGoOn
mod Cutting
mod Expelling
mod HandsOver
mod Opens
mod KeepsAll
pub mod MasterActs
mod MasterCounts
mod Welcomes
pub mod Exactly
