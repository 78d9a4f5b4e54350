-- Runs.antt: whatever happens, a group stays sound.
pub mod Learning
pub mod OpeningTold
pub mod OpeningNodes
pub mod OpeningServes
pub mod OpeningWorlds
pub mod RunsGoOn
pub mod Senders
pub mod SendersStay
pub mod Serves
pub mod Steps
