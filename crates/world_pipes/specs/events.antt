pub mod EscapeEvents
pub mod Refusals
