pub mod Answers
pub mod Reports
pub mod Subscriber
pub mod Losses
pub mod Publisher
pub mod Refusals
pub mod Traces
pub mod Inside
