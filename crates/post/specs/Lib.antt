pub mod outbox
pub mod Numbers
pub mod Primaries
pub mod GivenMessages
pub mod Linked
pub mod Several
