pub mod CountsStand
pub mod Refusing
pub mod OutboxKept
