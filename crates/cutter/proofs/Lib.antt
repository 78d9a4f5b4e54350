pub mod OneWay
pub mod Taking
pub mod EveryStream
