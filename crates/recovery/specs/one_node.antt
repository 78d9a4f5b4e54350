pub mod FirstAnswer
pub mod ConnectRequest
pub mod Delivery
pub mod Opening
pub mod AwaitedAnswer
pub mod Welcome
