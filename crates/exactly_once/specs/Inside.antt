pub mod Projections
pub mod AsSubscriber
pub mod ConnectionShape
pub mod OwnShape
pub mod Shape
pub mod EachEvent
