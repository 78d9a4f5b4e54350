pub mod OneTopic
pub mod InRange
pub mod LastPut
