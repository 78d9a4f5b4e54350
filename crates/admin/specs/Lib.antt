pub mod Answers
pub mod Escaping
pub mod Json
pub mod Metrics
pub mod Requests
pub mod Serving
pub mod Sessions
pub mod View
