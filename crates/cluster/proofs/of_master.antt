pub mod NextAnswers
pub mod Standing
