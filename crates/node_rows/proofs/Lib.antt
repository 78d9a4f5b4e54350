pub mod ItemAnswers
pub mod StepAnswers
pub mod OpeningAnswers
pub mod EventAnswers
pub mod GroupStepAnswers
pub mod ClientCallAnswers
pub mod ClientStepAnswers
pub mod KindAnswers
