mod FreeIdentifier
mod FillsStepByStep
mod ReleasedInPlace
mod AnswersToPubrec
mod OneIsRemoved
pub mod GreatestOfAll
pub mod FilterSet
pub mod LastIdentifiers
