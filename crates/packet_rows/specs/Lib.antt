pub mod AnswerFields
pub mod PacketFields
pub mod TopicSteps
pub mod PacketSteps
pub mod StreamSteps
pub mod StreamRuns
pub mod Kinds
