pub mod AnswerFields
pub mod JobFields
pub mod CommandSteps
pub mod TableSteps
pub mod ScriptFields
pub mod ScriptSteps
pub mod TextSteps
pub mod Kinds
