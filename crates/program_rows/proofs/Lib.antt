pub mod Appended
pub mod CommandAnswers
pub mod TableAnswers
pub mod ScriptFaults
pub mod TextAnswers
pub mod KindAnswers
