pub mod EscapedTexts
pub mod LinesLimited
