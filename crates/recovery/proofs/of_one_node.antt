pub mod OneDelivery
pub mod FirstOpened
pub mod ConnectProposed
pub mod AnswerPutOut
pub mod AnswerAlone
pub mod ComesBack
pub mod AnswerAwaited
