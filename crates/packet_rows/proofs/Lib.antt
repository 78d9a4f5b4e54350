pub mod TopicAnswers
pub mod PacketAnswers
pub mod StreamAnswers
pub mod KindAnswers
pub mod PieceAnswers
