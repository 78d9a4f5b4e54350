pub mod Words
pub mod PacketAnswers
pub mod IndexAnswers
pub mod StoreAnswers
pub mod SessionAnswers
pub mod BrokerAnswers
pub mod KindAnswers
