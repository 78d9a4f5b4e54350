-- What a taken publication does, by the rows that it is granted, and copies that come in parts.
pub mod AnswersInTurn
pub mod AnswersOfGranted
pub mod CopiesInParts
pub mod GrantedBySessions
pub mod GreatestGranted
pub mod OneChanged
pub mod PublishLeft
pub mod PublishSteps
pub mod RoomInTurn
pub mod RoomOfGranted
pub mod RowOfPublish
pub mod SubscribesInTurn
