pub mod RoomForCopies
