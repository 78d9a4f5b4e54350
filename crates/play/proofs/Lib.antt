pub mod LinesAppended
pub mod PlayedToTheEnd
pub mod ScriptsOpen
pub mod RecoveriesTold
