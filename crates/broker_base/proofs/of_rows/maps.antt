-- How the map of owners and the index of subscriptions follow a step.
pub mod ContentAfter
pub mod ContentOfStart
pub mod ContentOfSteps
pub mod ExpelledMaps
pub mod FiltersHeld
pub mod MadeAnew
pub mod OwnersConnect
pub mod OwnersLeave
pub mod OwnersStay
pub mod PublishKeepsMaps
pub mod SessionWritten
