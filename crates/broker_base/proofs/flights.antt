-- What is in flight of the entries of a past.
pub mod AnswersInFlight
pub mod EntriesOfPlaces
pub mod FillingAlways
pub mod FillsWhereItMay
pub mod IdentifiersInFlight
pub mod PubrecInFlight
pub mod PubrelsAfter
pub mod ReleasesInFlight
pub mod SendsOfCopies
pub mod SendsOfStarts
pub mod StartsInFlight
