mod AllLanesByIndex
mod CountsAreKept
mod EachView
pub mod ItemsOfALane
mod MeetingKeepsTheRule
mod PassesKeepTheRule
mod Rights
mod PassNumbers
mod RestIsTaken
mod StepsKeepTheRule
mod TellingKeepsTheRule
