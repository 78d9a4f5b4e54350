pub mod of_outbox
mod HighestFound
mod LinkKept
mod NoneAmong
mod OpensWith
mod QueuesJoin
mod RefusedByConfig
mod RowsPinned
