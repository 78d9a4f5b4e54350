pub mod of_node_threads
mod Namesakes
mod SameNumbers
mod NodesOpened
mod NodesEnded
mod LinkedRuns
mod KeptEnds
mod LanesCame
mod ReportsTold
mod ListenersFound
mod OpeningsCounted
mod Strangers
mod PortsOnce
mod PortsOfRuns
