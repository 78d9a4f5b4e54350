pub mod Clients
pub mod SlotsAreValid
pub mod NodesGoOn
pub mod Opening
pub mod ClientCalls
pub mod Transport
pub mod NodeOutput
