pub mod NodesFollow
pub mod LedOut
pub mod LeadsOn
pub mod ClientAnswered
pub mod OpensFirst
pub mod WelcomedKept
