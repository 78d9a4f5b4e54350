pub mod Values
pub mod IndexSteps
pub mod StoreSteps
pub mod SessionValues
pub mod SessionSteps
pub mod BrokerSteps
pub mod Kinds
