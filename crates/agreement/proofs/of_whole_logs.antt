pub mod AppliesInOrder
pub mod ChangeRows
pub mod MessageRows
pub mod StepRows
