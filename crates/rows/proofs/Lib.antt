pub mod Appended
pub mod Compared
pub mod ManyLines
pub mod NumberRead
pub mod RowByRow
