pub mod ContentAfter
pub mod RowsAreGranted
pub mod GrantsOneList
pub mod EmptyMapGoes
