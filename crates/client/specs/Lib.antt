pub mod Core
pub mod Input
pub mod Inside
