pub mod View
pub mod Tidying
