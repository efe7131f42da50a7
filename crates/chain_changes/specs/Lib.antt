pub mod Lookups
pub mod Growing
pub mod Making
pub mod Filling
