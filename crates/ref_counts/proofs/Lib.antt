mod Reading
mod Sectors
pub mod Written
pub mod StoredLaws
