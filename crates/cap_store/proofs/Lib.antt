mod RecordLaws
mod Reading
mod Sectors
pub mod Written
mod FreshLaws
mod SeedLaws
pub mod StoredLaws
