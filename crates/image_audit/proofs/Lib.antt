pub mod Common
pub mod PathLaws
pub mod SearchLaws
pub mod PageLaws
pub mod LevelLaws
pub mod ListingLaws
pub mod VerdictLaws
pub mod TakingLaws
