pub mod Common
pub mod AreaLaws
pub mod Formatted
pub mod AreaRuns
pub mod OpenRuns
pub mod SparedLaws
pub mod FreshQuiet
mod OpenCosts
