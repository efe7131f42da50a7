pub mod Common
pub mod StepForm
pub mod Serving
pub mod Kept
pub mod RunCosts
pub mod Opened
pub mod Started
mod FreshRuns
pub mod Saying
pub mod Looking
mod Upgraded
mod Requests
mod LoadRuns
mod Loaded
pub mod Behind
