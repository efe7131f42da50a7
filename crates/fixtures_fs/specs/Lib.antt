pub mod Ours
pub mod Untold
