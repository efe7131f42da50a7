pub mod Ends
pub mod Lines
pub mod Copied
pub mod Steps
pub mod Gathered
