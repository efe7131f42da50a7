pub mod Levels
pub mod Table
pub mod Granted
pub mod Led
