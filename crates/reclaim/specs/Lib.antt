pub mod Held
pub mod Tables
pub mod Stepping
pub mod Ahead
pub mod Counting
pub mod Tallies
