pub mod Areas
pub mod Formatting
pub mod Faults
pub mod Opening
pub mod Spared
