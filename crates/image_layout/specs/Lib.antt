pub mod Areas
pub mod Offsets
pub mod Ring
pub mod Image
pub mod Header
pub mod Lawful
pub mod Things
pub mod Worked
