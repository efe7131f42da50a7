pub mod Listed
pub mod Block
pub mod Held
pub mod ReadsBack
