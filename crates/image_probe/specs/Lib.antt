pub mod Reading
pub mod Still
pub mod Tested
