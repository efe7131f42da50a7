pub mod Words
pub mod StatusText
pub mod Lines
