pub mod Requests
pub mod Load
pub mod Words
