pub mod Served
pub mod FromCore
pub mod Told
