pub mod Carried
pub mod Owing
pub mod Served
pub mod Waiting
