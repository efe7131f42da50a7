pub mod Store
pub mod Stored
pub mod Changes
pub mod Fresh
pub mod Seeds
