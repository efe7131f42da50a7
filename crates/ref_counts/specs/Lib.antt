pub mod Table
pub mod Stored
pub mod Changes
pub mod Fresh
pub mod Loading
