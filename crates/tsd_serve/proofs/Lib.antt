pub mod Statuses
pub mod Prefixes
pub mod Promises
pub mod Mirrored
pub mod ByAccess
pub mod Tests
