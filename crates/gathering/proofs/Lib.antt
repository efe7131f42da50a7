mod PastEvents
mod Events
mod Found
mod Reading
mod Wholes
mod Flushing
pub mod Merely
pub mod Closed
pub mod PartLaws
pub mod BelowLaws
