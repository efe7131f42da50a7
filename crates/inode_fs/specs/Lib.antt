pub mod View
pub mod Marked
pub mod Looking
pub mod Tidying
