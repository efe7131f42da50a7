pub mod Counted
pub mod Nesting
pub mod Going
pub mod Walk
pub mod Copies
