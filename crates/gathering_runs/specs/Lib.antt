pub mod Promise
pub mod Sent
pub mod ByTurns
pub mod Rounds
pub mod Turns
pub mod Run
