mod Joined
mod Handing
mod Sent
mod Turning
mod Reclaiming
mod ByTurns
pub mod Rounds
mod Grouped
mod OnDevice
mod Carried
mod Outcome
mod Ending
