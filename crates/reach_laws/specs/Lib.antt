pub mod Runs
pub mod Confinement
pub mod Integrity
pub mod RunIntegrity
pub mod Confidentiality
pub mod Region
pub mod OutOfReach
pub mod ByAccess
