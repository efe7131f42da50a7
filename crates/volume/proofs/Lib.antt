pub mod Common
pub mod Loaded
pub mod FinishLaws
pub mod SweepOps
pub mod SweepRun
pub mod SweepCosts
