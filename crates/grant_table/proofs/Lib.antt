pub mod LevelLaws
pub mod HeldLaws
pub mod TableLaws
pub mod LedLaws
