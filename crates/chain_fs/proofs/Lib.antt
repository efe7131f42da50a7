pub mod Common
pub mod MakeLaws
pub mod StandLaws
pub mod TidyLaws
pub mod PageLaws
pub mod MountLaws
