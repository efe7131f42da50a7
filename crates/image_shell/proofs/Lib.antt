pub mod Common
pub mod BeginLaws
pub mod FromLaws
pub mod MountLaws
pub mod StartLaws
pub mod AgainLaws
