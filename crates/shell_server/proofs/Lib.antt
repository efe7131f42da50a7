pub mod Common
pub mod AfterLaws
pub mod CatLaws
pub mod ChangeLaws
mod GatheredLaws
pub mod Examples
pub mod LookLaws
pub mod SendLaws
pub mod SpeakLaws
pub mod StepLaws
pub mod ToldLaws
pub mod LsLaws
pub mod FreeLaws
pub mod KeptLaws
pub mod AheadLaws
pub mod LookingLaws
pub mod SeenLaws
