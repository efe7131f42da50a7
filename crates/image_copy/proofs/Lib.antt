pub mod TrimLaws
pub mod BetweenLaws
pub mod OpenedLaws
pub mod GatheredLaws
pub mod SharedLaws
pub mod ImageLaws
pub mod PutLaws
pub mod LineLaws
