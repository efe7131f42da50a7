pub mod PlaceLaws
pub mod WritingLaws
pub mod BackLaws
