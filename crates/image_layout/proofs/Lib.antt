pub mod ReadingLaws
pub mod ThingLaws
