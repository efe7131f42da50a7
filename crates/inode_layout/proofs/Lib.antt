pub mod SaidLaws
pub mod HeadLaws
pub mod ListedLaws
pub mod BackLaws
