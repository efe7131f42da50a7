pub mod FieldLaws
pub mod RequestLaws
pub mod WritingLaws
pub mod CutLaws
pub mod BlocksLaws
pub mod ReplyLaws
pub mod FramesLaws
pub mod PartLaws
