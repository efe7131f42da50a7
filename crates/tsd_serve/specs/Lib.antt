pub mod Grouped
pub mod Did
pub mod Headline
pub mod MirrorStatus
pub mod MirrorTest
pub mod MirrorDid
pub mod Access
pub mod Prompt
