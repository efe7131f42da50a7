pub mod Fields
pub mod Requests
pub mod Replies
pub mod Frames
pub mod Cutting
pub mod Reading
pub mod ReplyReading
pub mod FrameRoom
