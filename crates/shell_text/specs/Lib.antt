pub mod Grammar
pub mod Reading
pub mod Texts
pub mod FileBodies
pub mod FileReading
pub mod Looked
