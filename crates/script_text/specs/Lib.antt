pub mod Pieces
pub mod Lines
pub mod Grammar
pub mod Reading
pub mod Parsing
pub mod Texts
