pub mod FirstReads
pub mod StillCalls
