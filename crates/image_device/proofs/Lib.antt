pub mod Sets
pub mod Outcomes
pub mod Moments
pub mod Resting
pub mod Confined
mod Sectors
pub mod Pushes
mod Cells
mod Images
mod PutAll
pub mod Parts
