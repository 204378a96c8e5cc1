pub mod Cells
pub mod Changed
pub mod CloseLoop
pub mod Frames
pub mod Going
pub mod Items
pub mod Pairs
pub mod ShiftLoop
