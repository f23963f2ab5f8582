pub mod Blocks
pub mod Inside
pub mod Pieces
pub mod Plan
