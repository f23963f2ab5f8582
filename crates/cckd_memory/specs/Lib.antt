pub mod Counts
pub mod Files
pub mod Held
pub mod Images
pub mod Inside
pub mod Memory
pub mod Ops
