pub mod Fresh
pub mod Image
pub mod Inside
