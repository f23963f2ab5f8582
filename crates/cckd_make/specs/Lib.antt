pub mod Making
pub mod NewImage
