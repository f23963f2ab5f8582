pub mod Calls
pub mod Frame
pub mod Engine
pub mod Lines
pub mod Performs
pub mod Mounting
pub mod Closing
