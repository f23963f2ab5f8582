pub mod Events
pub mod Faults
pub mod Files
pub mod Frame
pub mod Outcomes
pub mod Seen
pub mod Stops
pub mod World
