pub mod Counts
pub mod Served
pub mod Saying
pub mod Script
pub mod Serving
