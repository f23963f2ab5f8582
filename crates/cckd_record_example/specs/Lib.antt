pub mod Records
pub mod Versions
