pub mod Serial
pub mod Words
pub mod Text
pub mod Explained
