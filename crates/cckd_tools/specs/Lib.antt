pub mod Init
pub mod Label
