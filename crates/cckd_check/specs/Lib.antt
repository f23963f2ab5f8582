pub mod Chain
pub mod Damage
pub mod Inside
pub mod Look
