pub mod Builder
pub mod Stop
