pub mod ServeLemmas
pub mod StepLemmas
pub mod FrameLemmas
pub mod CallLemmas
pub mod TrackCallLemmas
pub mod MountLemmas
pub mod RoomLemmas
pub mod ClosingLemmas
