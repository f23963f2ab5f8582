pub mod FrameLemmas
pub mod MomentLemmas
pub mod NameLemmas
pub mod OutcomeLemmas
pub mod PutLemmas
pub mod SectorLemmas
pub mod StopLemmas
pub mod WorldLemmas
