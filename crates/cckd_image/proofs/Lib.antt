mod BackLemmas
mod FaultLemmas
pub mod FreshLemmas
mod PartLemmas
