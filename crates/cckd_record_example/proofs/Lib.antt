pub mod RecordLemmas
pub mod StoreLemmas
pub mod VersionLemmas
