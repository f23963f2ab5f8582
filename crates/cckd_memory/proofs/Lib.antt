pub mod FileLemmas
pub mod HistoryLemmas
pub mod ImageLemmas
pub mod StoredLemmas
