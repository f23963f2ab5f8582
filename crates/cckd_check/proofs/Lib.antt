pub mod ApartLemmas
pub mod UnusedLemmas
pub mod LinkLemmas
pub mod NotedLemmas
pub mod FaultyLemmas
pub mod ReportLemmas
pub mod LookLemmas
