pub mod SerialLemmas
pub mod ExplainedLemmas
pub mod TextLemmas
