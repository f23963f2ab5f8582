pub mod FeedLemmas
pub mod FillLemmas
pub mod FindLemmas
