pub mod AnswerLemmas
pub mod BuilderLemmas
pub mod NullLemmas
pub mod StopLemmas
