pub mod AskLemmas
pub mod CountLemmas
pub mod JoinLemmas
mod LineLemmas
mod SayingLemmas
mod ScriptLemmas
mod ScriptSteps
