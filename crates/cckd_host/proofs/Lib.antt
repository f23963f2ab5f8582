mod WordLemmas
mod RunLemmas
