pub mod SayingLemmas
