mod InitLemmas
mod LabelLemmas
mod ZeroLemmas
