mod AbsentLemmas
mod ImageLemmas
mod LayLemmas
mod SoundLemmas
