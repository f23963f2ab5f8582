use Rattle.std.proofs.Common.{◌≡◌, map, string_bytes, vec_items, take}
use Rattle.cckd_host.specs.Words.{kept_word}
use Rattle.cckd_host.proofs.words.words_of.Given as goal

-- the first words are there
abbrev pub invariant-loop-number : goal.invariant-loop-number
invariant-loop-number g l =
    g.W.WordSource.tells → map string_bytes (vec_items l.words) ≡ map kept_word (take l.number (g.W.WordSource.words l.source))
