use Rattle.std.proofs.Common.{◌∷◌, length, map, take, codes}
use Rattle.cckd_script.specs.Phrase.{number, marked}
use Rattle.cckd_script.proofs.PhraseLemmas.{PutSoFar}
use Rattle.cckd_script.proofs.text.put_layers.Given as goal

abbrev pub invariant-loop-count : goal.invariant-loop-count
invariant-loop-count l =
    PutSoFar 0 l.end (codes "layers") (marked (length l.counts) 58 ∷ map number (take l.count-index l.counts)) l.fn.line l.line
