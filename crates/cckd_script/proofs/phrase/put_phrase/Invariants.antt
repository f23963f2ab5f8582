use Rattle.std.proofs.Common.{take}
use Rattle.cckd_script.specs.Phrase.{parts_of}
use Rattle.cckd_script.proofs.PhraseLemmas.{PutSoFar}
use Rattle.cckd_script.proofs.phrase.put_phrase.Given as goal

abbrev pub invariant-loop-part : goal.invariant-loop-part
invariant-loop-part l = PutSoFar l.fn.at l.end l.words (parts_of (take l.part-index l.parts)) l.fn.line l.line
