use Rattle.std.proofs.Common.{◌-◌}
use Rattle.cckd_shelf.specs.Seen.{seen}
use Rattle.cckd_layer.proofs.ChainLemmas.{ChainSoFar}
use Rattle.cckd_layer.proofs.chaining.put_chain.Given as goal

abbrev pub invariant-loop-pos : goal.invariant-loop-pos
invariant-loop-pos g l = ChainSoFar l.slot l.space.pieces l.space.size l.order l.from (seen g.S.Shows l.fn.shelf) (seen g.S.Shows l.shelf)

abbrev pub decreases-loop-pos : goal.decreases-loop-pos
decreases-loop-pos g l = l.space.size - l.from
