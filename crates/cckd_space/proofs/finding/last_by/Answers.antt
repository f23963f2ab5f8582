use Rattle.std.proofs.Common.{sym, arith}
use Rattle.cckd_base.specs.declared.space.Owner.TheVariants.{Nobody}
use Rattle.cckd_space.specs.declared.piece.Kind.TheVariants.{Used}
use Rattle.cckd_space.specs.declared.piece.Piece.{Piece}
use Rattle.cckd_space.proofs.SearchLemmas.{last_begun, none_begun}
use Rattle.cckd_space.proofs.finding.last_by.Goals as goal

pub returns-then-count-eq0 : goal.returns-then-count-eq0
returns-then-count-eq0 c =
    let d : Piece = record { pos = 0; len = 0; size = 0; kind = Used; owner = Nobody } in
    sym (none_begun c.args.pos c.args.pieces.now c.begun_index-count.result d c.begun_index-count.ensures c.if-count-eq0.true)

pub returns : goal.returns
returns c =
    let d : Piece = record { pos = 0; len = 0; size = 0; kind = Used; owner = Nobody } in
    sym (last_begun c.args.pos c.args.pieces.now c.begun_index-count.result d c.begun_index-count.ensures (omega arith))
