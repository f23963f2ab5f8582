use Rattle.std.proofs.Common.{sym, ap, ◌∙◌, List, arith}
use Rattle.cckd_shelf.specs.Seen.{seen}
use Rattle.cckd_shelf.specs.World.{file_of}
use Rattle.cckd_space.specs.declared.piece.Piece.{Piece}
use Rattle.cckd_layer.specs.Chain.{chained}
use Rattle.cckd_tables.proofs.TableLoopLemmas.{write_others}
use Rattle.cckd_layer.proofs.ChainLemmas.{next_roomy, no_roomy, chain_stopped, chain_next, link_fits}
use Rattle.cckd_layer.proofs.chaining.put_chain.Goals as goal

pub overflow_add-end : goal.overflow_add-end
overflow_add-end g c =
    let n = next_roomy c.args.space.now.pieces c.args.space.now.size c.loop-pos.from c.in-Some.pos c.in-Some.size c.pieces-pieces.ensures.sound.laid c.in-Some.ensures in
    let same = c.size_of-end.ensures in
    let fits = c.size_of-end.type_inv in
    omega (arith, n.within, same, fits)

pub returns-in_default-write-clause-others : goal.returns-in_default-write-clause-others
returns-in_default-write-clause-others g c =
    write_others c.args.slot c.in-Some.pos c.link-link.result (seen g.S.Shows c.args.shelf.now) (seen g.S.Shows c.loop-pos.shelf) (seen g.S.Shows c.write.new.self) c.write.result (λ told. told)
    (record { written = c.write.ensures.written; torn = c.write.ensures.torn; fails = c.write.ensures.fails }) c.loop-pos.invariant.went

pub returns-in_default-write-clause-stopped : goal.returns-in_default-write-clause-stopped
returns-in_default-write-clause-stopped g c =
    let n = next_roomy c.args.space.now.pieces c.args.space.now.size c.loop-pos.from c.in-Some.pos c.in-Some.size c.pieces-pieces.ensures.sound.laid c.in-Some.ensures in
    chain_stopped c.args.slot c.args.space.now.pieces c.args.space.now.size c.args.order c.loop-pos.from c.in-Some.pos c.in-Some.size c.link-link.result
    (seen g.S.Shows c.args.shelf.now) (seen g.S.Shows c.loop-pos.shelf) (seen g.S.Shows c.write.new.self) c.write.result (λ told. told) n (link_fits _ _ _ _ c.link-link.ensures)
    (record { written = c.write.ensures.written; torn = c.write.ensures.torn; fails = c.write.ensures.fails }) c.loop-pos.invariant

pub loop-pos-smaller : goal.loop-pos-smaller
loop-pos-smaller g c =
    let n = next_roomy c.args.space.now.pieces c.args.space.now.size c.loop-pos.from c.in-Some.pos c.in-Some.size c.pieces-pieces.ensures.sound.laid c.in-Some.ensures in
    omega (arith, n.behind, n.some, n.within)

pub loop-pos-preserved : goal.loop-pos-preserved
loop-pos-preserved g c =
    let n = next_roomy c.args.space.now.pieces c.args.space.now.size c.loop-pos.from c.in-Some.pos c.in-Some.size c.pieces-pieces.ensures.sound.laid c.in-Some.ensures in
    chain_next c.args.slot c.args.space.now.pieces c.args.space.now.size c.args.order c.loop-pos.from c.in-Some.pos c.in-Some.size c.next_place.result c.link-link.result
    (seen g.S.Shows c.args.shelf.now) (seen g.S.Shows c.loop-pos.shelf) (seen g.S.Shows c.write.new.self) (λ told. told) n c.next_place.ensures c.link-link.ensures
    (record { written = c.in-Ok.ensures.written; torn = c.in-Ok.ensures.torn; fails = c.in-Ok.ensures.fails }) c.loop-pos.invariant

pub returns-clause-now : goal.returns-clause-now
returns-clause-now g c = λ told.
    let none = no_roomy c.args.space.now.pieces c.loop-pos.from (sym (sym c.next_free.ensures ∙ c.in_default.is)) in
    sym (ap (λ (rs : List Piece). chained c.args.order rs (file_of (g.S.Shows.world c.loop-pos.shelf) c.args.slot)) none) ∙ c.loop-pos.invariant.now told
