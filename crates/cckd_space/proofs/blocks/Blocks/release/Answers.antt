use Rattle.std.proofs.Common.{◌≤◌, List, length, map, sym, ◌∙◌, ap, subst, arith}
use Rattle.std.specs.Vec.{vec_len, vec_capacity}
use Rattle.cckd_space.specs.declared.piece.Piece.{Piece}
use Rattle.cckd_space.specs.Pieces.{merged, released}
use Rattle.cckd_space.specs.Inside.{AreMerged}
use Rattle.cckd_space.specs.Blocks.{Held, whole}
use Rattle.cckd_space.proofs.FitLemmas.{fit_tidy}
use Rattle.cckd_space.proofs.HeldLemmas.{held, still_held}
use Rattle.std.proofs.lemmas.List.{length-map}
use Rattle.cckd_space.proofs.MergeLemmas.{merged_fewer}
use Rattle.cckd_space.proofs.blocks.Blocks.release.Goals as goal

pub release_blocks-requires-clause-tidy : goal.release_blocks-requires-clause-tidy
release_blocks-requires-clause-tidy c =
    let old = c.self.inside in
    fit_tidy old.full old.blocks.items c.self.invariant.fit (subst (λ (h : Held). AreMerged h.pieces) (sym c.self.view_is) c.requires.apart)

pub invariant_of-self : goal.invariant_of-self
invariant_of-self c =
    let old = c.self.inside in
    let bs = old.blocks.items in
    let now = c.release_blocks.new.blocks.items in
    let long : length (whole now) ≤ length (whole bs) = (let a = ap length c.release_blocks.ensures.items in let b = merged_fewer (map released (whole bs)) in let d = length-map (whole bs) released in omega (arith, a, b, d)) in
    still_held bs now old.slots old.full (vec_len old.blocks) (vec_len old.store) (vec_capacity old.blocks) (vec_capacity old.store) (vec_len c.release_blocks.new.blocks) (vec_len c.release_blocks.new.store) (vec_capacity c.release_blocks.new.blocks) (vec_capacity c.release_blocks.new.store) c.self.invariant
    (c.release_blocks.ensures.fit old.full c.self.invariant.fit) (omega (arith, long, c.self.invariant.fewer)) (c.release_blocks.ensures.total) (c.release_blocks.ensures.room)

pub returns-clause-holds : goal.returns-clause-holds
returns-clause-holds c =
    let old = c.self.inside in
    let bs = old.blocks.items in
    let now = c.release_blocks.new.blocks.items in
    let long : length (whole now) ≤ length (whole bs) = (let a = ap length c.release_blocks.ensures.items in let b = merged_fewer (map released (whole bs)) in let d = length-map (whole bs) released in omega (arith, a, b, d)) in
    held c.args.self.now (whole bs) (whole now) ((λ (l : List Piece). merged (map released l)) c.args.self.now.pieces) old.slots c.self.view_is (c.release_blocks.ensures.items ∙ ap (λ (h : Held). (λ (l : List Piece). merged (map released l)) h.pieces) c.self.view_is) c.self.invariant.fewer (omega (arith, long, c.self.invariant.fewer))
