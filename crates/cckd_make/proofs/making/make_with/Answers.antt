use Rattle.std.proofs.Common.{List, ℕ, ◌++◌, take, drop, subst, ◌∙◌}
use Rattle.cckd_shelf.specs.Seen.{seen, Tells, Makes}
use Rattle.cckd_shelf.proofs.WorldLemmas.{on_ok}
use Rattle.cckd_make.specs.NewImage.{new_image}
use Rattle.cckd_make.specs.Making.{StopsWithout, HasOnly, after_laying}
use Rattle.cckd_make.proofs.ImageLemmas.{whole, laid_image}
use Rattle.cckd_make.proofs.making.make_with.Goals as goal

pub returns-in-Ok-clause-made : goal.returns-in-Ok-clause-made
returns-in-Ok-clause-made g c =
    let first = c.args.first.now in
    let rest = c.as_slice.result.now in
    let image = new_image c.args.l.now in
    on_ok (Makes (after_laying c.args.slot first rest) (seen g.S.Shows c.args.shelf.now) (seen g.S.Shows c.lay.new.shelf)) (Makes (after_laying c.args.slot (take 512 image) (drop 512 image)) (seen g.S.Shows c.args.shelf.now) (seen g.S.Shows c.lay.new.shelf)) c.lay.result
    (laid_image c.args.slot first rest image (seen g.S.Shows c.args.shelf.now) (seen g.S.Shows c.lay.new.shelf) c.requires.first (whole c.args.l.now first c.args.second.now rest c.requires.headers (c.as_slice.ensures.value ∙ c.in-Ok.ensures.bytes))) c.lay.ensures.made

pub returns-in-Ok-clause-only : goal.returns-in-Ok-clause-only
returns-in-Ok-clause-only g c =
    let first = c.args.first.now in
    let rest = c.as_slice.result.now in
    on_ok (Tells (seen g.S.Shows c.args.shelf.now) → HasOnly c.args.slot (first ++ rest) (seen g.S.Shows c.lay.new.shelf).world) (Tells (seen g.S.Shows c.args.shelf.now) → HasOnly c.args.slot (new_image c.args.l.now) (seen g.S.Shows c.lay.new.shelf).world) c.lay.result
    (λ only told. subst (λ (f : List ℕ). HasOnly c.args.slot f (seen g.S.Shows c.lay.new.shelf).world) (whole c.args.l.now first c.args.second.now rest c.requires.headers (c.as_slice.ensures.value ∙ c.in-Ok.ensures.bytes)) (only told))
    c.lay.ensures.only

pub returns-in-Ok-clause-stopped : goal.returns-in-Ok-clause-stopped
returns-in-Ok-clause-stopped g c =
    subst (λ (f : List ℕ). StopsWithout c.args.slot f (seen g.S.Shows c.args.shelf.now) (seen g.S.Shows c.lay.new.shelf))
    (whole c.args.l.now c.args.first.now c.args.second.now c.as_slice.result.now c.requires.headers (c.as_slice.ensures.value ∙ c.in-Ok.ensures.bytes)) c.lay.ensures.stopped
