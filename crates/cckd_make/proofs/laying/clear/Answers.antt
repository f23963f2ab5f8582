use Rattle.std.proofs.Common.{◌≡◌, ap, ◌∙◌, replicate}
use Rattle.cckd_shelf.specs.Seen.{seen, Makes}
use Rattle.cckd_shelf.specs.Stops.{StopLeaves}
use Rattle.cckd_shelf.specs.World.{after_cut}
use Rattle.cckd_shelf.proofs.FrameLemmas.{only_cut, only_twice}
use Rattle.cckd_shelf.proofs.WorldLemmas.{on_ok}
use Rattle.cckd_make.specs.Making.{after_put, IsPutOver}
use Rattle.cckd_make.proofs.LayLemmas.{zeros_blank, cut_stopped, clear_stopped, clear_left}
use Rattle.cckd_make.proofs.laying.clear.Goals as goal

pub returns-in_default-clause-others : goal.returns-in_default-clause-others
returns-in_default-clause-others g c = only_cut c.args.slot 0 (seen g.S.Shows c.args.shelf.now) (seen g.S.Shows c.cut.new.self) c.cut.result c.cut.ensures.cut c.cut.ensures.half

pub returns-in_default-clause-stopped : goal.returns-in_default-clause-stopped
returns-in_default-clause-stopped g c = cut_stopped c.args.slot (seen g.S.Shows c.args.shelf.now) (seen g.S.Shows c.cut.new.self) c.cut.result c.cut.ensures.cut c.cut.ensures.half

pub returns-clause-made : goal.returns-clause-made
returns-clause-made g c =
    on_ok (Makes (after_put c.args.slot 0 (replicate 512 0)) (seen g.S.Shows c.cut.new.self) (seen g.S.Shows c.put.new.shelf))
    (Makes (λ w. after_put c.args.slot 0 (replicate 512 0) (after_cut c.args.slot 0 w)) (seen g.S.Shows c.args.shelf.now) (seen g.S.Shows c.put.new.shelf)) c.put.result
    (λ made told. made told ∙ ap (after_put c.args.slot 0 (replicate 512 0)) (c.in-Ok.ensures.cut told)) c.put.ensures.made

pub returns-clause-others : goal.returns-clause-others
returns-clause-others g c =
    only_twice c.args.slot (seen g.S.Shows c.args.shelf.now) (seen g.S.Shows c.cut.new.self) (seen g.S.Shows c.put.new.shelf) (λ told. told)
    (only_cut c.args.slot 0 (seen g.S.Shows c.args.shelf.now) (seen g.S.Shows c.cut.new.self) c.cut.result c.cut.ensures.cut c.cut.ensures.half) c.put.ensures.others

pub returns-clause-stopped : goal.returns-clause-stopped
returns-clause-stopped g c =
    clear_stopped c.args.slot (replicate 512 0) (seen g.S.Shows c.args.shelf.now) (seen g.S.Shows c.cut.new.self) (seen g.S.Shows c.put.new.shelf) zeros_blank (λ told. told)
    (cut_stopped c.args.slot (seen g.S.Shows c.args.shelf.now) (seen g.S.Shows c.cut.new.self) c.cut.result c.cut.ensures.cut c.cut.ensures.half) c.put.ensures.stopped

pub returns-clause-left : goal.returns-clause-left
returns-clause-left g c =
    on_ok (StopLeaves c.args.slot (IsPutOver (seen g.S.Shows c.cut.new.self).world.events c.args.slot 0 (replicate 512 0)) (seen g.S.Shows c.put.new.shelf))
    (StopLeaves c.args.slot (λ file. file ≡ replicate 512 0) (seen g.S.Shows c.put.new.shelf)) c.put.result
    (λ left. clear_left c.args.slot (replicate 512 0) (seen g.S.Shows c.args.shelf.now) (seen g.S.Shows c.cut.new.self) (seen g.S.Shows c.put.new.shelf) (λ told. told) c.in-Ok.ensures.cut left)
    c.put.ensures.left
