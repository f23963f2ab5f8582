use Rattle.std.proofs.Common.{refl, sym, ◌∙◌, subst, ap, map}
use Rattle.cckd_shelf.specs.World.{World, IsSure, file_of}
use Rattle.cckd_base.specs.declared.damage.Damage.TheVariants as amiss
use Rattle.cckd_check.specs.Look.{IsExaminedOf}
use Rattle.cckd_check.specs.Inside.{AddsAllTracks}
use Rattle.cckd_check.proofs.ReportLemmas.{all_reported}
use Rattle.cckd_check.proofs.looking.judge.Goals as goal

pub returns-in-Ok-look_at_tracks-clause-report : goal.returns-in-Ok-look_at_tracks-clause-report
returns-in-Ok-look_at_tracks-clause-report g c = λ told sure known.
    let slot = c.args.slot in
    let x = c.args.x.now in
    let kept = c.in-Ok-look_at_chain.ensures.looks.kept told in
    let tracks = subst (λ (w : World). IsExaminedOf (file_of w slot) x
    → AddsAllTracks c.args.level x.heading.layout (file_of w slot) c.look_at_chain.new.report c.look_at_tracks.new.report) kept
    (c.in-Ok-look_at_tracks.ensures.added told (subst IsSure (sym kept) sure)) known in
    all_reported c.args.level (file_of (g.T.Shows.world c.args.stage.now) slot) x (record { found = c.in-Ok.found; unread = 0 }) c.look_at_chain.new.report c.look_at_tracks.new.report
    known (c.in-Ok.ensures ∙ ap (map amiss.Misfit) c.as_slice.ensures.value) refl (c.in-Ok-look_at_chain.ensures.added told sure known) tracks
