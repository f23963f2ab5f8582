use Rattle.std.proofs.Common.{get_or, sym, ◌∙◌, subst}
use Rattle.cckd_shelf.specs.World.{World, IsSure, file_of}
use Rattle.cckd_base.specs.declared.space.Extent.{Extent}
use Rattle.cckd_base.specs.declared.space.Owner.TheVariants.{Nobody}
use Rattle.cckd_base.specs.Survey.{entry_items_in}
use Rattle.cckd_tables.specs.Inside.{Takes}
use Rattle.cckd_tables.proofs.TakeLemmas.{takes_same, takes_then, some_then, row_more, ended_early, went_to_the_end}
use Rattle.cckd_tables.proofs.read.take_all_tracks.Goals as goal

pub loop-table-preserved : goal.loop-table-preserved
loop-table-preserved g c =
    let now = c.loop-table.invariant in
    let done = c.in_ok-take_tracks.ensures in
    let blank : Extent = record { pos = 0; len = 0; size = 0; owner = Nobody } in
    let here : Extent = get_or c.args.tables.now c.loop-table.table-index blank in
    record {
      takes = λ told sure.
          let sure_here : IsSure (g.T.Shows.world c.loop-table.stage) = subst IsSure (sym (now.kept told)) sure in
          let entries = entry_items_in c.args.l.now (file_of (g.T.Shows.world c.args.stage.now) c.args.slot) in
          let took = subst (λ (w : World). Takes c.args.len (entry_items_in c.args.l.now (file_of w c.args.slot) here) c.loop-table.survey c.take_tracks.new.survey)
          (now.kept told) (done.takes told sure_here) in
          takes_same c.args.len _ _ c.args.survey.now c.take_tracks.new.survey
          (row_more entries c.args.tables.now c.loop-table.table-index blank c.loop-table-test.true)
          (takes_then c.args.len _ (entries here) c.args.survey.now c.loop-table.survey c.take_tracks.new.survey (now.takes told sure) took);
      some = some_then c.args.len c.args.survey.now c.loop-table.survey c.take_tracks.new.survey now.some done.some;
      kept = λ told. done.reads.kept told ∙ now.kept told;
      counts = done.reads.counts ∙ now.counts;
    }

pub returns-then-is_done-clause-takes : goal.returns-then-is_done-clause-takes
returns-then-is_done-clause-takes g c = λ told sure.
    ended_early c.args.len c.args.until (entry_items_in c.args.l.now (file_of (g.T.Shows.world c.args.stage.now) c.args.slot)) c.args.tables.now c.loop-table.table-index
    c.args.survey.now c.loop-table.survey (c.loop-table.invariant.takes told sure) (c.is_done.ensures.0 c.if-is_done.true)

pub returns-clause-takes : goal.returns-clause-takes
returns-clause-takes g c = λ told sure.
    went_to_the_end c.args.len c.args.until (entry_items_in c.args.l.now (file_of (g.T.Shows.world c.args.stage.now) c.args.slot)) c.args.tables.now c.loop-table.table-index
    c.args.survey.now c.loop-table.survey (c.loop-table.invariant.takes told sure) c.loop-table-test.false
