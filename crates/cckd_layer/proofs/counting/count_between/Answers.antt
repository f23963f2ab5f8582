use Rattle.std.proofs.Common.{◌≡◌, ◌/◌, ◌∙◌, ℕ, List, ◌==◌, sym, subst, ap, arith}
use Rattle.cckd_base.specs.Entry.{see_parent}
use Rattle.cckd_shelf.specs.World.{World, IsSure, file_of}
use Rattle.cckd_shelf.specs.Seen.{seen}
use Rattle.cckd_tables.specs.Tables.{TableView}
use Rattle.cckd_tables.specs.Staging.{new_entry}
use Rattle.cckd_layer.specs.Held.{held}
use Rattle.cckd_layer.proofs.CountLemmas.{counts_more, held_counts, at_most}
use Rattle.cckd_layer.proofs.counting.count_between.Goals as goal

pub loop-number-preserved : goal.loop-number-preserved
loop-number-preserved g c =
    let null = g.U.Unit.null_bytes in
    let start = c.args.tables.now in
    let l = start.layout in
    let s = start.stages in
    let t = c.loop-number.number in
    let e = c.in-Ok.entry in
    let was = c.loop-number.invariant in
    let own : t / 256 ≡ c.args.from / 256 = omega (arith, c.requires.group, c.loop-number-test.true, c.loop-number.auto.number, was.few) in
    let small = at_most c.one_for-count.result (e.pos == see_parent) c.one_for-count.ensures in
    counts_more (λ (file : List ℕ). held null l s file) c.args.slot c.args.from start c.loop-number.tables c.entry_of.new.tables
    (seen g.T.Shows c.args.stage.now) (seen g.T.Shows c.loop-number.stage) (seen g.T.Shows c.entry_of.new.stage) t c.loop-number.count c.one_for-count.result
    was (λ told. told) own small
    (λ told sure.
    let file = file_of (g.T.Shows.world c.args.stage.now) c.args.slot in
    let kept = was.kept told in
    let is : e ≡ new_entry c.loop-number.tables.layout c.loop-number.tables.stages (file_of (g.T.Shows.world c.loop-number.stage) c.args.slot) t =
    c.in-Ok.ensures.entry told (subst IsSure (sym kept) sure) in
    let there : e ≡ new_entry c.loop-number.tables.layout c.loop-number.tables.stages file t =
    subst (λ (w : World). e ≡ new_entry c.loop-number.tables.layout c.loop-number.tables.stages (file_of w c.args.slot) t) kept is in
    let first : e ≡ new_entry l s file t = there ∙ ap (λ (v : TableView). new_entry v.layout v.stages file t) was.rest in
    held_counts null l s file t e first ∙ sym c.one_for-count.ensures)
    c.in-Ok.ensures.looks c.in-Ok.ensures.used c.in-Ok.ensures.can_read c.in-Ok.ensures.reads.kept c.in-Ok.ensures.reads.counts
    c.in-Ok.ensures.quiet c.in-Ok.ensures.called
