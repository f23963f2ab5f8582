use Rattle.std.proofs.Common.{◌≡◌, List, [], ◌∷◌, sym, ◌∙◌, ap, subst}
use Rattle.std.specs.List.{flat_map}
use Rattle.cckd_shelf.specs.World.{World, IsSure, file_of}
use Rattle.cckd_base.specs.declared.space.Extent.{Extent}
use Rattle.cckd_base.specs.Survey.{entry_items_in, kept_after, header_space}
use Rattle.cckd_tables.specs.Inside.{AreTableSpaces, TakesFront, items_of_words}
use Rattle.cckd_tables.proofs.FileLemmas.{words_of_file}
use Rattle.cckd_tables.proofs.FormedLemmas.{tables_named}
use Rattle.cckd_tables.proofs.SurveyLemmas.{all_taken, tables_taken, headed_after}
use Rattle.cckd_tables.proofs.TakeLemmas.{takes_same, takes_then}
use Rattle.cckd_tables.proofs.surveyed.take_all.Goals as goal

pub take_all_tracks-requires-clause-tables : goal.take_all_tracks-requires-clause-tables
take_all_tracks-requires-clause-tables g c =
    let tables : c.as_slice-3.result.now ≡ c.take_words.new.self.spaces.items =
    c.as_slice-3.ensures.value ∙ c.in-Ok-from_slice.ensures.items ∙ c.as_slice-2.ensures.value in
    let kept : c.take_words.new.self.spaces.items ≡ kept_after (header_space c.args.l.now.groups ∷ []) (items_of_words c.args.l.now c.args.len c.as_slice.result.now c.args.l.now.groups) =
    c.in-Ok-take_words.ensures.kept
    ∙ ap (λ (k : List Extent). kept_after k (items_of_words c.args.l.now c.args.len c.as_slice.result.now c.args.l.now.groups)) c.in-Ok.ensures.header in
    subst (AreTableSpaces c.args.l.now.groups) (sym (tables ∙ kept)) (tables_named c.args.l.now c.args.len c.as_slice.result.now)

pub returns-clause-taken : goal.returns-clause-taken
returns-clause-taken g c = λ told sure.
    let old = g.T.Shows.world c.args.stage.now in
    let kept = c.in_ok-words.ensures.reads.kept told in
    let sure_here : IsSure (g.T.Shows.world c.read_words.new.stage) = subst IsSure (sym kept) sure in
    let tables : c.as_slice-3.result.now ≡ c.take_words.new.self.spaces.items =
    c.as_slice-3.ensures.value ∙ c.in-Ok-from_slice.ensures.items ∙ c.as_slice-2.ensures.value in
    let words = words_of_file c.args.l.now c.args.len (file_of old c.args.slot) c.as_slice.result.now (c.requires.length told sure)
    (c.as_slice.ensures.value ∙ c.in_ok-words.ensures.words told sure) in
    let tracks = subst (λ (w : World). TakesFront c.args.len c.args.until (flat_map (entry_items_in c.args.l.now (file_of w c.args.slot)) c.as_slice-3.result.now) c.take_words.new.self c.take_all_tracks.new.survey)
    kept (c.in_ok-take_all_tracks.ensures.takes told sure_here) in
    all_taken c.args.len c.args.l.now c.args.until (file_of old c.args.slot) c.as_slice-3.result.now c.in-Ok.survey c.take_words.new.self c.take_all_tracks.new.survey
    c.in-Ok.ensures.header c.in-Ok.ensures.misfits
    (takes_same c.args.len _ _ c.in-Ok.survey c.take_words.new.self words c.in-Ok-take_words.ensures) tables tracks

pub returns-clause-headed : goal.returns-clause-headed
returns-clause-headed g c =
    let some = c.in_ok-take_all_tracks.ensures.some in
    headed_after c.args.l.now.groups c.args.len [] _ c.in-Ok.survey c.take_all_tracks.new.survey c.in-Ok.ensures.header
    (takes_then c.args.len _ some.items c.in-Ok.survey c.take_words.new.self c.take_all_tracks.new.survey c.in-Ok-take_words.ensures some.takes)

pub returns-then-is_done-clause-taken : goal.returns-then-is_done-clause-taken
returns-then-is_done-clause-taken g c = λ told sure.
    let old = g.T.Shows.world c.args.stage.now in
    let words = words_of_file c.args.l.now c.args.len (file_of old c.args.slot) c.as_slice.result.now (c.requires.length told sure)
    (c.as_slice.ensures.value ∙ c.in_ok-words.ensures.words told sure) in
    tables_taken c.args.len c.args.l.now c.args.until (file_of old c.args.slot) c.in-Ok.survey c.take_words.new.self c.in-Ok.ensures.header c.in-Ok.ensures.misfits
    (takes_same c.args.len _ _ c.in-Ok.survey c.take_words.new.self words c.in-Ok-take_words.ensures) (c.is_done.ensures.0 c.if-is_done.true)

pub returns-then-is_done-clause-headed : goal.returns-then-is_done-clause-headed
returns-then-is_done-clause-headed g c =
    headed_after c.args.l.now.groups c.args.len [] _ c.in-Ok.survey c.take_words.new.self c.in-Ok.ensures.header c.in-Ok-take_words.ensures
