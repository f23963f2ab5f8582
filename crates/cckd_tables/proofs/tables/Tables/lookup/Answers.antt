use Rattle.std.proofs.Common.{◌≡◌, ◌/◌, ◌<◌, [], length, slice_index, None, IfOk, sym, ◌∙◌, ap, subst, arith}
use Rattle.std.specs.Option.{unwrap_or}
use Rattle.std.proofs.lemmas.List.{get_or_default}
use Rattle.cckd_base.specs.Geometry.{track_count}
use Rattle.cckd_base.specs.Numbers.{bytes_at}
use Rattle.cckd_frames.specs.Frames.{Kept}
use Rattle.cckd_shelf.specs.Seen.{seen, Tells}
use Rattle.cckd_shelf.specs.World.{World, IsSure, file_of}
use Rattle.cckd_tables.specs.Staging.{entry_for, new_entry}
use Rattle.cckd_tables.specs.Tables.{TableView, AreOf}
use Rattle.cckd_tables.specs.Cached.{KeepsCached, table_of, tables_in}
use Rattle.cckd_tables.specs.Looking.{IsEntryOf, with_cached}
use Rattle.cckd_tables.proofs.LookLemmas.{group_there, word_is_place, entry_looked, of_looked, keeps_looked, ok_where, if_ok_where, on_err}
use Rattle.cckd_tables.proofs.tables.Tables.lookup.Goals as goal

pub returns-clause-entry : goal.returns-clause-entry
returns-clause-entry g c =
    let was = c.self.inside in
    let old : TableView = record { layout = was.layout; words = was.words.items; stages = was.stages; cached = tables_in was.cache.entries } in
    let t = c.args.t.0 in
    let word = c.index-word.result.now in
    let track = subst (λ (v : TableView). t < track_count v.layout.geo) (sym c.self.view_is) c.requires.track in
    let low = group_there old.layout t c.self.invariant.0.layout track in
    let within : t / 256 < length old.words = (let n = c.self.invariant.0.words in omega arith) in
    let is : word ≡ slice_index old.words (t / 256) = c.index-word.ensures ∙ get_or_default old.words (t / 256) word 0 within in
    let place = word_is_place old.layout word (sym c.in_default-group_entry.is ∙ c.group_entry.ensures) in
    let none : entry_for t old.stages.entries ≡ None = sym c.entry.ensures ∙ c.in_default.is in
    let s = seen g.T.Shows c.args.stage.now in
    let file = file_of (g.T.Shows.world c.args.stage.now) c.args.slot in
    let new = tables_in c.table_entry.new.cache.entries in
    subst (λ (v : TableView). IfOk c.table_entry.result (IsEntryOf v c.args.slot s t)) c.self.view_is
    (if_ok_where c.table_entry.result (Tells s) (IsSure s.world) (λ e. e ≡ new_entry old.layout old.stages file t) (λ told sure.
    let of : AreOf old file = subst (λ (v : TableView). AreOf v file) (sym c.self.view_is) (c.requires.of told sure) in
    entry_looked old file t word new c.table_entry.result of low is place none c.table_entry.ensures.used
    (λ absent. ok_where c.table_entry.result (Tells s) (IsSure s.world) (unwrap_or (table_of (t / 256) new) _ ≡ bytes_at file word 2048) (c.table_entry.ensures.read absent) told sure)
    c.table_entry.ensures.entry))

pub returns-clause-of : goal.returns-clause-of
returns-clause-of g c = λ told sure_now.
    let was = c.self.inside in
    let old : TableView = record { layout = was.layout; words = was.words.items; stages = was.stages; cached = tables_in was.cache.entries } in
    let t = c.args.t.0 in
    let word = c.index-word.result.now in
    let track = subst (λ (v : TableView). t < track_count v.layout.geo) (sym c.self.view_is) c.requires.track in
    let low = group_there old.layout t c.self.invariant.0.layout track in
    let within : t / 256 < length old.words = (let n = c.self.invariant.0.words in omega arith) in
    let is : word ≡ slice_index old.words (t / 256) = c.index-word.ensures ∙ get_or_default old.words (t / 256) word 0 within in
    let place = word_is_place old.layout word (sym c.in_default-group_entry.is ∙ c.group_entry.ensures) in
    let s = seen g.T.Shows c.args.stage.now in
    let file = file_of (g.T.Shows.world c.args.stage.now) c.args.slot in
    let new = tables_in c.table_entry.new.cache.entries in
    let stays = c.table_entry.ensures.looks.kept told in
    let sure : IsSure s.world = subst IsSure stays sure_now in
    let of : AreOf old file = subst (λ (v : TableView). AreOf v file) (sym c.self.view_is) (c.requires.of told sure) in
    subst (λ (w : World). AreOf (with_cached old new) (file_of w c.args.slot)) (sym stays)
    (of_looked old file t word new c.table_entry.result of low is place c.table_entry.ensures.used
    (on_err c.table_entry.result (c.table_entry.new.cache ≡ c.self.inside.cache) (new ≡ tables_in c.self.inside.cache.entries) (ap (λ (k : Kept). tables_in k.entries)) c.table_entry.ensures.same)
    (λ absent. ok_where c.table_entry.result (Tells s) (IsSure s.world) (unwrap_or (table_of (t / 256) new) _ ≡ bytes_at file word 2048) (c.table_entry.ensures.read absent) told sure))

pub returns-clause-kept : goal.returns-clause-kept
returns-clause-kept g c =
    let was = c.self.inside in
    let old : TableView = record { layout = was.layout; words = was.words.items; stages = was.stages; cached = tables_in was.cache.entries } in
    let new = tables_in c.table_entry.new.cache.entries in
    subst (λ (v : TableView). KeepsCached (c.args.t.0 / 256) v.cached new) c.self.view_is
    (keeps_looked old [] c.args.t.0 0 new c.table_entry.result c.self.invariant.0.few c.table_entry.ensures.used (on_err c.table_entry.result (c.table_entry.new.cache ≡ c.self.inside.cache) (new ≡ tables_in c.self.inside.cache.entries) (ap (λ (k : Kept). tables_in k.entries)) c.table_entry.ensures.same))
