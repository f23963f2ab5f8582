use Rattle.std.proofs.Common.{◌≡◌, ◌<◌, ℕ, List, length, sym, ◌∙◌, ap, subst, arith}
use Rattle.std.proofs.lemmas.List.{with_items_is}
use Rattle.std.specs.Vec.{with_items}
use Rattle.std.specs.List.{AllByRecursion}
use Rattle.std.specs.List.Sorted.{IsStrictlyIncreasing}
use Rattle.cckd_shelf.specs.Seen.{seen}
use Rattle.cckd_shelf.specs.World.{file_of}
use Rattle.cckd_tables.specs.declared.staged.StagedEntry.{StagedEntry}
use Rattle.cckd_tables.specs.declared.staged.StagedWord.{StagedWord}
use Rattle.cckd_tables.specs.Staging.{Stages}
use Rattle.cckd_tables.specs.Tables.{TableView, AreOf}
use Rattle.cckd_tables.specs.Cached.{tables_in}
use Rattle.cckd_tables.specs.Commit.{AreInOrder, IsCommittedFrom, staged_tracks}
use Rattle.cckd_tables.specs.Making.{Commits}
use Rattle.cckd_tables.specs.Settling.{with_words, AreAllPutOver}
use Rattle.cckd_tables.proofs.CommittedLemmas.{order_of, words_few, tables_committed}
use Rattle.cckd_tables.proofs.tables.Tables.commit.Goals as goal

pub commit-requires-clause-making : goal.commit-requires-clause-making
commit-requires-clause-making g c =
    let was = c.self.inside in
    let order = order_of was.layout was.stages c.self.invariant.0.staged c.self.invariant.0.there in
    record {
      layout = c.self.invariant.0.layout;
      words = ap (λ (l : List ℕ). length l) c.as_slice.ensures.value ∙ c.self.invariant.0.words;
      order = subst (λ (es : List StagedEntry). IsStrictlyIncreasing (staged_tracks es)) (sym c.entries.ensures.entries) order.tracks;
      cache = c.self.invariant.1;
    }

pub commit-requires-clause-order : goal.commit-requires-clause-order
commit-requires-clause-order g c =
    let was = c.self.inside in
    let order = order_of was.layout was.stages c.self.invariant.0.staged c.self.invariant.0.there in
    subst (λ (es : List StagedEntry). AreInOrder was.layout (record { entries = es; words = c.words.result.now })) (sym c.entries.ensures.entries)
    (subst (λ (ws : List StagedWord). AreInOrder was.layout (record { entries = was.stages.entries; words = ws })) (sym c.words.ensures.words) order)

pub commit-requires-clause-room : goal.commit-requires-clause-room
commit-requires-clause-room g c =
    let was = c.self.inside in
    let few = words_few was.layout was.stages c.self.invariant.0.staged c.self.invariant.0.there in
    let same = ap (λ (ws : List StagedWord). length ws) c.words.ensures.words in
    let room = c.self.invariant.2 in
    omega arith

pub settle_words-requires : goal.settle_words-requires
settle_words-requires g c =
    let was = c.self.inside in
    let there = c.self.invariant.0.there.groups in
    let count : was.layout.groups ≡ length c.as_mut_slice.result.now = sym (ap (λ (l : List ℕ). length l) c.as_mut_slice.ensures.value ∙ c.self.invariant.0.words) in
    subst (λ n. AllByRecursion (λ (w : StagedWord). w.group < n) c.words-2.result.now) count
    (subst (λ (ws : List StagedWord). AllByRecursion (λ (w : StagedWord). w.group < was.layout.groups) ws) (sym c.words-2.ensures.words) there)

pub settle_entries-requires-clause-order : goal.settle_entries-requires-clause-order
settle_entries-requires-clause-order g c =
    let was = c.self.inside in
    let order = order_of was.layout was.stages c.self.invariant.0.staged c.self.invariant.0.there in
    subst (λ (es : List StagedEntry). IsStrictlyIncreasing (staged_tracks es)) (sym c.entries-2.ensures.entries) order.tracks

pub returns-clause-of : goal.returns-clause-of
returns-clause-of g c = λ commits.
    let was = c.self.inside in
    let old : TableView = record { layout = was.layout; words = was.words.items; stages = was.stages; cached = tables_in was.cache.entries } in
    let s = seen g.T.Shows c.args.stage.now in
    let slot = c.args.slot in
    let file = file_of s.world slot in
    let left = file_of (g.T.Shows.world c.commit.new.stage) slot in
    let new = tables_in c.settle_entries.new.cache.entries in
    let mine : Commits old.layout old.stages slot s = subst (λ (v : TableView). Commits v.layout v.stages slot s) (sym c.self.view_is) commits in
    let by_words : Commits old.layout (record { entries = c.entries.result.now; words = was.stages.words }) slot s
    → IsCommittedFrom old.layout (record { entries = c.entries.result.now; words = was.stages.words }) file left
    = subst (λ (ws : List StagedWord). Commits old.layout (record { entries = c.entries.result.now; words = ws }) slot s
    → IsCommittedFrom old.layout (record { entries = c.entries.result.now; words = ws }) file left) c.words.ensures.words c.in_ok-commit.ensures.now in
    let by_entries : Commits old.layout old.stages slot s → IsCommittedFrom old.layout old.stages file left
    = subst (λ (es : List StagedEntry). Commits old.layout (record { entries = es; words = was.stages.words }) slot s
    → IsCommittedFrom old.layout (record { entries = es; words = was.stages.words }) file left) c.entries.ensures.entries by_words in
    let done = by_entries mine in
    let of : AreOf old file = subst (λ (v : TableView). AreOf v file) (sym c.self.view_is) (c.requires commits.tells commits.sure) in
    let put : AreAllPutOver old.layout.order old.stages.entries old.cached new
    = subst (λ (es : List StagedEntry). AreAllPutOver old.layout.order es old.cached new) c.entries-2.ensures.entries c.settle_entries.ensures.put in
    let whole : length c.settle_words.new.words ≡ was.words.len = c.settle_words.auto.words ∙ c.as_mut_slice.ensures.len in
    let words : (with_items was.words c.settle_words.new.words).items ≡ with_words old.stages.words old.words
    = with_items_is was.words c.settle_words.new.words whole ∙ c.settle_words.ensures ∙ ap (λ (ws : List StagedWord). with_words ws c.as_mut_slice.result.now) c.words-2.ensures.words
    ∙ ap (with_words old.stages.words) c.as_mut_slice.ensures.value in
    subst (λ (ws : List ℕ). AreOf (record { layout = old.layout; words = ws; stages = c.clear.new.self; cached = new }) left) (sym words)
    (subst (λ (st : Stages). AreOf (record { layout = old.layout; words = with_words old.stages.words old.words; stages = st; cached = new }) left) (sym c.clear.ensures)
    (tables_committed old file left done.0 c.self.invariant.0 of done.1 done.2 new put))
