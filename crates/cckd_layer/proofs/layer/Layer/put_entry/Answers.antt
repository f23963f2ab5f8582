use Rattle.std.proofs.Common.{◌≡◌, ◌+◌, ◌*◌, ◌%◌, ◌∙◌, ℕ, [], length, rules, sym, ap, subst, arith}
use Rattle.cckd_base.specs.declared.geometry.Layout.{Layout}
use Rattle.cckd_base.specs.Entry.{entry_of}
use Rattle.cckd_shelf.specs.Seen.{seen}
use Rattle.cckd_shelf.specs.World.{after_write, after_sync}
use Rattle.cckd_layer.specs.Mounted.{LayerState}
use Rattle.cckd_layer.specs.Loose.{PassesEnd, IsComplete}
use Rattle.cckd_layer.proofs.CompleteLemmas.{put_complete}
use Rattle.cckd_layer.proofs.layer.Layer.put_entry.Goals as goal

pub returns-in-Ok-clause-completed : goal.returns-in-Ok-clause-completed
returns-in-Ok-clause-completed g c = λ told sure.
    let i = c.self.inside in
    let old = seen g.T.Shows c.args.stage.now in
    let new = seen g.T.Shows c.put_synced.new.shelf in
    let s : LayerState = record { slot = i.slot; header = i.header; tables = i.tables; plan = i.space; marked = i.marked; hardened = i.hardened; broken = i.broken } in
    let t = c.args.excess.track.0 in
    let e = c.args.excess.entry in
    let bytes = c.encode-bytes.result in
    let passes : PassesEnd s old.world t e = subst (λ (x : LayerState). PassesEnd x old.world t e) (sym c.self.view_is) (c.requires.passes told sure) in
    let bare : s.tables.cached ≡ [] = subst (λ (x : LayerState). x.tables.cached ≡ []) (sym c.self.view_is) c.requires.bare in
    let eight : length bytes ≡ 8 = search rules in
    let spelled : entry_of s.tables.layout.order bytes ≡ e = subst (λ (l : Layout). entry_of l.order bytes ≡ e) c.layout-layout.ensures.layout c.encode-bytes.ensures.undone in
    let place : c.from.result + 8 * c.from-2.result ≡ c.word-word.result + 8 * (t % 256) = omega (arith, c.from.ensures, c.from-2.ensures) in
    let made = c.in-Ok.ensures.made told ∙ ap (λ (n : ℕ). after_sync i.slot (after_write i.slot n bytes old.world)) place in
    subst (λ (x : LayerState). IsComplete g.U.Unit.null_bytes x x old new) c.self.view_is
    (put_complete g.U.Unit.null_bytes s old new t c.word-word.result e bytes passes bare c.word-word.ensures eight spelled made)
