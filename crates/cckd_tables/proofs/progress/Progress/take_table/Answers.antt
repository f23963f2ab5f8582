use Rattle.std.proofs.Common.{◌≡◌, ◌*◌, [], ◌∷◌, sym, ap, arith}
use Rattle.cckd_tables.specs.Inside.{items_of_table, tracks_end}
use Rattle.cckd_tables.proofs.TakeLemmas.{takes_none, takes_then, takes_same}
use Rattle.cckd_tables.proofs.ItemLemmas.{no_tracks, next_track}
use Rattle.cckd_tables.proofs.FormedLemmas.{entry_item_formed}
use Rattle.cckd_tables.proofs.progress.Progress.take_table.Goals as goal

pub loop-track-init : goal.loop-track-init
loop-track-init c =
    takes_same c.args.len [] _ c.args.self.now c.args.self.now (sym (no_tracks c.args.l.now c.args.len c.args.bytes.now (256 * c.args.group) (256 * c.args.group) (omega arith)))
    (takes_none c.args.len c.args.self.now c.requires.under_way)

pub take-requires-clause-under_way : goal.take-requires-clause-under_way
take-requires-clause-under_way c = c.loop-track.invariant.under_way

pub take-requires-clause-formed : goal.take-requires-clause-formed
take-requires-clause-formed c = entry_item_formed c.args.l.now c.args.len c.loop-track.track c.decode-entry.result c.entry_item-item.result c.entry_item-item.ensures

pub loop-track-preserved : goal.loop-track-preserved
loop-track-preserved c =
    takes_same c.args.len _ _ c.args.self.now _
    (next_track c.args.l.now c.args.len c.args.bytes.now c.part.result (256 * c.args.group) c.loop-track.track c.decode-entry.result c.entry_item-item.result
    (omega arith) c.part.ensures c.decode-entry.ensures.value c.entry_item-item.ensures)
    (takes_then c.args.len _ (c.entry_item-item.result ∷ []) c.args.self.now c.loop-track.self _ c.loop-track.invariant c.in_ok-take.ensures)

pub returns : goal.returns
returns c =
    let layout = c.requires.layout in
    let all : c.loop-track.track ≡ tracks_end c.args.l.now c.args.group = omega arith in
    takes_same c.args.len _ _ c.args.self.now c.loop-track.self (ap (items_of_table c.args.l.now c.args.len c.args.bytes.now (256 * c.args.group)) all) c.loop-track.invariant
