use Rattle.std.proofs.Common.{◌≡◌, ◌<◌, ℕ, List, [], length, Option, Some, refl, sym, ◌∙◌, ap, subst, arith}
use Rattle.cckd_shelf.specs.Seen.{seen}
use Rattle.cckd_base.specs.declared.geometry.Layout.{Layout}
use Rattle.cckd_base.specs.declared.entry.L2Entry.{L2Entry}
use Rattle.cckd_shelf.specs.World.{file_of}
use Rattle.cckd_base.specs.Entry.{bytes_by_entry}
use Rattle.cckd_base.specs.Geometry.{track_count}
use Rattle.cckd_space.specs.Pieces.{aligned_up}
use Rattle.cckd_layer.specs.Mounted.{LayerState}
use Rattle.cckd_layer.specs.Writes.{KeepsMapWith, StoresIn, claim_of, claims_of, entry_now}
use Rattle.cckd_layer.specs.Storing.{stored_as, padded, need_of, IsStoredOf, CanPlace, entry_of_stored}
use Rattle.cckd_layer.proofs.ThenLemmas.{act_still, act_then, maps_then}
use Rattle.cckd_layer.proofs.PlacedLemmas.{stores_then}
use Rattle.cckd_layer.proofs.StoreLemmas.{one_after}
use Rattle.cckd_layer.proofs.StoredLemmas.{IsPut, noted, can_place, gives_stored, claimed_first, need_is}
use Rattle.cckd_layer.proofs.HeadedLemmas.{marks_none, mark_behind}
use Rattle.cckd_layer.proofs.TakenLemmas.{stages_by}
use Rattle.cckd_layer.proofs.layer.Layer.store.Goals as goal

pub returns-in-Err-put_track-clause-act : goal.returns-in-Err-put_track-clause-act
returns-in-Err-put_track-clause-act g c =
    let null = g.U.Unit.null_bytes in
    let s = c.args.self.now in
    let m = c.prepare.new.self in
    let u = c.put_track.new.self in
    let a = seen g.T.Shows c.args.stage.now in
    let b = seen g.T.Shows c.prepare.new.stage in
    let d = seen g.T.Shows c.put_track.new.stage in
    let st = c.in-Ok.prepared.stored in
    let room = c.in-Ok.prepared.room in
    let t = c.args.t.0 in
    let value = stored_as g.U.Unit.value c.args.form c.args.bytes.now in
    let claims = claims_of (need_of st) room.places in
    let sameM = c.prepare.ensures.act.same in
    let storedM = subst (λ (l : Layout). IsStoredOf null l.geo t value st) (sym sameM.layout) c.in-Ok.ensures.stored in
    let claimed = claimed_first st room.places.track room.places.table (aligned_up (length c.args.bytes.now)) c.in-Ok.ensures.room.track (need_is null m t value st (length c.args.bytes.now) c.in-Ok.ensures.long storedM) in
    let map : KeepsMapWith [] claims null s m a b = λ told agrees. (c.in-Ok.ensures.prepared told agrees).again in
    let one = act_then [] claims null s m u a b d (λ told. told) c.prepare.ensures.act map (c.put_track.ensures.act claims claimed) in
    one

pub returns-clause-act : goal.returns-clause-act
returns-clause-act g c =
    let null = g.U.Unit.null_bytes in
    let s = c.args.self.now in
    let m = c.prepare.new.self in
    let u = c.put_track.new.self in
    let a = seen g.T.Shows c.args.stage.now in
    let b = seen g.T.Shows c.prepare.new.stage in
    let d = seen g.T.Shows c.put_track.new.stage in
    let st = c.in-Ok.prepared.stored in
    let room = c.in-Ok.prepared.room in
    let t = c.args.t.0 in
    let value = stored_as g.U.Unit.value c.args.form c.args.bytes.now in
    let claims = claims_of (need_of st) room.places in
    let sameM = c.prepare.ensures.act.same in
    let storedM = subst (λ (l : Layout). IsStoredOf null l.geo t value st) (sym sameM.layout) c.in-Ok.ensures.stored in
    let claimed = claimed_first st room.places.track room.places.table (aligned_up (length c.args.bytes.now)) c.in-Ok.ensures.room.track (need_is null m t value st (length c.args.bytes.now) c.in-Ok.ensures.long storedM) in
    let map : KeepsMapWith [] claims null s m a b = λ told agrees. (c.in-Ok.ensures.prepared told agrees).again in
    let one = act_then [] claims null s m u a b d (λ told. told) c.prepare.ensures.act map (c.put_track.ensures.act claims claimed) in
    let n = c.stage_places.new.self in
    let both = maps_then [] claims claims null s m u a b d (λ told. told) sameM map (c.in_default.ensures.map claims claimed) in
    act_then [] claims null s u n a d d (λ told. told) one both (act_still claims null u n d d c.stage_places.ensures.same (λ told. refl))

pub returns-clause-stores : goal.returns-clause-stores
returns-clause-stores g c = λ told agrees.
    let null = g.U.Unit.null_bytes in
    let s = c.args.self.now in
    let m = c.prepare.new.self in
    let u = c.put_track.new.self in
    let a = seen g.T.Shows c.args.stage.now in
    let b = seen g.T.Shows c.prepare.new.stage in
    let d = seen g.T.Shows c.put_track.new.stage in
    let st = c.in-Ok.prepared.stored in
    let room = c.in-Ok.prepared.room in
    let t = c.args.t.0 in
    let value = stored_as g.U.Unit.value c.args.form c.args.bytes.now in
    let claims = claims_of (need_of st) room.places in
    let sameM = c.prepare.ensures.act.same in
    let storedM = subst (λ (l : Layout). IsStoredOf null l.geo t value st) (sym sameM.layout) c.in-Ok.ensures.stored in
    let claimed = claimed_first st room.places.track room.places.table (aligned_up (length c.args.bytes.now)) c.in-Ok.ensures.room.track (need_is null m t value st (length c.args.bytes.now) c.in-Ok.ensures.long storedM) in
    let map : KeepsMapWith [] claims null s m a b = λ told agrees. (c.in-Ok.ensures.prepared told agrees).again in
    let one = act_then [] claims null s m u a b d (λ told. told) c.prepare.ensures.act map (c.put_track.ensures.act claims claimed) in
    let n = c.stage_places.new.self in
    let e = c.entry-entry.result in
    let p = c.in-Ok.ensures.prepared told agrees in
    let sameU = (c.put_track.ensures.act claims claimed).same in
    let tables : u.tables ≡ m.tables = ap (λ (x : LayerState). x.tables) c.in_default.ensures.rest in
    let again = c.in_default.ensures.map claims claimed told p.again.agrees in
    let low = subst (λ (l : Layout). t < track_count l.geo) (sym sameM.layout) c.requires.track in
    let is : IsPut null m u t c.in-Ok.prepared.old room.len room.places.track room.places.table st value b d = record {
      same = sameU;
      tables = tables;
      low = low;
      stored = storedM;
      some = omega (arith, c.in-Ok.ensures.long, c.requires.some);
      short = omega (arith, c.in-Ok.ensures.long, c.requires.short);
      given = c.in-Ok.ensures.room.track;
      again = again;
      put = c.in_default.ensures.put claims told p.again.agrees;
      new = p.suits.new;
      points = p.points;
      length_is = p.suits.length_is;
    } in
    let ways = can_place null m u t c.in-Ok.prepared.old room.len room.places.track room.places.table st value b d is in
    let long : c.max-len.result ≡ noted room.len e = omega (arith, c.max-len.ensures, c.saturating_add.ensures, c.from.ensures) in
    let claim = claim_of (need_of st) room.places.track in
    let can = subst (λ (k : ℕ). CanPlace claim u t c.in-Ok.prepared.old room.places.table e k d) (sym long)
    (subst (λ (x : L2Entry). CanPlace claim u t c.in-Ok.prepared.old room.places.table x (noted room.len x) d) (sym c.entry-entry.ensures) ways) in
    let gives = ap (λ (x : L2Entry). bytes_by_entry null u.tables.layout (file_of d.world u.slot) t x) c.entry-entry.ensures
    ∙ gives_stored null m u t c.in-Ok.prepared.old room.len room.places.track room.places.table st value b d is in
    let put = subst (λ (o : Option (List ℕ)). StoresIn [] null u n t o d d) gives (c.stage_places.ensures.map claim d can told) in
    let both = maps_then [] claims claims null s m u a b d (λ x. x) sameM map (c.in_default.ensures.map claims claimed) in
    stores_then [] null s u n t (Some value) a d d one.same (both told agrees).same put

pub returns-clause-placed : goal.returns-clause-placed
returns-clause-placed g c = λ told agrees.
    let null = g.U.Unit.null_bytes in
    let s = c.args.self.now in
    let m = c.prepare.new.self in
    let u = c.put_track.new.self in
    let a = seen g.T.Shows c.args.stage.now in
    let b = seen g.T.Shows c.prepare.new.stage in
    let d = seen g.T.Shows c.put_track.new.stage in
    let st = c.in-Ok.prepared.stored in
    let room = c.in-Ok.prepared.room in
    let t = c.args.t.0 in
    let value = stored_as g.U.Unit.value c.args.form c.args.bytes.now in
    let claims = claims_of (need_of st) room.places in
    let sameM = c.prepare.ensures.act.same in
    let storedM = subst (λ (l : Layout). IsStoredOf null l.geo t value st) (sym sameM.layout) c.in-Ok.ensures.stored in
    let claimed = claimed_first st room.places.track room.places.table (aligned_up (length c.args.bytes.now)) c.in-Ok.ensures.room.track (need_is null m t value st (length c.args.bytes.now) c.in-Ok.ensures.long storedM) in
    let map : KeepsMapWith [] claims null s m a b = λ told agrees. (c.in-Ok.ensures.prepared told agrees).again in
    let one = act_then [] claims null s m u a b d (λ told. told) c.prepare.ensures.act map (c.put_track.ensures.act claims claimed) in
    let n = c.stage_places.new.self in
    let e = c.entry-entry.result in
    let p = c.in-Ok.ensures.prepared told agrees in
    let sameU = (c.put_track.ensures.act claims claimed).same in
    let tables : u.tables ≡ m.tables = ap (λ (x : LayerState). x.tables) c.in_default.ensures.rest in
    let again = c.in_default.ensures.map claims claimed told p.again.agrees in
    let low = subst (λ (l : Layout). t < track_count l.geo) (sym sameM.layout) c.requires.track in
    let is : IsPut null m u t c.in-Ok.prepared.old room.len room.places.track room.places.table st value b d = record {
      same = sameU;
      tables = tables;
      low = low;
      stored = storedM;
      some = omega (arith, c.in-Ok.ensures.long, c.requires.some);
      short = omega (arith, c.in-Ok.ensures.long, c.requires.short);
      given = c.in-Ok.ensures.room.track;
      again = again;
      put = c.in_default.ensures.put claims told p.again.agrees;
      new = p.suits.new;
      points = p.points;
      length_is = p.suits.length_is;
    } in
    let ways = can_place null m u t c.in-Ok.prepared.old room.len room.places.track room.places.table st value b d is in
    let long : c.max-len.result ≡ noted room.len e = omega (arith, c.max-len.ensures, c.saturating_add.ensures, c.from.ensures) in
    let eq = c.entry-entry.ensures in
    let at = p.points ∙ ap (λ (x : L2Entry). x.pos) (p.again.entries t c.requires.track) in
    record {
      kept = st;
      is_kept = c.in-Ok.ensures.stored;
      places = room.places;
      found = m;
      moment = b;
      taken = c.in-Ok.ensures.taken told agrees;
      staged = stages_by m u n t c.in-Ok.prepared.old (entry_now s a t).pos room.places.table e (entry_of_stored st room.places.track) c.max-len.result (length (file_of d.world s.slot)) tables
          (ap (λ (x : LayerState). x.plan) c.in_default.ensures.rest) at
          (λ staged. long ∙ (ap (λ (x : L2Entry). noted room.len x) eq ∙ (ways.length_is staged ∙ ap (λ (k : ℕ). length (file_of d.world k)) one.same.slot))) eq c.stage_places.ensures.stages;
    }

pub returns-in-Err-put_track-clause-alone : goal.returns-in-Err-put_track-clause-alone
returns-in-Err-put_track-clause-alone g c = λ told agrees marked free spare room.
    let s = c.args.self.now in
    let m = c.prepare.new.self in
    let value = stored_as g.U.Unit.value c.args.form c.args.bytes.now in
    let p = c.prepare.ensures.alone told agrees free spare room in
    one_after s.slot m.slot (padded value) (seen g.T.Shows c.args.stage.now) (seen g.T.Shows c.prepare.new.stage) (seen g.T.Shows c.put_track.new.stage) (λ x. x) c.prepare.ensures.act.same.slot p.0 (c.put_track.ensures.alone (p.1 ∙ marked))

pub returns-clause-alone : goal.returns-clause-alone
returns-clause-alone g c = λ told agrees marked free spare room.
    let s = c.args.self.now in
    let m = c.prepare.new.self in
    let value = stored_as g.U.Unit.value c.args.form c.args.bytes.now in
    let p = c.prepare.ensures.alone told agrees free spare room in
    one_after s.slot m.slot (padded value) (seen g.T.Shows c.args.stage.now) (seen g.T.Shows c.prepare.new.stage) (seen g.T.Shows c.put_track.new.stage) (λ x. x) c.prepare.ensures.act.same.slot p.0 (c.put_track.ensures.alone (p.1 ∙ marked))

pub returns-in-Err-clause-marks : goal.returns-in-Err-clause-marks
returns-in-Err-clause-marks g c = marks_none c.args.self.now (seen g.T.Shows c.args.stage.now) (seen g.T.Shows c.prepare.new.stage) c.prepare.ensures.headers

pub returns-in-Err-put_track-clause-marks : goal.returns-in-Err-put_track-clause-marks
returns-in-Err-put_track-clause-marks g c =
    let null = g.U.Unit.null_bytes in
    let s = c.args.self.now in
    let m = c.prepare.new.self in
    let a = seen g.T.Shows c.args.stage.now in
    let b = seen g.T.Shows c.prepare.new.stage in
    let d = seen g.T.Shows c.put_track.new.stage in
    let st = c.in-Ok.prepared.stored in
    let room = c.in-Ok.prepared.room in
    let t = c.args.t.0 in
    let value = stored_as g.U.Unit.value c.args.form c.args.bytes.now in
    let claims = claims_of (need_of st) room.places in
    let sameM = c.prepare.ensures.act.same in
    let storedM = subst (λ (l : Layout). IsStoredOf null l.geo t value st) (sym sameM.layout) c.in-Ok.ensures.stored in
    let claimed = claimed_first st room.places.track room.places.table (aligned_up (length c.args.bytes.now)) c.in-Ok.ensures.room.track (need_is null m t value st (length c.args.bytes.now) c.in-Ok.ensures.long storedM) in
    mark_behind claims s m a b d (λ told. told) sameM.slot c.in-Ok.ensures.steady (λ told agrees. (c.in-Ok.ensures.prepared told agrees).again.agrees) c.prepare.ensures.headers (c.put_track.ensures.marks claims claimed)

pub returns-clause-marks : goal.returns-clause-marks
returns-clause-marks g c =
    let null = g.U.Unit.null_bytes in
    let s = c.args.self.now in
    let m = c.prepare.new.self in
    let a = seen g.T.Shows c.args.stage.now in
    let b = seen g.T.Shows c.prepare.new.stage in
    let d = seen g.T.Shows c.put_track.new.stage in
    let st = c.in-Ok.prepared.stored in
    let room = c.in-Ok.prepared.room in
    let t = c.args.t.0 in
    let value = stored_as g.U.Unit.value c.args.form c.args.bytes.now in
    let claims = claims_of (need_of st) room.places in
    let sameM = c.prepare.ensures.act.same in
    let storedM = subst (λ (l : Layout). IsStoredOf null l.geo t value st) (sym sameM.layout) c.in-Ok.ensures.stored in
    let claimed = claimed_first st room.places.track room.places.table (aligned_up (length c.args.bytes.now)) c.in-Ok.ensures.room.track (need_is null m t value st (length c.args.bytes.now) c.in-Ok.ensures.long storedM) in
    mark_behind claims s m a b d (λ told. told) sameM.slot c.in-Ok.ensures.steady (λ told agrees. (c.in-Ok.ensures.prepared told agrees).again.agrees) c.prepare.ensures.headers (c.put_track.ensures.marks claims claimed)
