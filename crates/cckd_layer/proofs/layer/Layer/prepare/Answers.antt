use Rattle.std.proofs.Common.{[], Result, Err, sym, ◌∙◌, ap, subst}
use Rattle.cckd_shelf.specs.Seen.{seen, Tells}
use Rattle.cckd_shelf.specs.World.{IsSure}
use Rattle.cckd_base.specs.declared.geometry.Layout.{Layout}
use Rattle.cckd_base.specs.declared.layer_fault.LayerFault.{LayerFault}
use Rattle.cckd_layer.specs.Storing.{IsStoredOf, stored_as, need_of}
use Rattle.cckd_layer.specs.Mounted.{LayerState, CanRead}
use Rattle.cckd_layer.specs.Writes.{Agrees, IsAct, KeepsMapWith, claims_of}
use Rattle.cckd_layer.specs.Preparing.{IsNoRoomIn, SuitsFile}
use Rattle.cckd_layer.proofs.CallerLemmas.{agrees_reads}
use Rattle.cckd_layer.proofs.SureLemmas.{sure_spared}
use Rattle.cckd_layer.proofs.ThenLemmas.{same_file_twice, act_still, act_then, maps_then}
use Rattle.cckd_layer.proofs.PrepareLemmas.{kept_unread, map_same, looked_same}
use Rattle.cckd_layer.proofs.ReadyLemmas.{outside_refusal, no_room_refusal, prepared, ready_still}
use Rattle.cckd_layer.specs.Calm.{KeepsUnharmed}
use Rattle.cckd_layer.proofs.CalmLemmas.{looked_unharmed, unharmed_then, unread_unharmed, freed_unharmed}
use Rattle.cckd_layer.specs.Headed.{KeepsHeaders, StaysSteady}
use Rattle.cckd_layer.proofs.HeadedLemmas.{headers_still, headers_then, steady_looked}
use Rattle.cckd_layer.proofs.TakenLemmas.{taken_by}
use Rattle.cckd_layer.proofs.layer.Layer.prepare.Goals as goal

pub make_free_stages-requires-clause-can_read : goal.make_free_stages-requires-clause-can_read
make_free_stages-requires-clause-can_read g c = agrees_reads c.args.self.now (seen g.T.Shows c.args.stage.now) c.requires.agrees

pub returns-in-Err-clause-kept : goal.returns-in-Err-clause-kept
returns-in-Err-clause-kept g c =
    let null = g.U.Unit.null_bytes in
    let s = c.args.self.now in
    let m = c.make_free_stages.new.self in
    let a = seen g.T.Shows c.args.stage.now in
    let b = seen g.T.Shows c.make_free_stages.new.stage in
    kept_unread null s s m a a b c.in-Err.fault (λ why. c.in-Err.ensures.read (let failed : LayerFault → Result (Unit {0}) LayerFault = λ x. Err x in ap failed why)) c.in-Err.ensures.refusal (λ told. told) (map_same null s a)

pub returns-in-Err-clause-refusal : goal.returns-in-Err-clause-refusal
returns-in-Err-clause-refusal g c =
    outside_refusal g.U.Unit.null_bytes c.args.self.now c.make_free_stages.new.self (seen g.T.Shows c.args.stage.now) (seen g.T.Shows c.make_free_stages.new.stage) c.args.t.0 (stored_as g.U.Unit.value c.args.form c.args.bytes.now)
    c.in-Err.fault c.in-Err.ensures.refusal

pub find_entry-requires-clause-can_read : goal.find_entry-requires-clause-can_read
find_entry-requires-clause-can_read g c =
    let null = g.U.Unit.null_bytes in
    let s = c.args.self.now in
    let m = c.make_free_stages.new.self in
    let a = seen g.T.Shows c.args.stage.now in
    let b = seen g.T.Shows c.make_free_stages.new.stage in
    let was = sure_spared s.slot a.world b.world in
    agrees_reads m b (λ told sure. (c.in_default.ensures.map told (c.requires.agrees told (was (c.make_free_stages.ensures.act.others told) sure))).agrees)

pub find_places-requires-clause-can_read : goal.find_places-requires-clause-can_read
find_places-requires-clause-can_read g c =
    let null = g.U.Unit.null_bytes in
    let s = c.args.self.now in
    let m = c.make_free_stages.new.self in
    let a = seen g.T.Shows c.args.stage.now in
    let b = seen g.T.Shows c.make_free_stages.new.stage in
    let f = c.find_entry.new.self in
    let h = c.stored-stored.new.self in
    let d = seen g.T.Shows c.find_entry.new.stage in
    let sameF = looked_same m f f.tables.cached c.find_entry.ensures.rest in
    let sameH = c.stored-stored.ensures.same in
    let map = maps_then [] [] [] null s m f a b d (λ told. told) c.make_free_stages.ensures.act.same c.in_default.ensures.map c.find_entry.ensures.map in
    let was = sure_spared s.slot a.world b.world in
    subst (λ (x : LayerState). CanRead x d) (sym sameH)
    (agrees_reads f d (λ told sure.
    (map told (c.requires.agrees told (was (c.make_free_stages.ensures.act.others told) (subst IsSure (c.find_entry.ensures.reads.kept told) sure)))).agrees))

pub returns-in-Ok-find_places-clause-prepared : goal.returns-in-Ok-find_places-clause-prepared
returns-in-Ok-find_places-clause-prepared g c =
    let null = g.U.Unit.null_bytes in
    let s = c.args.self.now in
    let m = c.make_free_stages.new.self in
    let a = seen g.T.Shows c.args.stage.now in
    let b = seen g.T.Shows c.make_free_stages.new.stage in
    let f = c.find_entry.new.self in
    let h = c.stored-stored.new.self in
    let d = seen g.T.Shows c.find_entry.new.stage in
    let sameF = looked_same m f f.tables.cached c.find_entry.ensures.rest in
    let sameH = c.stored-stored.ensures.same in
    let map = maps_then [] [] [] null s m f a b d (λ told. told) c.make_free_stages.ensures.act.same c.in_default.ensures.map c.find_entry.ensures.map in
    let n = c.find_places.new.self in
    let e = seen g.T.Shows c.find_places.new.stage in
    let room = c.in-Ok-find_places.room in
    let t = c.args.t.0 in
    let placed = subst (λ (x : LayerState). KeepsMapWith [] (claims_of c.need.result room.places) null x n d e) sameH c.in-Ok-find_places.ensures.map in
    let suits = subst (λ (x : LayerState). Tells d → Agrees x d.world → SuitsFile n t room e.world) sameH c.in-Ok-find_places.ensures.suits in
    prepared null s m f n a b d e t c.in-Ok.entry c.stored-stored.result room c.need.result (λ told. told) (λ told. told) c.make_free_stages.ensures.act.same sameF c.requires.track
    c.need.ensures c.in_default.ensures.map c.find_entry.ensures.map placed c.in-Ok.ensures.entry suits

pub returns-in-Ok-find_places-clause-taken : goal.returns-in-Ok-find_places-clause-taken
returns-in-Ok-find_places-clause-taken g c = λ told agrees.
    let null = g.U.Unit.null_bytes in
    let s = c.args.self.now in
    let m = c.make_free_stages.new.self in
    let a = seen g.T.Shows c.args.stage.now in
    let b = seen g.T.Shows c.make_free_stages.new.stage in
    let f = c.find_entry.new.self in
    let d = seen g.T.Shows c.find_entry.new.stage in
    let map = maps_then [] [] [] null s m f a b d (λ x. x) c.make_free_stages.ensures.act.same c.in_default.ensures.map c.find_entry.ensures.map in
    taken_by null s m f c.stored-stored.new.self c.find_places.new.self a d (seen g.T.Shows c.find_places.new.stage) c.args.t.0 c.need.result (need_of c.stored-stored.result) c.in-Ok-find_places.room.places
    (λ free. let still = c.make_free_stages.ensures.still free in still.1) c.in_default.ensures.few c.find_entry.ensures.rest c.stored-stored.ensures.same (map told agrees) c.need.ensures
    (λ there. c.in-Ok-find_places.ensures.takes told there)

pub returns-in-Ok-find_places-clause-act : goal.returns-in-Ok-find_places-clause-act
returns-in-Ok-find_places-clause-act g c =
    let null = g.U.Unit.null_bytes in
    let s = c.args.self.now in
    let m = c.make_free_stages.new.self in
    let a = seen g.T.Shows c.args.stage.now in
    let b = seen g.T.Shows c.make_free_stages.new.stage in
    let f = c.find_entry.new.self in
    let h = c.stored-stored.new.self in
    let d = seen g.T.Shows c.find_entry.new.stage in
    let sameF = looked_same m f f.tables.cached c.find_entry.ensures.rest in
    let sameH = c.stored-stored.ensures.same in
    let map = maps_then [] [] [] null s m f a b d (λ told. told) c.make_free_stages.ensures.act.same c.in_default.ensures.map c.find_entry.ensures.map in
    let n = c.find_places.new.self in
    let e = seen g.T.Shows c.find_places.new.stage in
    let first = act_then [] [] null s m f a b d (λ told. told) c.make_free_stages.ensures.act c.in_default.ensures.map (act_still [] null m f b d sameF c.find_entry.ensures.reads.kept) in
    act_then [] [] null s f n a d e (λ told. told) first map (subst (λ (x : LayerState). IsAct [] null x n d e) sameH c.find_places.ensures.act)

pub returns-in-Err-find_places-clause-act : goal.returns-in-Err-find_places-clause-act
returns-in-Err-find_places-clause-act g c =
    let null = g.U.Unit.null_bytes in
    let s = c.args.self.now in
    let m = c.make_free_stages.new.self in
    let a = seen g.T.Shows c.args.stage.now in
    let b = seen g.T.Shows c.make_free_stages.new.stage in
    let f = c.find_entry.new.self in
    let h = c.stored-stored.new.self in
    let d = seen g.T.Shows c.find_entry.new.stage in
    let sameF = looked_same m f f.tables.cached c.find_entry.ensures.rest in
    let sameH = c.stored-stored.ensures.same in
    let map = maps_then [] [] [] null s m f a b d (λ told. told) c.make_free_stages.ensures.act.same c.in_default.ensures.map c.find_entry.ensures.map in
    let n = c.find_places.new.self in
    let e = seen g.T.Shows c.find_places.new.stage in
    let first = act_then [] [] null s m f a b d (λ told. told) c.make_free_stages.ensures.act c.in_default.ensures.map (act_still [] null m f b d sameF c.find_entry.ensures.reads.kept) in
    act_then [] [] null s f n a d e (λ told. told) first map (subst (λ (x : LayerState). IsAct [] null x n d e) sameH c.find_places.ensures.act)

pub returns-in-Err-find_places-clause-refusal : goal.returns-in-Err-find_places-clause-refusal
returns-in-Err-find_places-clause-refusal g c =
    let null = g.U.Unit.null_bytes in
    let s = c.args.self.now in
    let m = c.make_free_stages.new.self in
    let a = seen g.T.Shows c.args.stage.now in
    let b = seen g.T.Shows c.make_free_stages.new.stage in
    let f = c.find_entry.new.self in
    let h = c.stored-stored.new.self in
    let d = seen g.T.Shows c.find_entry.new.stage in
    let sameF = looked_same m f f.tables.cached c.find_entry.ensures.rest in
    let sameH = c.stored-stored.ensures.same in
    let map = maps_then [] [] [] null s m f a b d (λ told. told) c.make_free_stages.ensures.act.same c.in_default.ensures.map c.find_entry.ensures.map in
    let n = c.find_places.new.self in
    let e = seen g.T.Shows c.find_places.new.stage in
    let full = subst (λ (x : LayerState). IsNoRoomIn x n d e c.args.t.0 c.need.result c.in-Err-find_places.fault) sameH c.in-Err-find_places.ensures.full in
    let value = stored_as g.U.Unit.value c.args.form c.args.bytes.now in
    let stored = subst (λ (l : Layout). IsStoredOf null l.geo c.args.t.0 value c.stored-stored.result) (sameF.layout ∙ c.make_free_stages.ensures.act.same.layout) c.stored-stored.ensures.stored in
    no_room_refusal null s n a e c.args.t.0 value c.stored-stored.result c.need.result c.in-Err-find_places.fault c.need.ensures stored c.in-Err-find_places.ensures.kind (λ told agrees. full told (map told agrees).agrees)

pub returns-in-Ok-find_places-clause-alone : goal.returns-in-Ok-find_places-clause-alone
returns-in-Ok-find_places-clause-alone g c = λ told agrees free spare room.
    let null = g.U.Unit.null_bytes in
    let s = c.args.self.now in
    let m = c.make_free_stages.new.self in
    let a = seen g.T.Shows c.args.stage.now in
    let b = seen g.T.Shows c.make_free_stages.new.stage in
    let f = c.find_entry.new.self in
    let h = c.stored-stored.new.self in
    let d = seen g.T.Shows c.find_entry.new.stage in
    let sameF = looked_same m f f.tables.cached c.find_entry.ensures.rest in
    let sameH = c.stored-stored.ensures.same in
    let map = maps_then [] [] [] null s m f a b d (λ told. told) c.make_free_stages.ensures.act.same c.in_default.ensures.map c.find_entry.ensures.map in
    let n = c.find_places.new.self in
    let e = seen g.T.Shows c.find_places.new.stage in
    let value = stored_as g.U.Unit.value c.args.form c.args.bytes.now in
    let stored = subst (λ (l : Layout). IsStoredOf null l.geo c.args.t.0 value c.stored-stored.result) (sameF.layout ∙ c.make_free_stages.ensures.act.same.layout) c.stored-stored.ensures.stored in
    let still = c.make_free_stages.ensures.still free in
    ready_still null s m f h n a b d e c.args.t.0 c.stored-stored.result c.need.result value f.tables.cached (λ x. x) (λ x. x) still.1 still.2 c.find_entry.ensures.rest c.find_entry.ensures.reads.kept sameH c.need.ensures stored room spare
    (λ x y. (map x y).agrees) c.find_places.ensures.finds told agrees

pub returns-in-Err-find_places-clause-alone : goal.returns-in-Err-find_places-clause-alone
returns-in-Err-find_places-clause-alone g c = λ told agrees free spare room.
    let null = g.U.Unit.null_bytes in
    let s = c.args.self.now in
    let m = c.make_free_stages.new.self in
    let a = seen g.T.Shows c.args.stage.now in
    let b = seen g.T.Shows c.make_free_stages.new.stage in
    let f = c.find_entry.new.self in
    let h = c.stored-stored.new.self in
    let d = seen g.T.Shows c.find_entry.new.stage in
    let sameF = looked_same m f f.tables.cached c.find_entry.ensures.rest in
    let sameH = c.stored-stored.ensures.same in
    let map = maps_then [] [] [] null s m f a b d (λ told. told) c.make_free_stages.ensures.act.same c.in_default.ensures.map c.find_entry.ensures.map in
    let n = c.find_places.new.self in
    let e = seen g.T.Shows c.find_places.new.stage in
    let value = stored_as g.U.Unit.value c.args.form c.args.bytes.now in
    let stored = subst (λ (l : Layout). IsStoredOf null l.geo c.args.t.0 value c.stored-stored.result) (sameF.layout ∙ c.make_free_stages.ensures.act.same.layout) c.stored-stored.ensures.stored in
    let still = c.make_free_stages.ensures.still free in
    ready_still null s m f h n a b d e c.args.t.0 c.stored-stored.result c.need.result value f.tables.cached (λ x. x) (λ x. x) still.1 still.2 c.find_entry.ensures.rest c.find_entry.ensures.reads.kept sameH c.need.ensures stored room spare
    (λ x y. (map x y).agrees) c.find_places.ensures.finds told agrees

pub returns-in-Err-find_places-clause-kept : goal.returns-in-Err-find_places-clause-kept
returns-in-Err-find_places-clause-kept g c = λ denial.
    let null = g.U.Unit.null_bytes in
    let s = c.args.self.now in
    let m = c.make_free_stages.new.self in
    let a = seen g.T.Shows c.args.stage.now in
    let b = seen g.T.Shows c.make_free_stages.new.stage in
    let f = c.find_entry.new.self in
    let d = seen g.T.Shows c.find_entry.new.stage in
    let n = c.find_places.new.self in
    let e = seen g.T.Shows c.find_places.new.stage in
    let sameM = c.make_free_stages.ensures.act.same in
    let sameF = looked_same m f f.tables.cached c.find_entry.ensures.rest in
    let map = maps_then [] [] [] null s m f a b d (λ told. told) sameM c.in_default.ensures.map c.find_entry.ensures.map in
    maps_then [] [] [] null s f n a d e (λ told. told) (same_file_twice s m f sameM sameF) map
    (subst (λ (x : LayerState). KeepsMapWith [] [] null x n d e) c.stored-stored.ensures.same (c.in-Err-find_places.ensures.kept denial))

pub returns-in-Err-clause-unharmed : goal.returns-in-Err-clause-unharmed
returns-in-Err-clause-unharmed g c =
    unread_unharmed c.args.self.now c.make_free_stages.new.self (seen g.T.Shows c.args.stage.now) (seen g.T.Shows c.make_free_stages.new.stage) c.in-Err.fault
    (λ why. c.in-Err.ensures.read (let failed : LayerFault → Result (Unit {0}) LayerFault = λ x. Err x in ap failed why)) c.in-Err.ensures.refusal

pub returns-in-Err-find_entry-clause-unharmed : goal.returns-in-Err-find_entry-clause-unharmed
returns-in-Err-find_entry-clause-unharmed g c = λ denial.
    let null = g.U.Unit.null_bytes in
    let s = c.args.self.now in
    let m = c.make_free_stages.new.self in
    let f = c.find_entry.new.self in
    let a = seen g.T.Shows c.args.stage.now in
    let b = seen g.T.Shows c.make_free_stages.new.stage in
    let d = seen g.T.Shows c.find_entry.new.stage in
    let freed = freed_unharmed s m a b c.in_default.ensures.marked (λ free. let r = c.make_free_stages.ensures.still free in (r.1, r.2)) in
    let looked = looked_unharmed m f b d (ap (λ (x : LayerState). x.marked) c.find_entry.ensures.rest) (ap (λ (x : LayerState). x.hardened) c.find_entry.ensures.rest) c.find_entry.ensures.reads.kept in
    let one = unharmed_then null s m f a b d (λ told. told) c.make_free_stages.ensures.act.same c.in_default.ensures.map freed looked in
    one

pub returns-in-Err-find_places-clause-unharmed : goal.returns-in-Err-find_places-clause-unharmed
returns-in-Err-find_places-clause-unharmed g c = λ denial.
    let null = g.U.Unit.null_bytes in
    let s = c.args.self.now in
    let m = c.make_free_stages.new.self in
    let f = c.find_entry.new.self in
    let a = seen g.T.Shows c.args.stage.now in
    let b = seen g.T.Shows c.make_free_stages.new.stage in
    let d = seen g.T.Shows c.find_entry.new.stage in
    let freed = freed_unharmed s m a b c.in_default.ensures.marked (λ free. let r = c.make_free_stages.ensures.still free in (r.1, r.2)) in
    let looked = looked_unharmed m f b d (ap (λ (x : LayerState). x.marked) c.find_entry.ensures.rest) (ap (λ (x : LayerState). x.hardened) c.find_entry.ensures.rest) c.find_entry.ensures.reads.kept in
    let one = unharmed_then null s m f a b d (λ told. told) c.make_free_stages.ensures.act.same c.in_default.ensures.map freed looked in
    let h = c.stored-stored.new.self in
    let n = c.find_places.new.self in
    let e = seen g.T.Shows c.find_places.new.stage in
    let sameF = looked_same m f f.tables.cached c.find_entry.ensures.rest in
    let map = maps_then [] [] [] null s m f a b d (λ told. told) c.make_free_stages.ensures.act.same c.in_default.ensures.map c.find_entry.ensures.map in
    let file = same_file_twice s m f c.make_free_stages.ensures.act.same sameF in
    let last = subst (λ (x : LayerState). KeepsUnharmed x n d e) c.stored-stored.ensures.same (c.in-Err-find_places.ensures.unharmed denial) in
    unharmed_then null s f n a d e (λ told. told) file map one last

pub returns-in-Err-find_entry-clause-headers : goal.returns-in-Err-find_entry-clause-headers
returns-in-Err-find_entry-clause-headers g c =
    let null = g.U.Unit.null_bytes in
    let s = c.args.self.now in
    let m = c.make_free_stages.new.self in
    let a = seen g.T.Shows c.args.stage.now in
    let b = seen g.T.Shows c.make_free_stages.new.stage in
    let f = c.find_entry.new.self in
    let d = seen g.T.Shows c.find_entry.new.stage in
    let sameF = looked_same m f f.tables.cached c.find_entry.ensures.rest in
    let steady = c.in_default.ensures.steady in
    let one = headers_then s m a b d (λ told. told) c.make_free_stages.ensures.act.same.slot (λ told agrees. (c.in_default.ensures.map told agrees).agrees) (λ told agrees. (steady told agrees).hardened)
    c.make_free_stages.ensures.headers (headers_still m b d c.find_entry.ensures.reads.kept) in
    one

pub returns-in-Ok-find_places-clause-headers : goal.returns-in-Ok-find_places-clause-headers
returns-in-Ok-find_places-clause-headers g c =
    let null = g.U.Unit.null_bytes in
    let s = c.args.self.now in
    let m = c.make_free_stages.new.self in
    let a = seen g.T.Shows c.args.stage.now in
    let b = seen g.T.Shows c.make_free_stages.new.stage in
    let f = c.find_entry.new.self in
    let d = seen g.T.Shows c.find_entry.new.stage in
    let sameF = looked_same m f f.tables.cached c.find_entry.ensures.rest in
    let steady = c.in_default.ensures.steady in
    let one = headers_then s m a b d (λ told. told) c.make_free_stages.ensures.act.same.slot (λ told agrees. (c.in_default.ensures.map told agrees).agrees) (λ told agrees. (steady told agrees).hardened)
    c.make_free_stages.ensures.headers (headers_still m b d c.find_entry.ensures.reads.kept) in
    let map = maps_then [] [] [] null s m f a b d (λ told. told) c.make_free_stages.ensures.act.same c.in_default.ensures.map c.find_entry.ensures.map in
    let e = seen g.T.Shows c.find_places.new.stage in
    headers_then s f a d e (λ told. told) (sameF.slot ∙ c.make_free_stages.ensures.act.same.slot) (λ told agrees. (map told agrees).agrees)
    (λ told agrees hard. ap (λ (x : LayerState). x.hardened) c.find_entry.ensures.rest ∙ (steady told agrees).hardened hard) one
    (subst (λ (x : LayerState). KeepsHeaders x d e) c.stored-stored.ensures.same c.find_places.ensures.headers)

pub returns-in-Err-find_places-clause-headers : goal.returns-in-Err-find_places-clause-headers
returns-in-Err-find_places-clause-headers g c =
    let null = g.U.Unit.null_bytes in
    let s = c.args.self.now in
    let m = c.make_free_stages.new.self in
    let a = seen g.T.Shows c.args.stage.now in
    let b = seen g.T.Shows c.make_free_stages.new.stage in
    let f = c.find_entry.new.self in
    let d = seen g.T.Shows c.find_entry.new.stage in
    let sameF = looked_same m f f.tables.cached c.find_entry.ensures.rest in
    let steady = c.in_default.ensures.steady in
    let one = headers_then s m a b d (λ told. told) c.make_free_stages.ensures.act.same.slot (λ told agrees. (c.in_default.ensures.map told agrees).agrees) (λ told agrees. (steady told agrees).hardened)
    c.make_free_stages.ensures.headers (headers_still m b d c.find_entry.ensures.reads.kept) in
    let map = maps_then [] [] [] null s m f a b d (λ told. told) c.make_free_stages.ensures.act.same c.in_default.ensures.map c.find_entry.ensures.map in
    let e = seen g.T.Shows c.find_places.new.stage in
    headers_then s f a d e (λ told. told) (sameF.slot ∙ c.make_free_stages.ensures.act.same.slot) (λ told agrees. (map told agrees).agrees)
    (λ told agrees hard. ap (λ (x : LayerState). x.hardened) c.find_entry.ensures.rest ∙ (steady told agrees).hardened hard) one
    (subst (λ (x : LayerState). KeepsHeaders x d e) c.stored-stored.ensures.same c.find_places.ensures.headers)

pub returns-in-Ok-find_places-clause-steady : goal.returns-in-Ok-find_places-clause-steady
returns-in-Ok-find_places-clause-steady g c =
    let null = g.U.Unit.null_bytes in
    let s = c.args.self.now in
    let m = c.make_free_stages.new.self in
    let a = seen g.T.Shows c.args.stage.now in
    let b = seen g.T.Shows c.make_free_stages.new.stage in
    let f = c.find_entry.new.self in
    let n = c.find_places.new.self in
    let d = seen g.T.Shows c.find_entry.new.stage in
    let map = maps_then [] [] [] null s m f a b d (λ told. told) c.make_free_stages.ensures.act.same c.in_default.ensures.map c.find_entry.ensures.map in
    let last = subst (λ (x : LayerState). StaysSteady x n d) c.stored-stored.ensures.same c.in-Ok-find_places.ensures.steady in
    λ told agrees. steady_looked s m f n (c.in_default.ensures.steady told agrees) c.find_entry.ensures.rest (last told (map told agrees).agrees)
