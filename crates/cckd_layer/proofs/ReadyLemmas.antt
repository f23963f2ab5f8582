-- A layer that is ready for a write, and why it isn't.
use Rattle.std.proofs.Common.{◌≡◌, ◌<◌, ◌≤◌, ℕ, List, [], Option, sym, ◌∙◌, ap, subst}
use Rattle.cckd_shelf.specs.Seen.{Seen, Tells, Stays}
use Rattle.cckd_base.specs.declared.geometry.Layout.{Layout}
use Rattle.cckd_base.specs.declared.entry.L2Entry.{L2Entry}
use Rattle.cckd_base.specs.Geometry.{track_count}
use Rattle.cckd_base.specs.declared.layer_fault.LayerFault.{LayerFault}
use Rattle.cckd_base.specs.declared.layer_fault.LayerFault.TheVariants as fault
use Rattle.cckd_tables.specs.Tables.{CachedTable}
use Rattle.cckd_tables.specs.Looking.{with_cached}
use Rattle.cckd_layer.specs.declared.writing.Stored.{Stored}
use Rattle.cckd_layer.specs.declared.preparing.Room.{Room}
use Rattle.cckd_layer.specs.Held.{NullBytes}
use Rattle.cckd_layer.specs.Mounted.{LayerState, with_tables}
use Rattle.cckd_layer.specs.Writes.{Agrees, KeepsMap, KeepsMapWith, IsOutside, IsSameFile, claims_of, entry_now}
use Rattle.cckd_layer.specs.Preparing.{SuitsFile, LacksRoom, IsNoRoom, IsUnwritten, IsUntouched, FindsRoom}
use Rattle.cckd_layer.specs.Storing.{IsPrepared, IsStoredOf, IsStoreRefusal, HasRoomFor, need_of}
use Rattle.cckd_layer.proofs.ThenLemmas.{maps_then}

-- a fault of the outside
pub outside_refusal : (null : NullBytes) (s n : LayerState) (a e : Seen) (t : ℕ) (bytes : List ℕ) (why : LayerFault) → IsOutside why → IsStoreRefusal null s n a e t bytes why
outside_refusal null s n a e t bytes (fault.Full full) h = absurd h
outside_refusal null s n a e t bytes (fault.Track found) h = absurd h
outside_refusal null s n a e t bytes fault.ReadFault h = tt
outside_refusal null s n a e t bytes fault.WriteFault h = tt
outside_refusal null s n a e t bytes fault.SyncFault h = tt

-- no places
pub no_room_refusal : (null : NullBytes) (s n : LayerState) (a e : Seen) (t : ℕ) (bytes : List ℕ) (st : Stored) (need : Option ℕ) (why : LayerFault) → need ≡ need_of st → IsStoredOf null s.tables.layout.geo t bytes st → IsUnwritten why
    → (Tells a → Agrees s a.world → IsNoRoom n e.world t need why) → IsStoreRefusal null s n a e t bytes why
no_room_refusal null s n a e t bytes st need (fault.Full full) same stored kind h = λ told agrees. (st, stored, subst (λ (o : Option ℕ). LacksRoom n e.world t o full) same (h told agrees))
no_room_refusal null s n a e t bytes st need (fault.Track found) same stored kind h = absurd kind
no_room_refusal null s n a e t bytes st need fault.ReadFault same stored kind h = tt
no_room_refusal null s n a e t bytes st need fault.WriteFault same stored kind h = tt
no_room_refusal null s n a e t bytes st need fault.SyncFault same stored kind h = tt

-- ready, once the entry and the places are found
pub prepared : (null : NullBytes) (s m f n : LayerState) (a b d e : Seen) (t : ℕ) (entry : L2Entry) (st : Stored) (room : Room) (need : Option ℕ) → (Tells a → Tells b) → (Tells b → Tells d) → IsSameFile s m → IsSameFile m f → t < track_count s.tables.layout.geo
    → need ≡ need_of st → KeepsMap null s m a b → KeepsMap null m f b d → KeepsMapWith [] (claims_of need room.places) null f n d e → (Tells b → Agrees m b.world → entry ≡ entry_now m b t)
    → (Tells d → Agrees f d.world → SuitsFile n t room e.world) → Tells a → Agrees s a.world → IsPrepared null s n t a e (record { old = entry.pos; stored = st; room = room })
prepared null s m f n a b d e t entry st room need first second sameM sameF low same map again placed found suits told agrees =
    let one = map told agrees in
    let two = again (first told) one.agrees in
    let lowM = subst (λ (l : Layout). t < track_count l.geo) (sym sameM.layout) low in
    let lowF = subst (λ (l : Layout). t < track_count l.geo) (sym sameF.layout) lowM in
    let three = placed (second (first told)) two.agrees in
    let both = maps_then [] [] [] null s m f a b d first sameM map again in
    let all : KeepsMapWith [] (claims_of need room.places) null s n a e =
    maps_then [] [] (claims_of need room.places) null s f n a d e (λ x. second (first x)) (record { slot = sameF.slot ∙ sameM.slot; layout = sameF.layout ∙ sameM.layout; limit = sameF.limit ∙ sameM.limit }) both placed in
    record {
      again = subst (λ (o : Option ℕ). KeepsMapWith [] (claims_of o room.places) null s n a e) same all told agrees;
      suits = suits (second (first told)) two.agrees;
      points = ap (λ (x : L2Entry). x.pos) (found (first told) one.agrees ∙ (sym (two.entries t lowM) ∙ sym (three.entries t lowF)));
    }

-- where nothing is in the way, nothing is done until the bytes are put
pub ready_still : (null : NullBytes) (s m f h n : LayerState) (a b d e : Seen) (t : ℕ) (st : Stored) (need : Option ℕ) (bytes : List ℕ) (cached : List CachedTable) → (Tells a → Tells b) → (Tells b → Tells d)
    → m ≡ s → b ≡ a → f ≡ with_tables m (with_cached m.tables cached) → Stays b d → h ≡ f → need ≡ need_of st → IsStoredOf null s.tables.layout.geo t bytes st → HasRoomFor null s t bytes → 4 ≤ s.plan.spare
    → (Tells a → Agrees s a.world → Agrees f d.world) → (Tells d → Agrees h d.world → FindsRoom h t need → 4 ≤ h.plan.spare → IsUntouched h n d e)
    → Tells a → Agrees s a.world → Stays a e × (n.marked ≡ s.marked)
ready_still null s m f h n a b d e t st need bytes cached first second sameM sameB rest stays sameH needs stored room spare again finds told agrees =
    let look : h ≡ with_tables s (with_cached s.tables cached) = sameH ∙ (rest ∙ ap (λ (x : LayerState). with_tables x (with_cached x.tables cached)) sameM) in
    let r = room st stored in
    let at : FindsRoom (with_tables s (with_cached s.tables cached)) t (need_of st) = λ wanted full wants lacks. r wanted full (record { new = wants.new; old = wants.old }) lacks in
    let here : FindsRoom h t need = subst (λ (x : LayerState). FindsRoom x t need) (sym look) (subst (λ (o : Option ℕ). FindsRoom (with_tables s (with_cached s.tables cached)) t o) (sym needs) at) in
    let enough : 4 ≤ h.plan.spare = subst (λ (x : LayerState). 4 ≤ x.plan.spare) (sym look) spare in
    let u = finds (second (first told)) (subst (λ (x : LayerState). Agrees x d.world) (sym sameH) (again told agrees)) here enough in (
      λ x. u.stays (second (first x)) ∙ (stays (first x) ∙ ap (λ (w : Seen). w.world) sameB),
      ap (λ (x : LayerState). x.marked) u.rest ∙ ap (λ (x : LayerState). x.marked) look,
    )
