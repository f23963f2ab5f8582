-- What calls of a stack make of the room in its last file.
use Rattle.cckd_stack.proofs.TiedLemmas.{unchanged_last}
use Rattle.cckd_base.specs.declared.call.Call.TheVariants as call
use Rattle.cckd_base.specs.declared.reply.Reply.TheVariants as reply
use Rattle.cckd_base.specs.declared.reply.Refusal.TheVariants as refusal
use Rattle.cckd_base.specs.declared.layer_fault.LayerFault.TheVariants as fault
use Rattle.cckd_base.specs.declared.layer_fault.StackFault.TheVariants as stack_fault
use Rattle.cckd_engine.specs.Performs.{KeepsRooms}
use Rattle.cckd_engine.specs.Calls.{asks}
use Rattle.cckd_stack.specs.Stops.{hardens}
use Rattle.cckd_stack.specs.History.{reply_breaks}
use Rattle.cckd_stack.specs.Answers.{Request, changes_files, is_refused, pair_by}
use Rattle.cckd_base.specs.declared.layer_fault.StackFault.{StackFault}
use Rattle.cckd_base.specs.declared.reply.Refusal.{Refusal}
use Rattle.cckd_base.specs.declared.reply.Reply.{Reply}
use Rattle.cckd_base.specs.declared.call.Call.{Call}
use Rattle.cckd_base.specs.declared.geometry.Track.{Track}
use Rattle.cckd_base.specs.declared.geometry.Addr.{Addr}
use Rattle.std.proofs.Common.{◌≡◌, ℕ, ◌/◌, ◌<◌, ◌≤◌, ◌==◌, ◌||◌, Bool, true, false, cond, List, [], ◌∷◌, ◌++◌, length, map, Option, Some, None, Result, Ok, Err, OnOk, IfErr, refl, sym, ◌∙◌, ap, subst, inl, inr, arith, not, IsOk}
use Rattle.std.specs.Option.{option_map, unwrap_or}
use Rattle.std.proofs.lemmas.Bool.{false≢true, eqb-true}
use Rattle.cckd_base.specs.declared.geometry.Geometry.{Geometry}
use Rattle.cckd_base.specs.declared.geometry.Layout.{Layout}
use Rattle.cckd_base.specs.declared.space.Full.{Full}
use Rattle.cckd_base.specs.Geometry.{track_count, track_at}
use Rattle.cckd_base.specs.Header.{headers_of, layout_of}
use Rattle.cckd_base.specs.Track.{null_track, track_value}
use Rattle.cckd_shelf.specs.Events.{Event, file_now}
use Rattle.cckd_shelf.specs.Seen.{Seen}
use Rattle.cckd_shelf.specs.World.{World, file_of}
use Rattle.cckd_space.specs.Pieces.{aligned_up}
use Rattle.cckd_tables.specs.Staging.{Stages, IsMoved}
use Rattle.cckd_layer.specs.Stands.{nothing_staged}
use Rattle.cckd_layer.specs.Mounted.{LayerState}
use Rattle.cckd_layer.specs.Writes.{IsSameFile, IsSameLayer, claimed_view, with_plan, IsOutside}
use Rattle.cckd_layer.specs.Loose.{Tied}
use Rattle.cckd_layer.specs.Preparing.{LacksRoom}
use Rattle.cckd_layer.specs.declared.writing.Stored.{Stored}
use Rattle.cckd_layer.specs.declared.writing.Stored.TheVariants as stored
use Rattle.cckd_layer.specs.Storing.{IsStoredOf, need_of}
use Rattle.cckd_layer.specs.Justified.{Attempt, IsOneOf, IsJustified, StaysInRoom, AddsInRoom}
use Rattle.cckd_layer.proofs.StandLemmas.{stands_sits, stands_layout}
use Rattle.cckd_layer.proofs.JustifiedLemmas.{justified}
use Rattle.cckd_stack.specs.Layers.{Stack}
use Rattle.cckd_stack.specs.Tops.{top_slot}
use Rattle.cckd_stack.specs.Stacked.{StackState, AreLayersFrom, OnlyCaches, uncached, stack_of, InLayer}
use Rattle.cckd_stack.specs.Writes.{AreTied, AreUnchanged, EndsWith, ChangesLast, AreSameFiles, IsHardenedLast, OnlyHardens, reply_by, is_broken_by, refusal_by}
use Rattle.cckd_stack.specs.Called.{stack_in}
use Rattle.cckd_stack.specs.Room.{Room, is_one_of, with_group, last_file, IsInRoom, HasRoom, LacksPlace, StayInRoom, IfFull, is_full, group_of, group_tried, room_after_call, attempt_of, bytes_given, HasRoomCause}
use Rattle.cckd_stack.proofs.LastLemmas.{own_layer, own_by, slot_of_layers}

-- ---- the last of a list

ends_same : {A : Type 0} (xs bs : List A) (x y : A) → xs ++ x ∷ [] ≡ bs ++ y ∷ [] → x ≡ y
ends_same [] [] x y e = cc
ends_same [] (b ∷ []) x y e = absurd cc
ends_same [] (b ∷ d ∷ bs) x y e = absurd cc
ends_same (a ∷ []) [] x y e = absurd cc
ends_same (a ∷ c ∷ xs) [] x y e = absurd cc
ends_same (a ∷ xs) (b ∷ bs) x y e = ends_same xs bs x y (let f : xs ++ x ∷ [] ≡ bs ++ y ∷ [] = cc in f)

-- what holds of the last layer holds of this one
pub ends_at : (P : LayerState → Type 0) (layers lower : List LayerState) (x : LayerState) → layers ≡ lower ++ x ∷ [] → EndsWith P layers → P x
ends_at P layers lower x is h = subst P (ends_same h.lower lower h.last x (sym h.layers_are ∙ is)) h.holds

-- two changes of the last layer are of the same two
pub changes_at : (P : LayerState → LayerState → Type 0) (old new lower upper : List LayerState) (x y : LayerState) → old ≡ lower ++ x ∷ [] → new ≡ upper ++ y ∷ [] → ChangesLast P old new → P x y
changes_at P old new lower upper x y was is h =
    subst (λ (k : LayerState). P k y) (ends_same h.lower lower h.was x (sym h.old_is ∙ was)) (subst (P h.was) (ends_same h.lower upper h.next y (sym h.new_is ∙ is)) h.changes)

-- ---- groups

in_groups : (g : ℕ) (groups : List ℕ) → is_one_of g groups ≡ true → IsOneOf g groups
in_groups g [] e = absurd (false≢true e)
in_groups g (x ∷ groups) e = by (x == g) refl e (λ rest. in_groups g groups rest)
  where
    by : (b : Bool) → (x == g) ≡ b → (b || is_one_of g groups) ≡ true → (is_one_of g groups ≡ true → IsOneOf g groups) → IsOneOf g (x ∷ groups)
    by true same any next = inl (eqb-true x g same)
    by false other rest next = inr (next rest)

pub kept_group : (h : ℕ) (o : Option ℕ) (groups : List ℕ) → IsOneOf h groups → IsOneOf h (with_group o groups)
kept_group h None groups one = one
kept_group h (Some g) groups one = by (is_one_of g groups)
  where
    by : (b : Bool) → IsOneOf h (cond b groups (g ∷ groups))
    by true = one
    by false = inr one

pub own_group : (g : ℕ) (groups : List ℕ) → IsOneOf g (with_group (Some g) groups)
own_group g groups = by (is_one_of g groups) refl
  where
    by : (b : Bool) → is_one_of g groups ≡ b → IsOneOf g (cond b groups (g ∷ groups))
    by true e = in_groups g groups e
    by false e = inl refl

-- ---- one layer

-- a file is no longer than its layer's pieces
pub tied_length : (s : LayerState) (w : World) → Tied s w → length (file_of w s.slot) ≤ s.plan.size
tied_length s w (inl agrees) = agrees.stands.now.spans.covers
tied_length s w (inr loose) = let e = loose.size in omega (arith, e)

-- nothing is staged in a layer of which all is hardened
pub tied_empty : (s : LayerState) (w : World) → Tied s w → s.hardened ≡ true → s.tables.stages ≡ nothing_staged
tied_empty s w (inl agrees) hard = agrees.empty hard
tied_empty s w (inr loose) hard = loose.stages

-- no more is staged
pub stays_in : (room next : Room) (s n : LayerState) → IsSameFile s n → StaysInRoom s n → next.limit ≡ room.limit → next.most ≡ room.most → ((g : ℕ) → IsOneOf g room.groups → IsOneOf g next.groups)
    → (next.quiet ≡ true → n.tables.stages ≡ nothing_staged) → IsInRoom room s → IsInRoom next n
stays_in room next s n same stays limit most groups quiet h = record {
  limit = same.limit ∙ h.limit ∙ sym limit;
  low = (let k = h.low in omega (arith, k, limit, most));
  size = (let a = h.size in let b = stays.size in let l = h.limit in let k = h.low in omega (arith, a, b, l, k, most));
  tables = λ g moved. groups g (h.tables g (stays.tables g moved));
  empty = quiet;
}

-- a new table may be staged for one group
pub adds_in : (g : ℕ) (room next : Room) (s n : LayerState) → IsSameFile s n → AddsInRoom g s n → next.limit ≡ room.limit → next.most ≡ room.most → ((h : ℕ) → IsOneOf h room.groups → IsOneOf h next.groups)
    → IsOneOf g next.groups → next.quiet ≡ false → IsInRoom room s → IsInRoom next n
adds_in g room next s n same adds limit most groups own quiet h = record {
  limit = same.limit ∙ h.limit ∙ sym limit;
  low = (let k = h.low in omega (arith, k, limit, most));
  size = (let a = h.size in let b = adds.size in let l = h.limit in let k = h.low in omega (arith, a, b, l, k, most));
  tables = λ x moved. elim (adds.tables x moved) [ inl was ↦ groups x (h.tables x was) | inr here ↦ subst (λ (k : ℕ). IsOneOf k next.groups) here own ];
  empty = λ hard. absurd (false≢true (sym quiet ∙ hard));
}

-- the layer of a call that only looks
pub looks_in : (room : Room) (x y : LayerState) → uncached y ≡ uncached x → IsInRoom room x → IsInRoom room y
looks_in room x y same h = record {
  limit = ap (λ (s : LayerState). s.plan.limit) same ∙ h.limit;
  low = h.low;
  size = (let e = ap (λ (s : LayerState). s.plan.size) same in let k = h.size in omega (arith, e, k));
  tables = λ g moved. h.tables g (subst (λ (st : Stages). IsMoved g st) (ap (λ (s : LayerState). s.tables.stages) same) moved);
  empty = λ hard. ap (λ (s : LayerState). s.tables.stages) same ∙ h.empty hard;
}

-- ---- the last layers before and behind a call

-- the last layer of a list with other caches
pub record LooksLast (old new : List LayerState) : Type 0 where
  pub lower : List LayerState
  pub upper : List LayerState
  pub was : LayerState
  pub next : LayerState
  pub old_is : old ≡ lower ++ was ∷ []
  pub new_is : new ≡ upper ++ next ∷ []
  pub same : uncached next ≡ uncached was

pub looks_last : (old new : List LayerState) → 1 ≤ length old → OnlyCaches old new → LooksLast old new
looks_last [] new some e = absurd (omega (arith, some))
looks_last (x ∷ xs) [] some e = absurd (cc e)
looks_last (x ∷ []) (y ∷ []) some e = record { lower = []; upper = []; was = x; next = y; old_is = refl; new_is = refl; same = cc e }
looks_last (x ∷ []) (y ∷ z ∷ ys) some e = absurd (cc e)
looks_last (x ∷ z ∷ xs) (y ∷ []) some e = absurd (cc e)
looks_last (x ∷ z ∷ xs) (y ∷ v ∷ ys) some e =
    let rest : map uncached (v ∷ ys) ≡ map uncached (z ∷ xs) = cc e in
    let h = looks_last (z ∷ xs) (v ∷ ys) (omega arith) rest in
    record { lower = x ∷ h.lower; upper = y ∷ h.upper; was = h.was; next = h.next; old_is = ap (λ (l : List LayerState). x ∷ l) h.old_is; new_is = ap (λ (l : List LayerState). y ∷ l) h.new_is; same = h.same }

-- the last layer of a list of which no layer staged more
pub record StaysLast (old new : List LayerState) : Type 0 where
  pub lower : List LayerState
  pub upper : List LayerState
  pub was : LayerState
  pub next : LayerState
  pub old_is : old ≡ lower ++ was ∷ []
  pub new_is : new ≡ upper ++ next ∷ []
  pub same : IsSameFile was next
  pub stays : StaysInRoom was next

pub stays_last : (old new : List LayerState) → 1 ≤ length old → AreSameFiles old new → StayInRoom old new → StaysLast old new
stays_last [] new some files stay = absurd (omega (arith, some))
stays_last (x ∷ xs) [] some files stay = absurd stay
stays_last (x ∷ []) (y ∷ []) some files stay = record { lower = []; upper = []; was = x; next = y; old_is = refl; new_is = refl; same = files.0; stays = stay.0 }
stays_last (x ∷ []) (y ∷ z ∷ ys) some files stay = absurd stay.1
stays_last (x ∷ z ∷ xs) (y ∷ []) some files stay = absurd stay.1
stays_last (x ∷ z ∷ xs) (y ∷ v ∷ ys) some files stay =
    let h = stays_last (z ∷ xs) (v ∷ ys) (omega arith) files.1 stay.1 in
    record { lower = x ∷ h.lower; upper = y ∷ h.upper; was = h.was; next = h.next; old_is = ap (λ (l : List LayerState). x ∷ l) h.old_is; new_is = ap (λ (l : List LayerState). y ∷ l) h.new_is; same = h.same; stays = h.stays }

pub changes_stay : (old new : List LayerState) → ChangesLast IsSameFile old new → ChangesLast StaysInRoom old new → StaysLast old new
changes_stay old new same stays = record {
  lower = same.lower;
  upper = same.lower;
  was = same.was;
  next = same.next;
  old_is = same.old_is;
  new_is = same.new_is;
  same = same.changes;
  stays = changes_at StaysInRoom old new same.lower same.lower same.was same.next same.old_is same.new_is stays;
}

-- only the last layer is another one, of the same file
pub same_files : (old new : List LayerState) → ChangesLast IsSameLayer old new → ChangesLast IsSameFile old new
same_files old new h = record {
  lower = h.lower;
  was = h.was;
  next = h.next;
  old_is = h.old_is;
  new_is = h.new_is;
  changes = record { slot = h.changes.slot; layout = h.changes.layout; limit = h.changes.limit };
}

-- of unchanged layers the last one is hardened
pub unchanged_ok : (A : Type 0) (result : Result A StackFault) (layers : List LayerState) → 1 ≤ length layers → OnOk result (AreUnchanged layers) → OnOk result (IsHardenedLast layers)
unchanged_ok A (Ok a) layers some h = unchanged_last layers some h
unchanged_ok A (Err why) layers some h = tt

-- ---- the last file

-- the last file of the stack before a call is that of the last layer behind it
pub last_slot : (g : Geometry) (old : StackState) (events : List Event) (lower : List LayerState) (x : LayerState) → AreLayersFrom g 0 old.layers → old.layers ≡ lower ++ x ∷ [] → top_slot (stack_in old events) ≡ x.slot
last_slot g old events lower x are is =
    ap (λ (ls : List LayerState). top_slot (stack_of null_track ls (file_now events))) is
    ∙ slot_of_layers null_track (file_now events) lower x
    ∙ sym (own_layer g lower x (subst (AreLayersFrom g 0) is are)).slot_is

-- the last file is within its bounds
pub last_within : (room : Room) (layers upper : List LayerState) (y : LayerState) (w : World) (slot : ℕ) → layers ≡ upper ++ y ∷ [] → slot ≡ y.slot → AreTied layers w → IsInRoom room y → length (file_of w slot) ≤ room.most
last_within room layers upper y w slot is at tied h =
    let own = own_by Tied upper y w (subst (λ (ls : List LayerState). AreTied ls w) is tied) in
    let long = tied_length y w own in
    let size = h.size in
    let same = ap (λ (n : ℕ). length (file_of w n)) at in
    omega (arith, long, size, same)

-- ---- want of room

-- a layer that lacks a place is refused with cause
pub lacks_justified : (room : Room) (a : Attempt) (next : LayerState) (w : World) (t : ℕ) (bytes : List ℕ) (full : Full) (lack : (st : Stored) × IsStoredOf null_track next.tables.layout.geo t bytes st × LacksRoom next w t (need_of st) full)
    → IsInRoom room next → t < track_count next.tables.layout.geo → a.limit ≡ room.limit → a.given ≡ length bytes → a.group ≡ t / 256 → ((g : ℕ) → IsOneOf g room.groups → IsOneOf g a.groups) → IsOneOf (t / 256) a.groups
    → (a.quiet ≡ true → next.tables.stages ≡ nothing_staged) → IsJustified a (layout_of (headers_of (file_of w next.slot))) (file_of w next.slot) full
lacks_justified room a next w t bytes full lack h low limit given group groups own quiet =
    let st = lack.0 in
    let k = lack.2 in
    let needs : (n : ℕ) → need_of st ≡ Some n → n ≡ aligned_up a.given = λ n e. need_is st n lack.1 e ∙ ap aligned_up (sym given) in
    let layout = stands_layout (claimed_view [] (with_plan next k.tried)) next.slot w k.agrees.stands in
    let group_low : t / 256 < next.tables.layout.groups = (let g = layout.groups in omega (arith, g, low)) in
    let says = (stands_sits (claimed_view [] (with_plan next k.tried)) next.slot w k.agrees.stands).whole.headed.says in
    subst (λ (l : Layout). IsJustified a l (file_of w next.slot) full) says
    (justified next w t (need_of st) full k a (λ g moved. groups g (h.tables g moved)) own group_low (limit ∙ sym h.limit) needs group quiet)
  where
    need_is : (st : Stored) (n : ℕ) → IsStoredOf null_track next.tables.layout.geo t bytes st → need_of st ≡ Some n → n ≡ aligned_up (length bytes)
    need_is (stored.Null format) n is e = absurd cc
    need_is (stored.Bytes len size) n is e = (let same : size ≡ n = cc in sym same) ∙ is.1

-- ---- calls

-- behind a call that changes nothing of what is staged, all is hardened only where it was
quiet_kept : (b q : Bool) → cond b false q ≡ true → q ≡ true
quiet_kept true q e = absurd (false≢true e)
quiet_kept false q e = e

soft_kept : (g : Geometry) (room : Room) (r : Request) (said : Reply) → hardens r.asked said ≡ false → (room_after_call g room r said).quiet ≡ true → room.quiet ≡ true
soft_kept g room r said soft quiet = quiet_kept (changes_files r.asked) room.quiet (subst (λ (b : Bool). cond (changes_files r.asked) b room.quiet ≡ true) soft quiet)

-- a call that only looks, or does nothing
pub room_looks : (r : Request) (said : Reply) (old new : StackState) (before after : Seen) → AreLayersFrom old.geometry 0 old.layers → 1 ≤ length old.layers → OnlyCaches old.layers new.layers → AreTied new.layers after.world
    → hardens r.asked said ≡ false → ((P : Full → Type 0) → IfFull said P) → KeepsRooms r said old new before after
room_looks r said old new before after are some caches tied soft calm =
    let h = looks_last old.layers new.layers some caches in
    let at = last_slot old.geometry old before.world.events h.lower h.was are h.old_is in
    let slot : h.next.slot ≡ h.was.slot = ap (λ (s : LayerState). s.slot) h.same in
    let here : (room : Room) → HasRoom old room → IsInRoom room h.next = λ room has. looks_in room h.was h.next h.same (ends_at (IsInRoom room) old.layers h.lower h.was h.old_is has) in
    record {
      again = λ room has fine.
          let k = here room has in
          record {
            lower = h.upper;
            last = h.next;
            layers_are = h.new_is;
            holds = record {
              limit = k.limit;
              low = k.low;
              size = k.size;
              tables = λ g moved. kept_group g (group_tried old.geometry r said) room.groups (k.tables g moved);
              empty = λ quiet. k.empty (soft_kept old.geometry room r said soft quiet);
            };
          };
      kept = λ room has. record {
        full = calm _;
        within = λ fine. last_within room new.layers h.upper h.next after.world (top_slot (stack_in old before.world.events)) h.new_is (at ∙ sym slot) tied (here room has);
      };
    }

-- which calls harden, where they are answered
hard_quiet : (A : Type 0) (c : Call) (done : Reply) (result : Result A StackFault) (q : Bool) → OnlyHardens c done → cond (changes_files c) (hardens c (reply_by done result)) q ≡ true → IsOk result
hard_quiet A call.Harden done (Ok a) q only e = refl
hard_quiet A call.Harden done (Err why) q only e = absurd (false≢true e)
hard_quiet A call.Close done (Ok a) q only e = refl
hard_quiet A call.Close done (Err why) q only e = absurd (false≢true e)
hard_quiet A (call.Read at) done result q only e = absurd only
hard_quiet A (call.Write at) done result q only e = absurd only
hard_quiet A (call.GetRecord at num) done result q only e = absurd only
hard_quiet A (call.PutRecord at num) done result q only e = absurd only
hard_quiet A call.Turn done result q only e = absurd only
hard_quiet A call.Add done result q only e = absurd only
hard_quiet A call.Merge done result q only e = absurd only
hard_quiet A call.Drop done result q only e = absurd only
hard_quiet A call.Compress done result q only e = absurd only
hard_quiet A call.Display done result q only e = absurd only
hard_quiet A (call.Check level) done result q only e = absurd only

hard_calm : (A : Type 0) (c : Call) (done : Reply) (result : Result A StackFault) → OnlyHardens c done → IfErr result (InLayer IsOutside) → (P : Full → Type 0) → IfFull (reply_by done result) P
hard_calm A c done (Err (stack_fault.Layer (fault.Track why))) only outside P = tt
hard_calm A c done (Err (stack_fault.Layer (fault.Full full))) only outside P = absurd outside
hard_calm A c done (Err (stack_fault.Layer fault.ReadFault)) only outside P = tt
hard_calm A c done (Err (stack_fault.Layer fault.WriteFault)) only outside P = tt
hard_calm A c done (Err (stack_fault.Layer fault.SyncFault)) only outside P = tt
hard_calm A c done (Err (stack_fault.TooMany have)) only outside P = tt
hard_calm A c done (Err stack_fault.OnlyBase) only outside P = tt
hard_calm A c done (Err stack_fault.Memory) only outside P = tt
hard_calm A call.Harden done (Ok a) only outside P = subst (λ (x : Reply). IfFull x P) (sym only) tt
hard_calm A call.Close done (Ok a) only outside P = subst (λ (x : Reply). IfFull x P) (sym only) tt
hard_calm A (call.Read at) done (Ok a) only outside P = absurd only
hard_calm A (call.Write at) done (Ok a) only outside P = absurd only
hard_calm A (call.GetRecord at num) done (Ok a) only outside P = absurd only
hard_calm A (call.PutRecord at num) done (Ok a) only outside P = absurd only
hard_calm A call.Turn done (Ok a) only outside P = absurd only
hard_calm A call.Add done (Ok a) only outside P = absurd only
hard_calm A call.Merge done (Ok a) only outside P = absurd only
hard_calm A call.Drop done (Ok a) only outside P = absurd only
hard_calm A call.Compress done (Ok a) only outside P = absurd only
hard_calm A call.Display done (Ok a) only outside P = absurd only
hard_calm A (call.Check level) done (Ok a) only outside P = absurd only

-- a call that only hardens
pub room_hardens : (c : Call) (given : List ℕ) (done : Reply) (result : Result (Unit {0}) StackFault) (old new : StackState) (before after : Seen) → AreLayersFrom old.geometry 0 old.layers → OnlyHardens c done
    → IfErr result (InLayer IsOutside) → StaysLast old.layers new.layers → OnOk result (IsHardenedLast new.layers) → (reply_breaks c (reply_by done result) ≡ false → AreTied new.layers after.world)
    → KeepsRooms (asks c given) (reply_by done result) old new before after
room_hardens c given done result old new before after are only outside h hard tied =
    let g = old.geometry in
    let r = asks c given in
    let said = reply_by done result in
    let at = last_slot g old before.world.events h.lower h.was are h.old_is in
    let own : AreTied new.layers after.world → Tied h.next after.world = λ t. own_by Tied h.upper h.next after.world (subst (λ (ls : List LayerState). AreTied ls after.world) h.new_is t) in
    let empty : (room : Room) → reply_breaks c said ≡ false → (room_after_call g room r said).quiet ≡ true → h.next.tables.stages ≡ nothing_staged = λ room fine quiet.
    tied_empty h.next after.world (own (tied fine)) (ends_at (λ last. last.hardened ≡ true) new.layers h.upper h.next h.new_is (ok_of result (IsHardenedLast new.layers) (hard_quiet (Unit {0}) c done result room.quiet only quiet) hard)) in
    let was : (room : Room) → HasRoom old room → IsInRoom room h.was = λ room has. ends_at (IsInRoom room) old.layers h.lower h.was h.old_is has in
    let here : (room : Room) → HasRoom old room → reply_breaks c said ≡ false → IsInRoom (room_after_call g room r said) h.next = λ room has fine.
    stays_in room (room_after_call g room r said) h.was h.next h.same h.stays refl refl (λ x one. kept_group x (group_tried g r said) room.groups one) (empty room fine) (was room has) in
    record {
      again = λ room has fine. record { lower = h.upper; last = h.next; layers_are = h.new_is; holds = here room has fine };
      kept = λ room has. record {
        full = hard_calm (Unit {0}) c done result only outside _;
        within = λ fine. last_within (room_after_call g room r said) new.layers h.upper h.next after.world (top_slot (stack_in old before.world.events)) h.new_is (at ∙ sym h.same.slot) (tied fine) (here room has fine);
      };
    }
  where
    ok_of : {A B : Type 0} (x : Result A B) (P : Type 0) → IsOk x → OnOk x P → P
    ok_of (Ok a) P ok h = h
    ok_of (Err why) P ok h = absurd (false≢true ok)

-- a call that breaks
pub room_broke : (r : Request) (why : StackFault) (old new : StackState) (before after : Seen) → is_broken_by {A = Unit {0}} (Err why) ≡ true → KeepsRooms r (reply.Refused (refusal_by why)) old new before after
room_broke r (stack_fault.Layer fault.WriteFault) old new before after breaks = record { again = λ room has fine. absurd (false≢true (sym fine)); kept = λ room has. record { full = tt; within = λ fine. absurd (false≢true (sym fine)) } }
room_broke r (stack_fault.Layer fault.SyncFault) old new before after breaks = record { again = λ room has fine. absurd (false≢true (sym fine)); kept = λ room has. record { full = tt; within = λ fine. absurd (false≢true (sym fine)) } }
room_broke r (stack_fault.Layer (fault.Full full)) old new before after breaks = absurd (false≢true breaks)
room_broke r (stack_fault.Layer (fault.Track found)) old new before after breaks = absurd (false≢true breaks)
room_broke r (stack_fault.Layer fault.ReadFault) old new before after breaks = absurd (false≢true breaks)
room_broke r (stack_fault.TooMany have) old new before after breaks = absurd (false≢true breaks)
room_broke r stack_fault.OnlyBase old new before after breaks = absurd (false≢true breaks)
room_broke r stack_fault.Memory old new before after breaks = absurd (false≢true breaks)

-- ---- a write

module _ (at : Addr) (t : ℕ) (given : List ℕ) (old new : StackState) (before after : Seen) (found : track_at old.geometry at ≡ Some (record { 0 = t })) (low : t < track_count old.geometry)
    (are : AreLayersFrom old.geometry 0 old.layers) (last : ChangesLast IsSameFile old.layers new.layers)
  where
    abbrev g : Geometry
    g = old.geometry

    abbrev r : Request
    r = asks (call.Write at) given

    abbrev s : Stack
    s = stack_in old before.world.events

    was_in : (room : Room) → HasRoom old room → IsInRoom room last.was
    was_in room has = ends_at (IsInRoom room) old.layers last.lower last.was last.old_is has

    slot : top_slot s ≡ last.next.slot
    slot = last_slot g old before.world.events last.lower last.was are last.old_is ∙ sym last.changes.slot

    group : group_of g r ≡ Some (t / 256)
    group = ap (option_map (λ (t : Track). t.0 / 256)) found

    within : (room : Room) → AreTied new.layers after.world → IsInRoom room last.next → length (last_file s (file_now after.world.events)) ≤ room.most
    within room tied h = last_within room new.layers last.lower last.next after.world (top_slot s) last.new_is slot tied h

    -- it is written
    pub room_written : (said : Reply) → is_refused said ≡ false → hardens (call.Write at) said ≡ false → ((P : Full → Type 0) → IfFull said P) → ChangesLast (AddsInRoom (t / 256)) old.layers new.layers → AreTied new.layers after.world
        → KeepsRooms r said old new before after
    room_written said answered soft calm adds tied =
        let tried : group_tried g r said ≡ Some (t / 256) = ap (λ (b : Bool). cond (not b || is_full said) (group_of g r) None) answered ∙ group in
        let own : (room : Room) → IsOneOf (t / 256) (room_after_call g room r said).groups = λ room. subst (λ (o : Option ℕ). IsOneOf (t / 256) (with_group o room.groups)) (sym tried) (own_group (t / 256) room.groups) in
        let here : (room : Room) → HasRoom old room → IsInRoom (room_after_call g room r said) last.next = λ room has.
        adds_in (t / 256) room (room_after_call g room r said) last.was last.next last.changes
        (changes_at (AddsInRoom (t / 256)) old.layers new.layers last.lower last.lower last.was last.next last.old_is last.new_is adds) refl refl
        (λ x one. kept_group x (group_tried g r said) room.groups one) (own room) soft (was_in room has) in
        record {
          again = λ room has fine. record { lower = last.lower; last = last.next; layers_are = last.new_is; holds = here room has };
          kept = λ room has. record { full = calm _; within = λ fine. within (room_after_call g room r said) tied (here room has) };
        }

    -- it is refused
    pub room_refused : (why : Refusal) → ChangesLast StaysInRoom old.layers new.layers → AreTied new.layers after.world
        → ((full : Full) → why ≡ refusal.Full full → EndsWith (λ layer. LacksPlace null_track layer after t (track_value given) (fault.Full full)) new.layers)
        → KeepsRooms r (reply.Refused why) old new before after
    room_refused why stays tied lacks =
        let said = reply.Refused why in
        let kept = changes_at StaysInRoom old.layers new.layers last.lower last.lower last.was last.next last.old_is last.new_is stays in
        let here : (room : Room) → HasRoom old room → IsInRoom (room_after_call g room r said) last.next = λ room has.
        stays_in room (room_after_call g room r said) last.was last.next last.changes kept refl refl
        (λ x one. kept_group x (group_tried g r said) room.groups one) (λ quiet. absurd (false≢true quiet)) (was_in room has) in
        let same : (room : Room) → HasRoom old room → IsInRoom room last.next = λ room has.
        stays_in room room last.was last.next last.changes kept refl refl (λ x one. one) (λ quiet. kept.empty ((was_in room has).empty quiet)) (was_in room has) in
        record {
          again = λ room has fine. record { lower = last.lower; last = last.next; layers_are = last.new_is; holds = here room has };
          kept = λ room has. record {
            full = full_cause room (same room has) why lacks;
            within = λ fine. within room tied (same room has);
          };
        }
      where
        pair : pair_by g s r ≡ Some (t, track_value given)
        pair = rw found

        long : bytes_given g s r ≡ length (track_value given)
        long = ap (λ (o : Option (ℕ × List ℕ)). unwrap_or (option_map (λ (p : ℕ × List ℕ). length p.1) o) 0) pair

        geo : last.next.tables.layout.geo ≡ g
        geo = ap (λ (l : Layout). l.geo) last.changes.layout ∙ (own_layer g last.lower last.was (subst (AreLayersFrom g 0) last.old_is are)).shape

        full_cause : (room : Room) → IsInRoom room last.next → (why : Refusal)
            → ((full : Full) → why ≡ refusal.Full full → EndsWith (λ layer. LacksPlace null_track layer after t (track_value given) (fault.Full full)) new.layers)
            → HasRoomCause g room s r (reply.Refused why) (file_now after.world.events)
        full_cause room h (refusal.Full full) lacks =
            let a = attempt_of g room s r (reply.Refused (refusal.Full full)) in
            let lack = ends_at (λ layer. LacksPlace null_track layer after t (track_value given) (fault.Full full)) new.layers last.lower last.next last.new_is (lacks full refl) in
            let own : IsOneOf (t / 256) a.groups = subst (λ (o : Option ℕ). IsOneOf (t / 256) (with_group o room.groups)) (sym group) (own_group (t / 256) room.groups) in
            subst (λ (n : ℕ). IsJustified a (layout_of (headers_of (file_now after.world.events n))) (file_now after.world.events n) full) (sym slot)
            (lacks_justified room a last.next after.world t (track_value given) full lack h (subst (λ (k : Geometry). t < track_count k) (sym geo) low) refl long
            (ap (λ (o : Option ℕ). unwrap_or o 0) group) (λ x one. kept_group x (group_of g r) room.groups one) own h.empty)
        full_cause room h refusal.NoSuchTrack lacks = tt
        full_cause room h (refusal.Track found) lacks = tt
        full_cause room h (refusal.NoRecord num) lacks = tt
        full_cause room h (refusal.LengthDiffers has) lacks = tt
        full_cause room h (refusal.TooMany have) lacks = tt
        full_cause room h refusal.OnlyBase lacks = tt
        full_cause room h refusal.ReadFault lacks = tt
        full_cause room h refusal.WriteFault lacks = tt
        full_cause room h refusal.SyncFault lacks = tt
        full_cause room h (refusal.Broken at) lacks = tt
        full_cause room h refusal.Memory lacks = tt
