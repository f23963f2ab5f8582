-- Layers closed one after another, the last one first.
use Rattle.cckd_layer.proofs.InRoomLemmas.{room_same, room_then}
use Rattle.cckd_layer.specs.Justified.{StaysInRoom}
use Rattle.cckd_stack.specs.Room.{StayInRoom}
use Rattle.std.proofs.Common.{◌≡◌, ⊎_elim, ℕ, zero, suc, ◌+◌, ◌<◌, ◌≤◌, true, false, List, [], ◌∷◌, length, drop, get_or, set, refl, sym, ◌∙◌, ap, subst, arith}
use Rattle.std.specs.List.{AllByRecursion}
use Rattle.std.proofs.Math.Seq.{drop-cons, drop-length}
use Rattle.std.proofs.lemmas.Bool.{false≢true, cases_lt, cases_Bool}
use Rattle.std.proofs.lemmas.List.{drop-set, set-get_or, get_or-set_other}
use Rattle.cckd_base.specs.declared.geometry.Geometry.{Geometry}
use Rattle.cckd_base.specs.declared.geometry.Layout.{Layout}
use Rattle.cckd_shelf.specs.Events.{Event}
use Rattle.cckd_shelf.specs.Seen.{Seen, Tells}
use Rattle.cckd_shelf.specs.World.{World, file_of}
use Rattle.cckd_shelf.specs.Outcomes.{IsOutcome, EachOutcome, OthersStill}
use Rattle.cckd_shelf.specs.Frame.{KeepNames, SparesOthers, OnlyIn}
use Rattle.cckd_shelf.proofs.MomentLemmas.{at_once, at_end, joins, weaker}
use Rattle.cckd_shelf.proofs.FrameLemmas.{other_keeps}
use Rattle.cckd_layer.specs.Closed.{IsClosed}
use Rattle.cckd_layer.specs.Held.{NullBytes}
use Rattle.cckd_layer.specs.Mounted.{LayerState, ReadsFrom, CanRead}
use Rattle.cckd_layer.specs.Writes.{Agrees, KeepsMap, StopsWithin, StopHolds, IsSameFile, StaysClosed}
use Rattle.cckd_layer.specs.Loose.{Tied}
use Rattle.cckd_stack.specs.Stops.{Lies}
use Rattle.cckd_stack.specs.Moments.{EachOpens}
use Rattle.cckd_stack.specs.Stacked.{IsLayerIn, AreLayersFrom, AreWhole, CanReadAll}
use Rattle.cckd_stack.specs.Writes.{AgreeAll, KeepsStackBy, KeepsStack, KeepsEach, KeepsLayer, IsUnchanged, AreUnchanged, HasNoChange, SparesUnchanged, OnlyInChanged, IsClosedIn, AreSameFiles, StopsLie, StopsSettle, all_hardened}
use Rattle.cckd_layer.proofs.SureLemmas.{sure_spared}
use Rattle.cckd_stack.specs.Marking.{KeepMarks, KeepsMark}
use Rattle.cckd_stack.proofs.MarkingLemmas.{marks_twice, set_marks}
use Rattle.cckd_stack.proofs.LayerListLemmas.{all_at, all_set, layer_at}
use Rattle.cckd_stack.proofs.WritesLemmas.{still_ties, set_lies, set_settles, kept_hardening, settled_hardening}
use Rattle.cckd_stack.proofs.LowerLemmas.{lower_lies, any_keeps}

-- ---- lists of layers

same_files : (layers : List LayerState) → AreSameFiles layers layers
same_files [] = tt
same_files (s ∷ ss) = (record { slot = refl; layout = refl; limit = refl }, same_files ss)

pub files_length : (start now : List LayerState) → AreSameFiles start now → length now ≡ length start
files_length [] [] same = refl
files_length [] (n ∷ ns) same = absurd same
files_length (s ∷ ss) [] same = absurd same
files_length (s ∷ ss) (n ∷ ns) same = ap suc (files_length ss ns same.1)

same_twice : (a b c : LayerState) → IsSameFile a b → IsSameFile b c → IsSameFile a c
same_twice a b c f g = record { slot = g.slot ∙ f.slot; layout = g.layout ∙ f.layout; limit = g.limit ∙ f.limit }

files_set : (start now : List LayerState) (n : ℕ) (x y : LayerState) → x ≡ get_or now n x → IsSameFile x y → AreSameFiles start now → AreSameFiles start (set now n y)
files_set [] [] n x y is same files = tt
files_set [] (k ∷ ks) n x y is same files = absurd files
files_set (s ∷ ss) [] n x y is same files = absurd files
files_set (s ∷ ss) (k ∷ ks) zero x y is same files = (same_twice s k y files.0 (subst (λ (z : LayerState). IsSameFile z y) is same), files.1)
files_set (s ∷ ss) (k ∷ ks) (suc n) x y is same files = (files.0, files_set ss ks n x y is same files.1)

same_rooms : (layers : List LayerState) → StayInRoom layers layers
same_rooms [] = tt
same_rooms (s ∷ ss) = (room_same s, same_rooms ss)

rooms_set : (start now : List LayerState) (n : ℕ) (x y : LayerState) → x ≡ get_or now n x → StaysInRoom x y → AreSameFiles start now → StayInRoom start now → StayInRoom start (set now n y)
rooms_set [] [] n x y is room files rooms = tt
rooms_set [] (k ∷ ks) n x y is room files rooms = absurd rooms
rooms_set (s ∷ ss) [] n x y is room files rooms = absurd rooms
rooms_set (s ∷ ss) (k ∷ ks) zero x y is room files rooms = (room_then s k y files.0 rooms.0 (subst (λ (z : LayerState). StaysInRoom z y) is room), rooms.1)
rooms_set (s ∷ ss) (k ∷ ks) (suc n) x y is room files rooms = (rooms.0, rooms_set ss ks n x y is room files.1 rooms.1)

layers_set : (g : Geometry) (slot : ℕ) (layers : List LayerState) (n : ℕ) (x y : LayerState) → x ≡ get_or layers n x → IsSameFile x y → AreLayersFrom g slot layers
    → AreLayersFrom g slot (set layers n y)
layers_set g slot [] n x y is same are = tt
layers_set g slot (s ∷ ss) zero x y is same are =
    let own : IsLayerIn g slot x = subst (IsLayerIn g slot) (sym is) are.0 in
    (record { slot_is = same.slot ∙ own.slot_is; shape = ap (λ (l : Layout). l.geo) same.layout ∙ own.shape }, are.1)
layers_set g slot (s ∷ ss) (suc n) x y is same are = (are.0, layers_set g (suc slot) ss n x y is same are.1)

layers_drop : (g : Geometry) (slot n at : ℕ) (layers : List LayerState) → at ≡ slot + n → AreLayersFrom g slot layers → AreLayersFrom g at (drop n layers)
layers_drop g slot zero at layers e are = let same : slot ≡ at = omega (arith, e) in subst (λ (k : ℕ). AreLayersFrom g k layers) same are
layers_drop g slot (suc n) at [] e are = tt
layers_drop g slot (suc n) at (s ∷ ss) e are = layers_drop g (suc slot) n at ss (omega (arith, e)) are.1

-- ---- which files are left alone

spares_none : (layers : List LayerState) (w : World) → SparesUnchanged layers w w
spares_none layers w = record {
  others = at_once (λ es. (slot : ℕ) → HasNoChange layers slot → EachOutcome slot (IsOutcome w.events slot) es) w.events (λ slot calm file h. h);
  named = at_once (KeepNames w.events) w.events (λ slot. refl);
  names = λ slot. refl;
  held = λ name free. refl;
  files = λ slot calm. refl;
  script = refl;
  output = refl;
}

spares_joins : (layers : List LayerState) (a b c : World) → SparesUnchanged layers a b → SparesUnchanged layers b c → SparesUnchanged layers a c
spares_joins layers a b c f g =
    let still = λ (from : World) (es : List Event). (slot : ℕ) → HasNoChange layers slot → EachOutcome slot (IsOutcome from.events slot) es in
    record {
      others = joins (still a) a.events b.events c.events f.others
          (weaker (still b) (still a) b.events c.events (λ es h slot calm file left. at_end (still a) a.events b.events f.others slot calm file (h slot calm file left)) g.others);
      named = joins (KeepNames a.events) a.events b.events c.events f.named
          (weaker (KeepNames b.events) (KeepNames a.events) b.events c.events (λ es same slot. same slot ∙ f.names slot) g.named);
      names = λ slot. g.names slot ∙ f.names slot;
      held = λ name free. g.held name (λ slot e. free slot (sym (f.names slot) ∙ e)) ∙ f.held name free;
      files = λ slot calm. g.files slot calm ∙ f.files slot calm;
      script = g.script ∙ f.script;
      output = g.output ∙ f.output;
    }

spares_by : (layers : List LayerState) (at : ℕ) (a b : World) → ((slot : ℕ) → HasNoChange layers slot → at ≡ slot → ⊥) → SparesOthers at a b → SparesUnchanged layers a b
spares_by layers at a b apart h = record {
  others = weaker (OthersStill at a.events) (λ es. (slot : ℕ) → HasNoChange layers slot → EachOutcome slot (IsOutcome a.events slot) es) a.events b.events
      (λ es still slot calm. still slot (apart slot calm)) h.others;
  named = h.named;
  names = h.names;
  held = λ name free. h.held name (λ e. apart at (free at e) refl);
  files = λ slot calm. h.files slot (apart slot calm);
  script = h.script;
  output = h.output;
}

module _ (layers : List LayerState) (n : ℕ) (x : LayerState) (a b : World) (is : x ≡ get_or layers n x) (low : n < length layers) (h : SparesOthers x.slot a b) where
  unchanged_here : (slot : ℕ) → HasNoChange layers slot → x.slot ≡ slot → IsUnchanged x
  unchanged_here slot calm at =
      let own : (get_or layers n x).slot ≡ slot → IsUnchanged (get_or layers n x) = all_at (λ (s : LayerState). s.slot ≡ slot → IsUnchanged s) layers n x calm low in
      subst IsUnchanged (sym is) (own (ap (λ (s : LayerState). s.slot) (sym is) ∙ at))

  -- one layer was closed, and nothing was done if it wasn't changed
  spares_one : (x.marked ≡ false → x.hardened ≡ true → b ≡ a) → SparesUnchanged layers a b
  spares_one still = ⊎_elim
      (λ (marked : x.marked ≡ true). spares_by layers x.slot a b (λ slot calm at. false≢true (sym (unchanged_here slot calm at).unmarked ∙ marked)) h)
      (λ (unmarked : x.marked ≡ false). ⊎_elim
      (λ (hardened : x.hardened ≡ true). subst (SparesUnchanged layers a) (sym (still unmarked hardened)) (spares_none layers a))
      (λ (soft : x.hardened ≡ false). spares_by layers x.slot a b (λ slot calm at. false≢true (sym soft ∙ (unchanged_here slot calm at).hardened)) h)
      (cases_Bool x.hardened))
      (cases_Bool x.marked)

-- ---- closed files stay so

closed_on : (l : Layout) (at slot : ℕ) (a b : World) → (at ≡ slot → ⊥) → SparesOthers at a b → StaysClosed l slot a → StaysClosed l slot b
closed_on l at slot a b apart h closed =
    let file : file_of a slot ≡ file_of b slot = sym (h.files slot apart) in
    let still = at_end (OthersStill at a.events) a.events b.events h.others in
    record {
      closed = subst (IsClosed l) file closed.closed;
      alone = subst (λ (f : List ℕ). EachOutcome slot (λ g. g ≡ f) b.events) file (other_keeps (λ (g : List ℕ). g ≡ file_of a slot) at slot a.events b.events apart still closed.alone);
    }

closed_above : (g : Geometry) (at slot : ℕ) (layers : List LayerState) (a b : World) → at < slot → AreLayersFrom g slot layers → SparesOthers at a b → AllByRecursion (IsClosedIn a) layers
    → AllByRecursion (IsClosedIn b) layers
closed_above g at slot [] a b low are h all = tt
closed_above g at slot (s ∷ ss) a b low are h all = (
  λ marked. closed_on s.tables.layout at s.slot a b (λ e. absurd (omega (arith, e, low, are.0.slot_is))) h (all.0 marked),
  closed_above g at (suc slot) ss a b (omega (arith, low)) are.1 h all.1,
)

-- ---- one call after another

twice_by : (R : LayerState → World → Type 0) (null : NullBytes) (a b c : List LayerState) (x y z : Seen) → (Tells x → Tells y) → KeepsStackBy R null a b x y → KeepsStackBy R null b c y z
    → KeepsStackBy R null a c x z
twice_by R null a b c x y z tells f g = λ told agree.
    let h = f told agree in
    let k = g (tells told) h.agree in
    record { agree = k.agree; are = k.are ∙ h.are }

keeps_twice : (null : NullBytes) (a b c : List LayerState) (x y z : Seen) → (Tells x → Tells y) → KeepsEach null a b x y → KeepsEach null b c y z → KeepsEach null a c x z
keeps_twice null a b c x y z tells f g = record {
  agreed = twice_by Agrees null a b c x y z tells f.agreed g.agreed;
  tied = twice_by Tied null a b c x y z tells f.tied g.tied;
}

lies_twice : (null : NullBytes) (g : Geometry) (a b : List LayerState) (x y z : Seen) → (Tells x → Tells y) → KeepsStack null a b x y → StopsLie null g a x y → StopsLie null g b y z
    → StopsLie null g a x z
lies_twice null g a b x y z tells keeps f h = λ was has.
    joins (EachOpens g (Lies was.hard was.later)) x.world.events y.world.events z.world.events (f was has) (h was (kept_hardening null g a b x y was has tells keeps f))

any_lies : (null : NullBytes) (g : Geometry) (layers : List LayerState) (n : ℕ) (x : LayerState) (old new : Seen) → x ≡ get_or layers n x → n < length layers → AreLayersFrom g 0 layers
    → OnlyIn x.slot old new → StopsWithin null x old new → StopsLie null g layers old new
any_lies null g layers n x old new is low are others stopped = λ was has. ⊎_elim
    (λ (below : suc n < length layers). lower_lies null g layers n x old new is below are was has others stopped)
    (λ (end : length layers ≤ suc n).
    set_lies layers n x x is (omega (arith, low, end)) null g old new are (record { slot = refl; layout = refl; limit = refl }) others stopped was has)
    (cases_lt (suc n) (length layers))

-- ---- reading goes on

-- a layer can be read where only another slot's file was changed
read_beside : (s : LayerState) (at : ℕ) (old new : Seen) → (Tells new → Tells old) → OnlyIn at old new → (at ≡ s.slot → ⊥) → CanRead s old → CanRead s new
read_beside s at old new tells others apart can = λ told sure.
    let h = others (tells told) in
    subst (ReadsFrom s.tables) (sym (h.files s.slot apart)) (can (tells told) (sure_spared at old.world new.world h sure))

-- ---- some layers were closed

-- Those from a number on were closed, the last one first, and nothing failed. Those below are as before.
pub record HasClosed (null : NullBytes) (g : Geometry) (start now : List LayerState) (a b : Seen) (left : ℕ) : Type 0 where
  pub slots : AreLayersFrom g 0 now
  pub whole : AreWhole now
  pub files : AreSameFiles start now
  pub room : StayInRoom start now
  pub below : (i : ℕ) (d : LayerState) → i < left → get_or now i d ≡ get_or start i d
  pub keeps : KeepsEach null start now a b
  pub lies : StopsLie null g start a b
  pub marks : KeepMarks start now a b
  pub settled : left < length start → StopsSettle null g start a b
  pub spares : OnlyInChanged start a b
  pub calm : (slot : ℕ) → HasNoChange start slot → HasNoChange now slot
  pub closed : Tells a → AgreeAll start a.world → AllByRecursion (IsClosedIn b.world) (drop left start)
  pub reads : (i : ℕ) (d : LayerState) → i < left → i < length start → CanRead (get_or start i d) b
  pub still : AreUnchanged start → (now ≡ start) × (b ≡ a)
  pub unchanged : AllByRecursion IsUnchanged (drop left now)
  pub counts : b.faults ≡ a.faults

-- before any was
pub none_closed : (null : NullBytes) (g : Geometry) (start : List LayerState) (a : Seen) (left : ℕ) → left ≡ length start → AreLayersFrom g 0 start → AreWhole start → CanReadAll start a
    → HasClosed null g start start a a left
none_closed null g start a left e are whole can =
    let none : drop left start ≡ [] = ap (λ (k : ℕ). drop k start) e ∙ drop-length start in
    record {
      slots = are;
      whole = whole;
      files = same_files start;
      room = same_rooms start;
      below = λ i d low. refl;
      keeps = record { agreed = λ told agree. record { agree = agree; are = refl }; tied = λ told tied. record { agree = tied; are = refl } };
      lies = λ was has. at_once (EachOpens g (Lies was.hard was.later)) a.world.events has.hardened.stops;
      marks = λ base told agree marks. marks;
      settled = λ low. absurd (omega (arith, e, low));
      spares = λ told. spares_none start a.world;
      calm = λ slot calm. calm;
      closed = λ told agree. subst (AllByRecursion (IsClosedIn a.world)) (sym none) tt;
      reads = λ i d low inside. all_at (λ (s : LayerState). CanRead s a) start i d can inside;
      still = λ calm. (refl, refl);
      unchanged = subst (AllByRecursion IsUnchanged) (sym none) tt;
      counts = refl;
    }

module _ (null : NullBytes) (g : Geometry) (start now : List LayerState) (a b : Seen) (left n : ℕ) (tells : Tells a → Tells b) (was : HasClosed null g start now a b left) (next : suc n ≡ left)
    (x : LayerState) (is : x ≡ get_or now n x) (low : n < length start)
  where
    inside : n < length now
    inside = let long = files_length start now was.files in omega (arith, long, low)

    pub whole_here : x.broken ≡ false
    whole_here = subst (λ (s : LayerState). s.broken ≡ false) (sym is) (all_at (λ (s : LayerState). s.broken ≡ false) now n x was.whole inside)

    agrees_here : Tells a → AgreeAll start a.world → Agrees x b.world
    agrees_here told agree =
        subst (λ (s : LayerState). Agrees s b.world) (sym is)
        (all_at (λ (s : LayerState). Agrees s b.world) now n x (was.keeps.agreed told agree).agree inside)

    -- it is as it was at the start
    at_start : x ≡ get_or start n x
    at_start = is ∙ was.below n x (omega (arith, next))

    pub reads_here : CanRead x b
    reads_here = subst (λ (s : LayerState). CanRead s b) (sym at_start) (was.reads n x (omega (arith, next)) low)

    pub unchanged_now : AreUnchanged start → IsUnchanged x
    unchanged_now calm = subst IsUnchanged (sym at_start) (all_at IsUnchanged start n x calm low)

    place : IsLayerIn g n x
    place = subst (IsLayerIn g n) (sym is) (layer_at g n 0 now n x (omega arith) was.slots inside)

    module _ (y : LayerState) (c : Seen) (back : Tells c → Tells a) (same : IsSameFile x y) (others : OnlyIn x.slot b c) where
      pub next_slots : AreLayersFrom g 0 (set now n y)
      next_slots = layers_set g 0 now n x y is same was.slots

      pub next_files : AreSameFiles start (set now n y)
      next_files = files_set start now n x y is same was.files

      pub next_room : StaysInRoom x y → StayInRoom start (set now n y)
      next_room room = rooms_set start now n x y is room was.files was.room

      pub next_whole : y.broken ≡ false → AreWhole (set now n y)
      next_whole h = all_set (λ (s : LayerState). s.broken ≡ false) now n y was.whole h

      step_keeps : KeepsLayer null x y b c → KeepsEach null now (set now n y) b c
      step_keeps keeps = any_keeps null g now n x y b c is inside was.slots same others keeps

      pub next_keeps : KeepsMap null x y b c → (x.marked ≡ false → x.hardened ≡ true → (y ≡ x) × (c ≡ b)) → KeepsEach null start (set now n y) a c
      next_keeps map still = keeps_twice null start now (set now n y) a b c tells was.keeps (step_keeps (still_ties null x y b c map still))

      step_lies : StopsWithin null x b c → StopsLie null g now b c
      step_lies stopped = any_lies null g now n x b c is inside was.slots others stopped

      pub next_lies : StopsWithin null x b c → StopsLie null g start a c
      next_lies stopped = lies_twice null g start now a b c tells was.keeps.agreed was.lies (step_lies stopped)

      -- its mark, and those of the others
      pub next_marks : KeepsMark x y b c → KeepMarks start (set now n y) a c
      next_marks keeps = marks_twice start now (set now n y) a b c tells (λ told agree. (was.keeps.agreed told agree).agree) was.marks (set_marks g now n x y b c is inside was.slots others keeps)

      pub next_spares : (x.marked ≡ false → x.hardened ≡ true → c.world ≡ b.world) → OnlyInChanged start a c
      next_spares still = λ told.
          spares_joins start a.world b.world c.world (was.spares told) (spares_one start n x b.world c.world at_start low (others (tells told)) still)

      -- a slot without a changed layer has none on
      pub next_calm : (x.marked ≡ false → x.hardened ≡ true → y ≡ x) → (slot : ℕ) → HasNoChange start slot → HasNoChange (set now n y) slot
      next_calm still slot calm =
          all_set (λ (s : LayerState). s.slot ≡ slot → IsUnchanged s) now n y (was.calm slot calm)
          (λ at.
          let own : (get_or start n x).slot ≡ slot → IsUnchanged (get_or start n x) = all_at (λ (s : LayerState). s.slot ≡ slot → IsUnchanged s) start n x calm low in
          let here : IsUnchanged x = subst IsUnchanged (sym at_start) (own (ap (λ (s : LayerState). s.slot) (sym at_start) ∙ (sym same.slot ∙ at))) in
          subst IsUnchanged (sym (still here.unmarked here.hardened)) here)

      -- whatever a stop leaves is the stack, from the last layer on
      next_settled : StopsWithin null x b c → StopHolds null x b c → StopsSettle null g start a c
      next_settled stopped holds = λ had has. ⊎_elim
          (λ (below : left < length start).
          let then = settled_hardening null g start now a b had has tells was.keeps.agreed (was.settled below) in
          at_end (EachOpens g (Lies had.stack [])) b.world.events c.world.events (step_lies stopped (all_hardened had) then))
          (λ (last : length start ≤ left).
          let long = files_length start now was.files in
          let then = kept_hardening null g start now a b had has tells was.keeps.agreed was.lies in
          set_settles now n x y is (omega (arith, long, next, low, last)) null g b c was.slots same others holds had then)
          (cases_lt left (length start))

      next_closed : AreLayersFrom g 0 start → (Tells b → Agrees x b.world → x.marked ≡ true → StaysClosed x.tables.layout x.slot c.world) → Tells a → AgreeAll start a.world
          → AllByRecursion (IsClosedIn c.world) (drop n start)
      next_closed are closed = λ told agree.
          let spares : SparesOthers n b.world c.world = subst (λ (k : ℕ). SparesOthers k b.world c.world) place.slot_is (others (tells told)) in
          let above = layers_drop g 0 (suc n) (suc n) start (omega arith) are in
          let rest : AllByRecursion (IsClosedIn b.world) (drop (suc n) start) = subst (λ (k : ℕ). AllByRecursion (IsClosedIn b.world) (drop k start)) (sym next) (was.closed told agree) in
          let split : x ∷ drop (suc n) start ≡ drop n start = ap (λ (s : LayerState). s ∷ drop (suc n) start) at_start ∙ sym (drop-cons start n x low) in
          subst (AllByRecursion (IsClosedIn c.world)) split (
            closed (tells told) (agrees_here told agree),
            closed_above g n (suc n) (drop (suc n) start) b.world c.world (omega arith) above spares rest,
          )

      next_reads : AreLayersFrom g 0 start → (i : ℕ) (d : LayerState) → i < n → i < length start → CanRead (get_or start i d) c
      next_reads are i d less inner =
          read_beside (get_or start i d) x.slot b c tells_back others
          (λ e. absurd (omega (arith, e, place.slot_is, (layer_at g i 0 start i d (omega arith) are inner).slot_is, less))) (was.reads i d (omega (arith, less, next)) inner)
        where
          tells_back : Tells c → Tells b
          tells_back told = tells (back told)

      -- where nothing was changed, nothing is done
      next_still : (x.marked ≡ false → x.hardened ≡ true → (y ≡ x) × (c ≡ b)) → AreUnchanged start → (set now n y ≡ start) × (c ≡ a)
      next_still still calm =
          let here = unchanged_now calm in
          let h = still here.unmarked here.hardened in
          let before = was.still calm in
          (ap (set now n) (h.0 ∙ is) ∙ (set-get_or now n x ∙ before.0), h.1 ∙ before.1)

      next_unchanged : y.marked ≡ false → y.hardened ≡ true → AllByRecursion IsUnchanged (drop n (set now n y))
      next_unchanged unmarked hardened =
          let more : n + 1 ≡ left = omega (arith, next) in
          subst (AllByRecursion IsUnchanged) (sym (drop-set now n y inside))
          (record { unmarked = unmarked; hardened = hardened }, subst (λ (k : ℕ). AllByRecursion IsUnchanged (drop k now)) (sym more) was.unchanged)

      -- one more was closed
      pub one_closed : (more : ℕ) → more ≡ n → AreLayersFrom g 0 start → StaysInRoom x y → KeepsMark x y b c → KeepsMap null x y b c → StopsWithin null x b c → StopHolds null x b c
          → (Tells b → Agrees x b.world → x.marked ≡ true → StaysClosed x.tables.layout x.slot c.world) → (x.marked ≡ false → x.hardened ≡ true → (y ≡ x) × (c ≡ b))
          → y.marked ≡ false → y.hardened ≡ true → y.broken ≡ false → c.faults ≡ b.faults → HasClosed null g start (set now n y) a c more
      one_closed more e are room keeps map stopped holds closed still unmarked hardened whole counts = subst (HasClosed null g start (set now n y) a c) (sym e) (record {
        slots = next_slots;
        whole = next_whole whole;
        files = next_files;
        room = next_room room;
        below = λ i d less. get_or-set_other now n i y d (λ j. absurd (omega (arith, j, less))) ∙ was.below i d (omega (arith, less, next));
        keeps = next_keeps map still;
        lies = next_lies stopped;
        marks = next_marks keeps;
        settled = λ less. next_settled stopped holds;
        spares = next_spares (λ unmarked fast. ap (λ (s : Seen). s.world) (still unmarked fast).1);
        calm = next_calm (λ unmarked fast. (still unmarked fast).0);
        closed = next_closed are closed;
        reads = next_reads are;
        still = next_still still;
        unchanged = next_unchanged unmarked hardened;
        counts = counts ∙ was.counts;
      })
