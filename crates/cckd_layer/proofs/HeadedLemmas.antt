-- The headers at each operation: by each call, and by calls one after the other.
use Rattle.std.proofs.Common.{◌≡◌, ◌⊎◌, ℕ, ◌/◌, ◌%◌, ◌<◌, true, List, ◌++◌, length, take, Result, Ok, Err, OnOk, OnErr, refl, sym, ◌∙◌, ap, subst, inl, inr, arith}
use Rattle.cckd_shelf.specs.declared.fault.Failed.{Failed}
use Rattle.cckd_shelf.specs.Events.{Event}
use Rattle.cckd_shelf.specs.Files.{overlaid}
use Rattle.cckd_shelf.specs.World.{World, file_of, after_write, after_torn, after_sync}
use Rattle.cckd_shelf.specs.Outcomes.{IsOutcome, EachOutcome, AtEach}
use Rattle.cckd_shelf.specs.Seen.{Seen, Tells, Stays, Makes, MayMake}
use Rattle.cckd_shelf.specs.Stops.{StopsLeave}
use Rattle.cckd_shelf.proofs.MomentLemmas.{weaker, joins, at_end, kept_at, wrote, synced}
use Rattle.cckd_shelf.proofs.OutcomeLemmas.{now_is_outcome}
use Rattle.cckd_base.specs.declared.space.Extent.{Extent}
use Rattle.cckd_base.specs.Header.{headers_of, header_options}
use Rattle.cckd_base.proofs.HeaderLemmas.{headed_layout}
use Rattle.cckd_image.specs.declared.header.ImageHeader.{ImageHeader}
use Rattle.cckd_tables.specs.Staging.{Stages}
use Rattle.cckd_tables.specs.Looking.{IsTables}
use Rattle.cckd_tables.specs.Commit.{MayLeave}
use Rattle.cckd_tables.specs.Making.{Commits}
use Rattle.cckd_tables.proofs.CommitLemmas.{ready_of}
use Rattle.cckd_layer.specs.Sits.{identifiers_for, IsMarked, Sits}
use Rattle.cckd_layer.specs.Current.{claim, IsAmong, IsInUse, IsReplaced}
use Rattle.cckd_layer.specs.Changes.{IsRemarked}
use Rattle.cckd_layer.specs.Marks.{SpellsSecond}
use Rattle.cckd_layer.specs.Chain.{opened_second}
use Rattle.cckd_layer.specs.Stands.{AreRising, LayerView, Stands}
use Rattle.cckd_layer.specs.Mounted.{LayerState, kept_view}
use Rattle.cckd_base.specs.declared.layer_fault.LayerFault.{LayerFault}
use Rattle.cckd_tables.specs.Looking.{with_cached}
use Rattle.cckd_layer.specs.Mounted.{with_tables}
use Rattle.cckd_layer.specs.Writes.{Agrees, AgreesWith, IsSameLayer, claimed_view, with_plan}
use Rattle.cckd_layer.specs.Headed.{IsHeadedAs, IsHeadedWith, KeepsHeadersWith, KeepsHeaders, IsSteady, StaysSteady, KeepsMarkWith, KeepsMark}
use Rattle.cckd_layer.proofs.HeadLemmas.{headers_written}
use Rattle.cckd_layer.proofs.FillLemmas.{write_fills}
use Rattle.cckd_layer.proofs.NearLemmas.{near_whole}
use Rattle.cckd_layer.proofs.StandLemmas.{stands_sits}
use Rattle.cckd_layer.proofs.CommittedLemmas.{synced_whole, blend_whole}
use Rattle.cckd_layer.proofs.WritesLemmas.{commits_of, rising_of}
use Rattle.cckd_layer.proofs.CalmLemmas.{nothing_leaves}
use Rattle.cckd_layer.proofs.RemarkedLemmas.{remarked, remarked_marked}
use Rattle.cckd_layer.proofs.ReservedLemmas.{stays_of}
use Rattle.cckd_layer.proofs.MarkLemmas.{opened_fits, opened_marked}

-- ---- by each call

-- by one that does nothing
pub headers_still : (s : LayerState) (old new : Seen) → Stays old new → KeepsHeaders s old new
headers_still s old new stays told a = record {
  headers = kept_at (EachOutcome s.slot (IsHeadedAs old.world.events s.slot)) old.world new.world (stays told) (λ f o. (f, o, refl));
  still = λ h. kept_at (EachOutcome s.slot (IsOutcome old.world.events s.slot)) old.world new.world (stays told) (λ f o. o);
}

-- a file that a commit leaves has the headers of an outcome from before
commit_headed : (v : LayerView) (slot : ℕ) (w : World) → AreRising v.stages → Stands v slot w → (f : List ℕ) → MayLeave v.layout v.stages slot w.events (file_of w slot) f → IsHeadedAs w.events slot f
commit_headed v slot w rising h f left = elim left [
  | inl near ↦
      let x = near_whole v.layout v.stages v.claims (IsInUse v.layout v.stages (file_of w slot)) (IsReplaced v.layout v.stages (file_of w slot)) v.plan near.0 f rising.groups h.now.spans.laid h.now.spans.short h.now.accounts (h.each near.0 near.1) near.2 in
      (near.0, near.1, x.headers)
  | inr blend ↦
      let l = v.layout in
      let was = file_of w slot in
      let sits = stands_sits v slot w h in
      let x = synced_whole l v.stages v.claims v.plan was blend.0 rising sits h.now blend.1 in
      let ready = ready_of l v.stages was blend.0 (headed_layout (identifiers_for l) l was sits.whole.headed) blend.1 in
      (was, now_is_outcome w.events slot, (blend_whole l v.stages blend.0 f x.whole ready blend.2).1 ∙ x.headers)
]

-- by a commit
pub commit_headers : (s : LayerState) (old new : Seen) → IsTables s.tables
    → (Commits s.tables.layout s.tables.stages s.slot old → StopsLeave s.slot (MayLeave s.tables.layout s.tables.stages s.slot old.world.events (file_of old.world s.slot)) old new)
    → KeepsHeaders s old new
commit_headers s old new t stopped told a =
    let l = s.tables.layout in
    let was = file_of old.world s.slot in
    let may = MayLeave l s.tables.stages s.slot old.world.events was in
    let left = stopped (commits_of s old t told a) told in
    record {
      headers = weaker (EachOutcome s.slot may) (EachOutcome s.slot (IsHeadedAs old.world.events s.slot)) old.world.events new.world.events
          (λ es h f o. commit_headed (kept_view s) s.slot old.world (rising_of s.tables t) a.stands f (h f o)) left;
      still = λ hardened. weaker (EachOutcome s.slot may) (EachOutcome s.slot (IsOutcome old.world.events s.slot)) old.world.events new.world.events
          (λ es h f o. subst (IsOutcome old.world.events s.slot) (sym (nothing_leaves l s.slot old.world.events was f (a.alone hardened)
          (subst (λ (st : Stages). MayLeave l st s.slot old.world.events was f) (a.empty hardened) (h f o)))) (now_is_outcome old.world.events s.slot)) left;
    }

-- by a sync
pub sync_adds : (s : LayerState) (old new : Seen) (result : Result (Unit {0}) Failed) → OnOk result (Makes (after_sync s.slot) old new) → OnErr result (Stays old new)
    → StopsLeave s.slot (IsOutcome old.world.events s.slot) old new
sync_adds s old new result done kept told = synced (IsOutcome old.world.events s.slot) s.slot s.slot old new result done kept told (λ f o. o)

-- by bytes that are written to a place that is claimed
pub put_headers : (claims : List Extent) (s : LayerState) (old new : Seen) (pos : ℕ) (bytes : List ℕ) (result : Result (Unit {0}) Failed) → 0 < length bytes → IsAmong (claim pos (length bytes)) claims
    → OnOk result (Makes (after_write s.slot pos bytes) old new) → OnErr result (MayMake (after_torn s.slot pos bytes) old new) → KeepsHeadersWith claims s old new
put_headers claims s old new pos bytes result some among done torn told a =
    let v = claimed_view claims s in
    let P : List ℕ → Type 0 = λ f. Sits s.tables.layout s.plan.pieces f × IsOutcome old.world.events s.slot f in
    wrote P (IsHeadedAs old.world.events s.slot) s.slot pos bytes old new result done torn told
    (λ f o. (a.stands.each f o, o)) (λ was k. (was, k.1, refl))
    (λ was f k leaves. (was, k.1, (stays_of v s.slot old.world pos (length bytes) some among a.stands was f (write_fills pos bytes was f leaves) k.0).headers))

-- by the mark
pub mark_first : (claims : List Extent) (s : LayerState) (old new : Seen) (bytes : List ℕ) → SpellsSecond bytes (opened_second s.header.cckd)
    → StopsLeave s.slot (IsRemarked old.world.events s.slot bytes) old new → KeepsMarkWith claims s old new
mark_first claims s old new bytes spells stops told a =
    let l = s.tables.layout in
    let c = opened_second s.header.cckd in
    let es = old.world.events in
    record {
      headers = weaker (EachOutcome s.slot (IsRemarked es s.slot bytes)) (EachOutcome s.slot (λ f. IsHeadedAs es s.slot f ⊎ IsHeadedWith c es s.slot f)) es new.world.events
          (λ more h f o.
          let k = h f o in
          let sits = a.stands.each k.0 k.1 in
          elim k.2 [
            | inl same ↦ inl (k.0, k.1, ap headers_of same)
            | inr made ↦ inr (k.0, k.1, (bytes, spells, ap headers_of made ∙ headers_written bytes k.0 (omega (arith, sits.whole.image.area)) spells.long))
          ]) (stops told);
      first = λ opened. weaker (EachOutcome s.slot (IsRemarked es s.slot bytes)) (EachOutcome s.slot (λ f. IsOutcome es s.slot f ⊎ IsMarked f)) es new.world.events
          (λ more h f o.
          let k = h f o in
          let sits = a.stands.each k.0 k.1 in
          elim k.2 [
            | inl same ↦ inl (subst (IsOutcome es s.slot) (sym same) k.1)
            | inr made ↦ inr (subst IsMarked (sym made) (remarked_marked l c k.0 (overlaid k.0 512 bytes) (remarked l c bytes k.0 spells (opened_fits l s.header.cckd a.fits) sits.whole) (opened_marked s.header.cckd)))
          ]) (stops told);
    }

-- ---- by calls one after the other

-- headers that are those of an outcome behind the first are those of one before it
pub headed_before : (slot : ℕ) (a b : List Event) → EachOutcome slot (IsHeadedAs a slot) b → (f : List ℕ) → IsHeadedAs b slot f → IsHeadedAs a slot f
headed_before slot a b each f k = let w = each k.0 k.1 in (w.0, w.1, k.2 ∙ w.2)

pub same_headers : (f was : List ℕ) → headers_of f ≡ headers_of was → IsMarked was → IsMarked f
same_headers f was e m = record { on = subst (λ (hs : List ℕ). header_options hs / 128 % 2 ≡ 1) (sym e) m.on }

pub headers_then : (s m : LayerState) (a b c : Seen) → (Tells a → Tells b) → m.slot ≡ s.slot → (Tells a → Agrees s a.world → Agrees m b.world) → (Tells a → Agrees s a.world → s.hardened ≡ true → m.hardened ≡ true)
    → KeepsHeaders s a b → KeepsHeaders m b c → KeepsHeaders s a c
headers_then s m a b c tells slot map hard h k told agrees =
    let x = a.world.events in
    let y = b.world.events in
    let z = c.world.events in
    let one = h told agrees in
    let two = k (tells told) (map told agrees) in
    let Q = EachOutcome s.slot (IsHeadedAs x s.slot) in
    let R = EachOutcome s.slot (IsOutcome x s.slot) in
    record {
      headers = joins Q x y z one.headers
          (weaker (EachOutcome s.slot (IsHeadedAs y s.slot)) Q y z (λ es g f o. headed_before s.slot x y (at_end Q x y one.headers) f (g f o))
          (subst (λ (n : ℕ). AtEach y z (EachOutcome n (IsHeadedAs y n))) slot two.headers));
      still = λ hardened. let first = one.still hardened in
          joins R x y z first
          (weaker (EachOutcome s.slot (IsOutcome y s.slot)) R y z (λ es g f o. at_end R x y first f (g f o))
          (subst (λ (n : ℕ). AtEach y z (EachOutcome n (IsOutcome y n))) slot (two.still (hard told agrees hardened))));
    }

-- and then what leaves nothing else than was left before
pub headers_stay : (s m : LayerState) (a b c : Seen) → (Tells a → Tells b) → m.slot ≡ s.slot → KeepsHeaders s a b → StopsLeave m.slot (IsOutcome b.world.events m.slot) b c → KeepsHeaders s a c
headers_stay s m a b c tells slot h k told agrees =
    let x = a.world.events in
    let y = b.world.events in
    let z = c.world.events in
    let one = h told agrees in
    let two = subst (λ (n : ℕ). AtEach y z (EachOutcome n (IsOutcome y n))) slot (k (tells told)) in
    let Q = EachOutcome s.slot (IsHeadedAs x s.slot) in
    let R = EachOutcome s.slot (IsOutcome x s.slot) in
    record {
      headers = joins Q x y z one.headers (weaker (EachOutcome s.slot (IsOutcome y s.slot)) Q y z (λ es g f o. at_end Q x y one.headers f (g f o)) two);
      still = λ hardened. let first = one.still hardened in
          joins R x y z first (weaker (EachOutcome s.slot (IsOutcome y s.slot)) R y z (λ es g f o. at_end R x y first f (g f o)) two);
    }

-- the mark, and then bytes behind the headers
pub mark_then_put : (claims : List Extent) (s m : LayerState) (a b c : Seen) → (Tells a → Tells b) → m.slot ≡ s.slot → m.marked ≡ true → (Tells a → AgreesWith claims s a.world → AgreesWith claims m b.world)
    → KeepsMarkWith claims s a b → KeepsHeadersWith claims m b c → KeepsMarkWith claims s a c
mark_then_put claims s m a b c tells slot marked map h k told agrees =
    let x = a.world.events in
    let y = b.world.events in
    let z = c.world.events in
    let one = h told agrees in
    let agreed = map told agrees in
    let two = subst (λ (n : ℕ). AtEach y z (EachOutcome n (IsHeadedAs y n))) slot (k (tells told) agreed) in
    let on : EachOutcome s.slot IsMarked y = subst (λ (n : ℕ). EachOutcome n IsMarked y) slot (agreed.stands.marked marked) in
    let P : List ℕ → Type 0 = λ f. IsHeadedAs x s.slot f ⊎ IsHeadedWith (opened_second s.header.cckd) x s.slot f in
    let R : List ℕ → Type 0 = λ f. IsOutcome x s.slot f ⊎ IsMarked f in
    record {
      headers = joins (EachOutcome s.slot P) x y z one.headers
          (weaker (EachOutcome s.slot (IsHeadedAs y s.slot)) (EachOutcome s.slot P) y z (λ es g f o.
          let w = g f o in
          elim (at_end (EachOutcome s.slot P) x y one.headers w.0 w.1) [
            | inl was ↦ inl (was.0, was.1, w.2 ∙ was.2)
            | inr was ↦ inr (was.0, was.1, (was.2.0, was.2.1, w.2 ∙ was.2.2))
          ]) two);
      first = λ opened. joins (EachOutcome s.slot R) x y z (one.first opened)
          (weaker (EachOutcome s.slot (IsHeadedAs y s.slot)) (EachOutcome s.slot R) y z (λ es g f o. let w = g f o in inr (same_headers f w.0 w.2 (on w.0 w.1))) two);
    }

-- what keeps the headers marks nothing else first
pub marks_none : (s : LayerState) (a b : Seen) → KeepsHeaders s a b → KeepsMark s a b
marks_none s a b h told agrees =
    let x = a.world.events in
    let y = b.world.events in
    let one = h told agrees in
    record {
      headers = weaker (EachOutcome s.slot (IsHeadedAs x s.slot)) (EachOutcome s.slot (λ f. IsHeadedAs x s.slot f ⊎ IsHeadedWith (opened_second s.header.cckd) x s.slot f)) x y (λ es g f o. inl (g f o)) one.headers;
      first = λ opened. elim opened [
        | inl marked ↦ weaker (EachOutcome s.slot (IsHeadedAs x s.slot)) (EachOutcome s.slot (λ f. IsOutcome x s.slot f ⊎ IsMarked f)) x y
            (λ es g f o. let w = g f o in inr (same_headers f w.0 w.2 (agrees.stands.marked marked w.0 w.1))) one.headers
        | inr hardened ↦ weaker (EachOutcome s.slot (IsOutcome x s.slot)) (EachOutcome s.slot (λ f. IsOutcome x s.slot f ⊎ IsMarked f)) x y (λ es g f o. inl (g f o)) (one.still hardened)
      ];
    }

-- the mark behind what keeps the headers, and the mark's layer
pub mark_behind : (claims : List Extent) (s m : LayerState) (a b c : Seen) → (Tells a → Tells b) → m.slot ≡ s.slot → StaysSteady s m a → (Tells a → Agrees s a.world → AgreesWith claims m b.world)
    → KeepsHeaders s a b → KeepsMarkWith claims m b c → KeepsMark s a c
mark_behind claims s m a b c tells slot steady map h k told agrees =
    let x = a.world.events in
    let y = b.world.events in
    let z = c.world.events in
    let before = h told agrees in
    let one = marks_none s a b h told agrees in
    let same = steady told agrees in
    let second : (n : ℕ) → List ℕ → Type 0 = λ n f. IsHeadedAs y n f ⊎ IsHeadedWith (opened_second m.header.cckd) y n f in
    let firsts : (n : ℕ) → List ℕ → Type 0 = λ n f. IsOutcome y n f ⊎ IsMarked f in
    let two = k (tells told) (map told agrees) in
    let P : List ℕ → Type 0 = λ f. IsHeadedAs x s.slot f ⊎ IsHeadedWith (opened_second s.header.cckd) x s.slot f in
    let R : List ℕ → Type 0 = λ f. IsOutcome x s.slot f ⊎ IsMarked f in
    record {
      headers = joins (EachOutcome s.slot P) x y z one.headers
          (weaker (EachOutcome s.slot (second s.slot)) (EachOutcome s.slot P) y z (λ es g f o. elim (g f o) [
            | inl w ↦ inl (headed_before s.slot x y (at_end (EachOutcome s.slot (IsHeadedAs x s.slot)) x y before.headers) f w)
            | inr w ↦
                let was = at_end (EachOutcome s.slot (IsHeadedAs x s.slot)) x y before.headers w.0 w.1 in
                let spells = subst (λ (i : ImageHeader). SpellsSecond w.2.0 (opened_second i.cckd)) same.header w.2.1 in
                inr (was.0, was.1, (w.2.0, spells, w.2.2 ∙ ap (λ (hs : List ℕ). take 512 hs ++ w.2.0) was.2))
          ]) (subst (λ (n : ℕ). AtEach y z (EachOutcome n (second n))) slot two.headers));
      first = λ opened.
          let ready : (m.marked ≡ true) ⊎ (m.hardened ≡ true) = elim opened [ inl marked ↦ inl (same.marked ∙ marked) | inr hardened ↦ inr (same.hardened hardened) ] in
          joins (EachOutcome s.slot R) x y z (one.first opened)
          (weaker (EachOutcome s.slot (firsts s.slot)) (EachOutcome s.slot R) y z (λ es g f o. elim (g f o) [
            | inl w ↦ at_end (EachOutcome s.slot R) x y (one.first opened) f w
            | inr on ↦ inr on
          ]) (subst (λ (n : ℕ). AtEach y z (EachOutcome n (firsts n))) slot (two.first ready)));
    }

-- ---- a layer that stays steady

steady_plan : (s next : LayerState) → next ≡ with_plan s next.plan → IsSteady s next
steady_plan s next rest = record {
  header = ap (λ (x : LayerState). x.header) rest;
  marked = ap (λ (x : LayerState). x.marked) rest;
  hardened = λ h. ap (λ (x : LayerState). x.hardened) rest ∙ h;
}

-- where only the pieces change
pub steady_by_plan : (s next : LayerState) (old : Seen) → next ≡ with_plan s next.plan → StaysSteady s next old
steady_by_plan s next old rest told agrees = steady_plan s next rest

-- where it is hardened between two such acts
pub steady_hardened : {A : Type 0} (s m h n : LayerState) (old : Seen) (r : Result A LayerFault) → m ≡ with_plan s m.plan → IsSameLayer m h → h.hardened ≡ true → n ≡ with_plan h n.plan → OnOk r (StaysSteady s n old)
steady_hardened s m h n old (Err why) first same hard last = tt
steady_hardened s m h n old (Ok x) first same hard last = λ told agrees.
    let a = steady_plan s m first in
    let b = steady_plan h n last in
    record { header = b.header ∙ (same.header ∙ a.header); marked = b.marked ∙ (same.marked ∙ a.marked); hardened = λ _. b.hardened hard }

-- where an entry is looked up between two acts
pub steady_looked : (s m f n : LayerState) → IsSteady s m → f ≡ with_tables m (with_cached m.tables f.tables.cached) → IsSteady f n → IsSteady s n
steady_looked s m f n a rest b = record {
  header = b.header ∙ (ap (λ (x : LayerState). x.header) rest ∙ a.header);
  marked = b.marked ∙ (ap (λ (x : LayerState). x.marked) rest ∙ a.marked);
  hardened = λ h. b.hardened (ap (λ (x : LayerState). x.hardened) rest ∙ a.hardened h);
}
