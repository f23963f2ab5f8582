-- The second header written anew: what it says behind any first one, and the file that has it.
use Rattle.std.proofs.Common.{◌≡◌, ℕ, ◌+◌, List, [], ◌∷◌, ◌++◌, length, take, drop, get_or, Result, OnOk, OnErr, refl, sym, ◌∙◌, ap, subst, inl, inr, arith}
use Rattle.std.specs.Int.{w16, w32, cast_signed}
use Rattle.std.proofs.lemmas.List.{drop-drop, get_or-drop, length-drop, take_all}
use Rattle.cckd_shelf.specs.declared.fault.Failed.{Failed}
use Rattle.cckd_shelf.specs.Seen.{Seen, Tells, Makes, MayMake, Stays}
use Rattle.cckd_shelf.specs.World.{World, IsSure, file_of, after_write, after_torn, after_sync}
use Rattle.cckd_shelf.specs.Outcomes.{IsOutcome, EachOutcome}
use Rattle.cckd_shelf.specs.Stops.{StopsLeave}
use Rattle.cckd_shelf.proofs.MomentLemmas.{wrote, then_synced}
use Rattle.cckd_shelf.proofs.OutcomeLemmas.{sync_leaves_now}
use Rattle.cckd_shelf.proofs.WorldLemmas.{sure_wrote}
use Rattle.cckd_base.specs.declared.order.Order.TheVariants.{Little}
use Rattle.cckd_base.specs.Numbers.{number_of}
use Rattle.cckd_image.specs.declared.header.ImageHeader.{ImageHeader}
use Rattle.cckd_image.specs.Image.{order_by, cckd_header_of, header_of}
use Rattle.cckd_layer.specs.Changes.{IsRemarked}
use Rattle.cckd_layer.specs.Marks.{SpellsSecond}

-- each operation leaves what could be left before, with one second header or the other
pub remark_stopped : (slot : ℕ) (bytes : List ℕ) (old new : Seen) (result : Result (Unit {0}) Failed) → length bytes ≡ 512
    → OnOk result (Makes (after_write slot 512 bytes) old new) → OnErr result (MayMake (after_torn slot 512 bytes) old new) → StopsLeave slot (IsRemarked old.world.events slot bytes) old new
remark_stopped slot bytes old new result long ok err told =
    wrote (IsOutcome old.world.events slot) (IsRemarked old.world.events slot bytes) slot 512 bytes old new result ok err told
    (λ file h. h) (λ was h. (was, h, inl refl))
    (λ was file h leaves. elim (leaves.whole (omega (arith, long))) [ inl same ↦ (was, h, inl same) | inr made ↦ (was, h, inr made) ])

pub remark_synced : (slot : ℕ) (bytes : List ℕ) (old mid new : Seen) (first second : Result (Unit {0}) Failed) → (Tells old → Tells mid) → length bytes ≡ 512
    → OnOk first (Makes (after_write slot 512 bytes) old mid) → OnErr first (MayMake (after_torn slot 512 bytes) old mid)
    → OnOk second (Makes (after_sync slot) mid new) → OnErr second (Stays mid new) → StopsLeave slot (IsRemarked old.world.events slot bytes) old new
remark_synced slot bytes old mid new first second tells long ok err synced kept told =
    then_synced (IsRemarked old.world.events slot bytes) slot slot old mid new second synced kept (tells told) (remark_stopped slot bytes old mid first long ok err told)

-- ---- what a second header says depends on its own bytes alone

by_option : (a b : List ℕ) → drop 512 a ≡ drop 512 b → (i : ℕ) → get_or a (512 + i) 0 ≡ get_or b (512 + i) 0
by_option a b e i = sym (get_or-drop 512 a i 0) ∙ (ap (λ (bytes : List ℕ). get_or bytes i 0) e ∙ get_or-drop 512 b i 0)

from_there : (a b : List ℕ) → drop 512 a ≡ drop 512 b → (i : ℕ) → drop (512 + i) a ≡ drop (512 + i) b
from_there a b e i = sym (drop-drop i 512 a) ∙ (ap (drop i) e ∙ drop-drop i 512 b)

pub same_second : (a b : List ℕ) → drop 512 a ≡ drop 512 b → cckd_header_of a ≡ cckd_header_of b
same_second a b e =
    let o : get_or a 515 0 ≡ get_or b 515 0 = by_option a b e 3 in
    let nf : get_or a 556 0 ≡ get_or b 556 0 = by_option a b e 44 in
    let cp : get_or a 557 0 ≡ get_or b 557 0 = by_option a b e 45 in
    let d4 = from_there a b e 4 in
    let d8 = from_there a b e 8 in
    let d12 = from_there a b e 12 in
    let d16 = from_there a b e 16 in
    let d20 = from_there a b e 20 in
    let d24 = from_there a b e 24 in
    let d28 = from_there a b e 28 in
    let d32 = from_there a b e 32 in
    let d36 = from_there a b e 36 in
    let d40 = from_there a b e 40 in
    let d46 = from_there a b e 46 in
    let d48 = from_there a b e 48 in
    λ i. record {
      version = take 3 (e i);
      options = o i;
      words = number_of (order_by (o i)) w32 (take 4 (d4 i));
      entries = number_of (order_by (o i)) w32 (take 4 (d8 i));
      size = number_of (order_by (o i)) w32 (take 4 (d12 i));
      used = number_of (order_by (o i)) w32 (take 4 (d16 i));
      free = number_of (order_by (o i)) w32 (take 4 (d20 i));
      free_total = number_of (order_by (o i)) w32 (take 4 (d24 i));
      free_largest = number_of (order_by (o i)) w32 (take 4 (d28 i));
      free_number = number_of (order_by (o i)) w32 (take 4 (d32 i));
      free_imbed = number_of (order_by (o i)) w32 (take 4 (d36 i));
      cyls = number_of Little w32 (take 4 (d40 i));
      null_fmt = nf i;
      compress = cp i;
      param = cast_signed w16 (number_of (order_by (o i)) w16 (take 2 (d46 i)));
      reserved = take 464 (d48 i);
    }

drop_front : (front bytes : List ℕ) → length front ≡ 512 → drop 512 (front ++ bytes) ≡ bytes
drop_front front bytes half = subst (λ (n : ℕ). drop n (front ++ bytes) ≡ bytes) half (drop_append front bytes)
  where
    drop_append : (xs ys : List ℕ) → drop (length xs) (xs ++ ys) ≡ ys
    drop_append [] ys = refl
    drop_append (x ∷ xs) ys = drop_append xs ys

pub spells_second : (both second : List ℕ) (h : ImageHeader) → length second ≡ 512 → length both ≡ 1024 → second ≡ take 512 (drop 512 both) → header_of both ≡ h → SpellsSecond second h.cckd
spells_second both second h half long part whole =
    let rest : take 512 (drop 512 both) ≡ drop 512 both = take_all 512 (drop 512 both) (omega (arith, length-drop 512 both, long)) in
    record {
      long = half;
      back = λ front first.
          same_second (front ++ second) both (drop_front front second first ∙ (part ∙ rest)) ∙ ap (λ (x : ImageHeader). x.cckd) whole;
    }

-- behind the sync the file now is what a stop leaves
pub remark_alone : (slot : ℕ) (bytes : List ℕ) (old mid new : Seen) → mid.world ≡ after_write slot 512 bytes old.world → new.world ≡ after_sync slot mid.world → IsSure old.world
    → EachOutcome slot (λ file. file ≡ file_of new.world slot) new.world.events
remark_alone slot bytes old mid new first second sure =
    let mid_sure = sure_wrote slot 512 bytes old.world mid.world first sure in
    subst (λ (w : World). EachOutcome slot (λ file. file ≡ file_of w slot) w.events) (sym second) (sync_leaves_now slot mid.world.events mid_sure)
