-- The spaces in use of an image stand apart, in order, and so do the pieces that are made of them.
use Rattle.std.proofs.Common.{◌≡◌, ℕ, ◌≤◌, List, [], ◌∷◌, length, Some, None, Ok, Err, refl, sym, subst, inl, inr, arith}
use Rattle.cckd_base.specs.declared.geometry.Layout.{Layout}
use Rattle.cckd_base.specs.declared.space.Extent.{Extent}
use Rattle.cckd_base.specs.Entry.{word_at, entry_at}
use Rattle.cckd_base.specs.Geometry.{area_of, IsLayout}
use Rattle.cckd_base.specs.Survey.{Item, header_space, met, kept_with, kept_after, items, by_position, used_spaces, HasNoMisfit, StandApart}
use Rattle.cckd_base.proofs.MemberLemmas.{In}
use Rattle.cckd_base.proofs.CleanLemmas.{IsClean, map_none, kept_one, surveyed_clean}
use Rattle.cckd_base.proofs.ImageLemmas.{IsNamed, used_named, in_position, word_fits, entry_fits, survey_of_image}
use Rattle.cckd_base.proofs.HeaderLemmas.{headed_layout}
use Rattle.cckd_base.proofs.PlaceLemmas.{table_inside, stored_inside}
use Rattle.cckd_space.proofs.LaidLemmas.{laid_pieces_of}
use Rattle.cckd_tables.specs.Inside.{IsFormed, AreFormed}
use Rattle.cckd_tables.specs.Kept.{ShareNone}
use Rattle.cckd_tables.proofs.MeetLemmas.{apart_more, hold_once}
use Rattle.cckd_tables.proofs.OrderLemmas.{in_order_within, formed_moved, position_moves, position_stands}
use Rattle.cckd_tables.proofs.TakeLemmas.{have_bytes}
use Rattle.cckd_layer.specs.Sits.{IsWhole, identifiers_for}
use Rattle.cckd_layer.proofs.MountLemmas.{IsFound}

one_shares : (e : Extent) → ShareNone (e ∷ [])
one_shares e = record { each = λ at. let o = hold_once at e in omega (arith, o) }

-- what is kept of clean items shares no byte
kept_apart : (kept : List Extent) (is : List Item) → ShareNone kept → IsClean kept is → ShareNone (kept_after kept is)
kept_apart kept [] s h = s
kept_apart kept (Err m ∷ is) s h = absurd (let e : Some m ≡ None = h.0 in cc)
kept_apart kept (Ok None ∷ is) s h = kept_apart kept is s h.1
kept_apart kept (Ok (Some x) ∷ is) s h =
    let none = map_none (met kept x) x h.0 in
    kept_apart (kept_with kept (Ok (Some x))) is (subst ShareNone (sym (kept_one kept x none)) (apart_more kept x s none)) h.1

all_formed : (n : ℕ) (es : List Extent) → ((e : Extent) → In e es → IsFormed n e) → AreFormed n es
all_formed n [] f = tt
all_formed n (e ∷ es) f = (f e (inl refl), all_formed n es (λ x m. f x (inr m)))

-- each space that a sound image names is in use from its first byte on, and ends inside the file
named_formed : (l : Layout) (file : List ℕ) → IsLayout l → area_of l.groups ≤ length file → HasNoMisfit l file → (e : Extent) → IsNamed l file e → IsFormed (length file) e
named_formed l file layout area clean e (inl is) = subst (IsFormed (length file)) (sym is) (record {
  some = omega arith;
  holds = omega arith;
  within = omega (arith, area);
})
named_formed l file layout area clean e (inr (inl g)) =
    let k = table_inside l (length file) g.0 (word_at l file g.0) (word_fits l file clean g.0 g.1) g.2 in
    subst (IsFormed (length file)) (sym g.3) (record { some = omega arith; holds = omega arith; within = k.1 })
named_formed l file layout area clean e (inr (inr t)) =
    let entry = entry_at l file t.0 in
    let k = stored_inside l (length file) t.0 entry (entry_fits l file layout clean t.0 t.1) t.2 in
    subst (IsFormed (length file)) (sym t.3) (record {
      some = omega (arith, k.some);
      holds = omega (arith, k.holds, k.within);
      within = omega (arith, k.within);
    })

pub used_stand : (l : Layout) (file : List ℕ) → IsLayout l → area_of l.groups ≤ length file → HasNoMisfit l file → StandApart 0 (used_spaces l file) (length file)
unfolding used_spaces
used_stand l file layout area clean =
    let n = length file in
    let kept = kept_after (header_space l.groups ∷ []) (items l file) in
    let apart = kept_apart (header_space l.groups ∷ []) (items l file) (one_shares (header_space l.groups)) (surveyed_clean l file clean) in
    let formed = all_formed n kept (λ e m. named_formed l file layout area clean e (used_named l file clean e (in_position e kept m))) in
    in_order_within n 0 (by_position kept) (formed_moved n kept (by_position kept) (position_moves kept) formed) (omega arith)
    (position_stands kept (have_bytes n kept formed) apart)

-- a whole image is one that can be mounted
pub found_whole : (l : Layout) (file : List ℕ) → IsWhole l file → IsFound l file
found_whole l file whole =
    let clean = survey_of_image l file whole.image in
    record {
      headed = whole.headed;
      clean = clean;
      snug = whole.image.snug;
      laid = laid_pieces_of 0 (used_spaces l file) (length file) (used_stand l file (headed_layout (identifiers_for l) l file whole.headed) whole.image.area clean);
    }
