-- The survey of an image, from what was taken.
use Rattle.std.proofs.Common.{◌≡◌, ◌≢◌, ℕ, List, [], ◌∷◌, ◌++◌, nat_le, Result, Some, None, Ok, Err, IfOk, inl, inr, append_assoc, refl, sym, ◌∙◌, ap, subst, arith}
use Rattle.std.specs.Prelude.{Vec}
use Rattle.std.specs.List.{flat_map}
use Rattle.std.specs.Option.{is_none}
use Rattle.std.proofs.lemmas.Bool.{cond-true, cond_both, le-leb}
use Rattle.cckd_base.specs.declared.geometry.Layout.{Layout}
use Rattle.cckd_base.specs.declared.space.Extent.{Extent}
use Rattle.cckd_base.specs.declared.misfit.Misfit.{Misfit}
use Rattle.cckd_base.specs.Survey.{Item, met, kept_after, misfits_after, placed_among, by_position, header_space, table_items, entry_items, entry_items_in, items, misfits, used_spaces}
use Rattle.cckd_base.specs.Survey.{HasNoMisfit}
use Rattle.cckd_base.specs.declared.misfit.ScanFault.{ScanFault}
use Rattle.cckd_base.specs.declared.misfit.ScanFault.TheVariants as fault
use Rattle.cckd_shelf.specs.declared.fault.Faults.{Faults}
use Rattle.std.proofs.lemmas.List.{append-nil}
use Rattle.cckd_tables.specs.declared.progress.Progress.{Progress}
use Rattle.cckd_tables.specs.declared.progress.Until.{Until}
use Rattle.cckd_tables.specs.declared.progress.Until.TheVariants.{End, FirstMisfit}
use Rattle.cckd_tables.specs.Inside.{AreFormed, IsUnderWay, IsHeaded, HasReached, HasTaken, Takes, TakesFront, Answers}
use Rattle.cckd_tables.specs.Kept.{stand_apart}
use Rattle.cckd_tables.specs.declared.surveyed.Surveyed.{Surveyed}
use Rattle.cckd_tables.specs.Scan.{AreSpaces, IsSurveyOf, IsSurvey, CountsScan, first_misfit}
use Rattle.cckd_tables.proofs.OrderLemmas.{in_order_within, formed_moved, position_moves, position_stands}
use Rattle.cckd_tables.proofs.TakeLemmas.{have_bytes, takes_then, misfits_append}

-- the header area stays first
header_stays_first : (groups : ℕ) (xs : List Extent) → by_position (header_space groups ∷ xs) ≡ header_space groups ∷ by_position xs
header_stays_first groups xs = by (by_position xs)
  where
    by : (ys : List Extent) → placed_among (header_space groups) ys ≡ header_space groups ∷ ys
    by [] = refl
    by (y ∷ ys) = cond-true (nat_le 0 y.pos) (header_space groups ∷ y ∷ ys) (y ∷ placed_among (header_space groups) ys) (le-leb 0 y.pos (omega arith))

-- what is kept of a file, whatever it holds
pub are_spaces : (groups n : ℕ) (s : Progress) (rest : List Extent) (sorted : List Extent) → IsUnderWay n s → s.spaces.items ≡ header_space groups ∷ rest
    → sorted ≡ by_position s.spaces.items → AreSpaces groups n sorted
are_spaces groups n s rest sorted u e h = record {
  rest = by_position rest;
  headed = h ∙ ap by_position e ∙ header_stays_first groups rest;
  apart = in_order_within n 0 sorted
      (subst (AreFormed n) (sym h) (formed_moved n s.spaces.items (by_position s.spaces.items) (position_moves s.spaces.items) u.formed))
      (omega arith) (ap (stand_apart 0) h ∙ position_stands s.spaces.items (have_bytes n s.spaces.items u.formed) u.apart);
}

-- what is kept later stands behind the header area
kept_headed : (head : Extent) (ks : List Extent) (is : List Item) → (rest : List Extent) × (kept_after (head ∷ ks) is ≡ head ∷ rest)
kept_headed head ks [] = (ks, refl)
kept_headed head ks (Err m ∷ is) = kept_headed head ks is
kept_headed head ks (Ok None ∷ is) = kept_headed head ks is
kept_headed head ks (Ok (Some e) ∷ is) =
    cond_both (is_none (met (head ∷ ks) e)) (head ∷ (ks ++ e ∷ [])) (head ∷ ks) (λ (k : List Extent). (rest : List Extent) × (kept_after k is ≡ head ∷ rest))
    (λ _. kept_headed head (ks ++ e ∷ []) is) (λ _. kept_headed head ks is)

pub headed_after : (groups n : ℕ) (ks : List Extent) (is : List Item) (a b : Progress) → a.spaces.items ≡ header_space groups ∷ ks → Takes n is a b
    → IsHeaded groups b.spaces.items
headed_after groups n ks is a b e t =
    let h = kept_headed (header_space groups) ks is in
    record { rest = h.0; headed = t.kept ∙ ap (λ (k : List Extent). kept_after k is) e ∙ h.1 }

-- the tables were taken, and then the tracks of those that were kept
kept_tables_are : (n : ℕ) (l : Layout) (file : List ℕ) (tables : List Extent) (a b : Progress) → a.spaces.items ≡ header_space l.groups ∷ []
    → Takes n (table_items l file) a b → tables ≡ b.spaces.items → flat_map (entry_items_in l file) tables ≡ entry_items l file
unfolding entry_items
kept_tables_are n l file tables a b e t g =
    ap (flat_map (entry_items_in l file)) (g ∙ t.kept ∙ ap (λ (k : List Extent). kept_after k (table_items l file)) e)

taken_so_far : (n : ℕ) (l : Layout) (until : Until) (file : List ℕ) (front left : List Item) (a b : Progress) → a.spaces.items ≡ header_space l.groups ∷ [] → a.misfits.items ≡ []
    → items l file ≡ front ++ left → Takes n front a b → HasReached until b left → HasTaken l until file b
taken_so_far n l until file front left a b e f p t r = record {
  front = front;
  left = left;
  parts = p;
  kept = t.kept ∙ ap (λ (k : List Extent). kept_after k front) e;
  misfits = t.misfits ∙ ap (λ (ms : List Misfit). ms ++ misfits_after a.spaces.items front) f ∙ ap (λ (k : List Extent). misfits_after k front) e;
  reached = r;
}

pub tables_taken : (n : ℕ) (l : Layout) (until : Until) (file : List ℕ) (a b : Progress) → a.spaces.items ≡ header_space l.groups ∷ [] → a.misfits.items ≡ []
    → Takes n (table_items l file) a b → (until ≡ FirstMisfit) × (b.misfits.items ≢ []) → HasTaken l until file b
tables_taken n l until file a b e f t r = taken_so_far n l until file (table_items l file) (entry_items l file) a b e f refl t (inr r)

pub all_taken : (n : ℕ) (l : Layout) (until : Until) (file : List ℕ) (tables : List Extent) (a b c : Progress) → a.spaces.items ≡ header_space l.groups ∷ [] → a.misfits.items ≡ []
    → Takes n (table_items l file) a b → tables ≡ b.spaces.items → TakesFront n until (flat_map (entry_items_in l file) tables) b c → HasTaken l until file c
all_taken n l until file tables a b c e f t g u =
    taken_so_far n l until file (table_items l file ++ u.front) u.left a c e f
    (ap (λ (is : List Item). table_items l file ++ is) (sym (kept_tables_are n l file tables a b e t g) ∙ u.parts) ∙ sym (append_assoc (table_items l file) u.front u.left))
    (takes_then n (table_items l file) u.front a b c t u.takes) u.reached

-- nothing is left where it went to the end, and where it met no misfit
none_left : (l : Layout) (until : Until) (file : List ℕ) (p : Progress) (t : HasTaken l until file p) → ((until ≡ FirstMisfit) × (p.misfits.items ≢ []) → ⊥) → items l file ≡ t.front
none_left l until file p t n = elim t.reached [
  | inl e ↦ t.parts ∙ ap (λ (is : List Item). t.front ++ is) e ∙ append-nil t.front
  | inr r ↦ absurd (n r)
]

survey_with : (l : Layout) (file : List ℕ) (p : Progress) (s : Surveyed) (front : List Item) → items l file ≡ front
    → p.spaces.items ≡ kept_after (header_space l.groups ∷ []) front → p.misfits.items ≡ misfits_after (header_space l.groups ∷ []) front
    → s.kept.items ≡ by_position p.spaces.items → s.misfits.items ≡ p.misfits.items → IsSurveyOf l file s
unfolding used_spaces misfits
survey_with l file p s front e k m f g = record {
  kept = f ∙ ap by_position (k ∙ ap (kept_after (header_space l.groups ∷ [])) (sym e));
  misfits = g ∙ m ∙ ap (misfits_after (header_space l.groups ∷ [])) (sym e);
}

pub whole_survey : (l : Layout) (file : List ℕ) (p : Progress) (s : Surveyed) → HasTaken l End file p → s.kept.items ≡ by_position p.spaces.items
    → s.misfits.items ≡ p.misfits.items → IsSurveyOf l file s
whole_survey l file p s t f g = survey_with l file p s t.front (none_left l End file p t (λ r. end_goes_on r.0)) t.kept t.misfits f g
  where
    end_goes_on : End ≡ FirstMisfit → ⊥
    end_goes_on e = cc

-- the first case: there is no misfit, or the first
first_append : (ms ns : List Misfit) (m : Misfit) → first_misfit ms ≡ Some m → first_misfit (ms ++ ns) ≡ Some m
first_append [] ns m h = absurd cc
first_append (x ∷ ms) ns m h = h

first_told : (l : Layout) (file : List ℕ) (p : Progress) (m : Misfit) → HasTaken l FirstMisfit file p → first_misfit p.misfits.items ≡ Some m
    → first_misfit (misfits l file) ≡ Some m
unfolding misfits
first_told l file p m t h =
    ap (λ (is : List Item). first_misfit (misfits_after (header_space l.groups ∷ []) is)) t.parts
    ∙ ap first_misfit (misfits_append (header_space l.groups ∷ []) t.front t.left)
    ∙ first_append (misfits_after (header_space l.groups ∷ []) t.front) _ m (ap first_misfit (sym t.misfits) ∙ h)

none_told : (l : Layout) (file : List ℕ) (p : Progress) (spaces : List Extent) → HasTaken l FirstMisfit file p → p.misfits.items ≡ []
    → spaces ≡ by_position p.spaces.items → HasNoMisfit l file × (spaces ≡ used_spaces l file)
unfolding misfits used_spaces
none_told l file p spaces t n e =
    let all = none_left l FirstMisfit file p t (λ r. r.1 n) in (
      ap (misfits_after (header_space l.groups ∷ [])) all ∙ sym t.misfits ∙ n,
      e ∙ ap by_position (t.kept ∙ ap (kept_after (header_space l.groups ∷ [])) (sym all)),
    )

pub answered : {Z : Type 0} (l : Layout) (file : List ℕ) (p : Progress) (r : Result (Vec Extent Z) ScanFault) → HasTaken l FirstMisfit file p → Answers p r → IsSurvey l file r
answered l file p (Ok spaces) t h = none_told l file p spaces.items t h.0 h.1
answered l file p (Err (fault.Misfit m)) t h = first_told l file p m t h
answered l file p (Err fault.ReadFault) t h = absurd h
answered l file p (Err fault.Memory) t h = absurd h

pub answered_spaces : {Z : Type 0} (groups n : ℕ) (p : Progress) (r : Result (Vec Extent Z) ScanFault) → IsUnderWay n p → IsHeaded groups p.spaces.items → Answers p r
    → IfOk r (λ (spaces : Vec Extent Z). AreSpaces groups n spaces.items)
answered_spaces groups n p (Ok spaces) u e h = are_spaces groups n p e.rest spaces.items u e.headed h.1
answered_spaces groups n p (Err found) u e h = tt

-- it left the counts of what it read
pub answered_counts : {Z : Type 0} (p : Progress) (r : Result (Vec Extent Z) ScanFault) (old new : Faults) → Answers p r → new ≡ old → CountsScan r old new
answered_counts p (Ok spaces) old new h e = e
answered_counts p (Err (fault.Misfit m)) old new h e = e
answered_counts p (Err fault.ReadFault) old new h e = absurd h
answered_counts p (Err fault.Memory) old new h e = absurd h
