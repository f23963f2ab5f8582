-- What adding a space leaves of kept ones.
use Rattle.std.proofs.Common.{◌≡◌, ℕ, ◌+◌, ◌<◌, ◌≤◌, nat_le, true, List, [], ◌∷◌, ◌++◌, Option, Some, None, refl, sym, ◌∙◌, ap, subst, arith, inl, inr, append_assoc}
use Rattle.std.specs.List.{AllByRecursion}
use Rattle.std.specs.List.Sorted.{IsPermutation}
use Rattle.std.specs.Map.{values_of}
use Rattle.std.specs.Ordering.{nat_cmp, match_ordering}
use Rattle.std.specs.BTreeMap.{insert_entry}
use Rattle.std.proofs.lemmas.Bool.{le-leb, lt-leb, cond-true, cond-false, cases_lt}
use Rattle.std.proofs.lemmas.List.Sorted.{IsPermutation-refl, IsPermutation-sym, IsPermutation-trans, IsPermutation-append_right, IsPermutation-middle, IsPermutation-to_front}
use Rattle.cckd_base.specs.declared.space.Extent.{Extent}
use Rattle.cckd_base.specs.Survey.{share_a_byte, lower, met, placed_among, by_position}
use Rattle.cckd_tables.specs.Kept.{ShareNone, HaveBytes, stand_apart, end_of, AreKeyed, KeepsOrder}
use Rattle.cckd_tables.proofs.MeetLemmas.{met_append, met_cons, met_by_position, none_before, share_not, apart_more}
use Rattle.cckd_tables.proofs.OrderLemmas.{stand_parts, all_between, placed_moves, covers_moved, apart_moved, stand_is_order, position_stands, same_order, apart_in_order}
use Rattle.cckd_tables.proofs.RunLemmas.{all_append, all_front, all_back, stand_push, end_push, ends_within, compared_less, compared_greater}

-- a space between two rows of others
pushed_moves : (run vs : List Extent) (e : Extent) → IsPermutation ((run ++ e ∷ []) ++ vs) ((run ++ vs) ++ e ∷ [])
pushed_moves run vs e =
    subst (λ (zs : List Extent). IsPermutation zs ((run ++ vs) ++ e ∷ [])) (sym (append_assoc run (e ∷ []) vs))
    (IsPermutation-trans (run ++ e ∷ vs) (e ∷ (run ++ vs)) ((run ++ vs) ++ e ∷ [])
    (IsPermutation-middle run e vs)
    (IsPermutation-sym ((run ++ vs) ++ e ∷ []) (e ∷ (run ++ vs)) (IsPermutation-to_front (run ++ vs) e)))

-- what adding a space behind all others leaves
pub push_keeps : (run : List Extent) (late : List (ℕ × Extent)) (e : Extent) → KeepsOrder run late → 1 ≤ e.size → end_of 0 run ≤ e.pos
    → met (by_position (run ++ values_of late)) e ≡ None → KeepsOrder (run ++ e ∷ []) late
push_keeps run late e k s l u =
    let vs = values_of late in
    let moved : IsPermutation ((run ++ e ∷ []) ++ vs) ((run ++ vs) ++ e ∷ []) = pushed_moves run vs e in
    let none : met (run ++ vs) e ≡ None = sym (met_by_position (run ++ vs) e) ∙ u in
    record {
      bytes = all_append (λ (x : Extent). 1 ≤ x.size) (run ++ e ∷ []) vs
          (all_append (λ (x : Extent). 1 ≤ x.size) run (e ∷ []) (all_front (λ (x : Extent). 1 ≤ x.size) run vs k.bytes) (s, tt))
          (all_back (λ (x : Extent). 1 ≤ x.size) run vs k.bytes);
      apart = apart_moved ((run ++ e ∷ []) ++ vs) ((run ++ vs) ++ e ∷ []) moved (apart_more (run ++ vs) e k.apart none);
      run_ordered = stand_push 0 run e k.run_ordered l;
      late_ordered = k.late_ordered;
      keyed = k.keyed;
      before = all_between (λ (x : Extent). x.pos + x.size ≤ end_of 0 run) (λ (x : Extent). x.pos + x.size ≤ end_of 0 (run ++ e ∷ []))
          (λ x b. let n = end_push 0 run e in omega arith) vs k.before;
    }

pub push_places : (run : List Extent) (late : List (ℕ × Extent)) (e : Extent) → KeepsOrder (run ++ e ∷ []) late
    → by_position ((run ++ e ∷ []) ++ values_of late) ≡ placed_among e (by_position (run ++ values_of late))
push_places run late e k =
    sym (same_order ((run ++ e ∷ []) ++ values_of late) (e ∷ (run ++ values_of late)) k.bytes k.apart
    (subst (λ (zs : List Extent). IsPermutation zs (e ∷ (run ++ values_of late))) (sym (append_assoc run (e ∷ []) (values_of late)))
    (IsPermutation-middle run e (values_of late))))

-- a key that no entry has goes to the place of its position
apart_keys : (es : List (ℕ × Extent)) (e : Extent) → AreKeyed es → HaveBytes (values_of es) → 1 ≤ e.size → met (values_of es) e ≡ None
    → AllByRecursion (λ (p : ℕ × Extent). e.pos ≡ p.0 → ⊥) es
apart_keys [] e k b s u = tt
apart_keys (x ∷ es) e k b s u =
    let parts = met_cons x.1 (values_of es) e u in
    let same = k.0 in
    let bytes = b.0 in
    (λ h. share_not x.1 e parts.0 (omega arith) (omega arith), apart_keys es e k.1 b.1 s parts.1)

inserted_places : (es : List (ℕ × Extent)) (e : Extent) → AreKeyed es → AllByRecursion (λ (p : ℕ × Extent). e.pos ≡ p.0 → ⊥) es
    → (values_of (insert_entry nat_cmp es e.pos e) ≡ placed_among e (values_of es)) × AreKeyed (insert_entry nat_cmp es e.pos e)
inserted_places [] e k a = (refl, (refl, tt))
inserted_places (x ∷ es) e k a =
    let same = k.0 in
    let rest = inserted_places es e k.1 a.1 in
    let goal = λ (es' : List (ℕ × Extent)). (values_of es' ≡ placed_among e (values_of (x ∷ es))) × AreKeyed es' in
    elim (cases_lt e.pos x.0) [
      | inl low ↦ subst goal (sym (ap (λ o. match_ordering o ((e.pos, e) ∷ x ∷ es) ((x.0, e) ∷ es) (x ∷ insert_entry nat_cmp es e.pos e)) (compared_less e.pos x.0 low)))
          (sym (cond-true (nat_le e.pos x.1.pos) (e ∷ x.1 ∷ values_of es) (x.1 ∷ placed_among e (values_of es)) (le-leb e.pos x.1.pos (omega arith))), (refl, k))
      | inr high ↦ let strictly = above x.0 e.pos high a.0 in
          subst goal (sym (ap (λ o. match_ordering o ((e.pos, e) ∷ x ∷ es) ((x.0, e) ∷ es) (x ∷ insert_entry nat_cmp es e.pos e)) (compared_greater e.pos x.0 strictly))) (
            ap (λ (ys : List Extent). x.1 ∷ ys) rest.0
                ∙ sym (cond-false (nat_le e.pos x.1.pos) (e ∷ x.1 ∷ values_of es) (x.1 ∷ placed_among e (values_of es)) (lt-leb e.pos x.1.pos (omega arith))),
            (k.0, rest.1),
          )
    ]
  where
    above : (a b : ℕ) → a ≤ b → (b ≡ a → ⊥) → a < b
    above a b l n = omega arith

-- what adding a space before the end of the run leaves
end_behind : (at : ℕ) (x : Extent) (xs : List Extent) (e : Extent) → met (x ∷ xs) e ≡ None → stand_apart at (x ∷ xs) ≡ true → e.pos < end_of at (x ∷ xs)
    → e.pos + e.size ≤ end_of at (x ∷ xs)
end_behind at x [] e u h l =
    let parts = met_cons x [] e u in
    elim (cases_lt x.pos (e.pos + e.size)) [
      | inl under ↦ absurd (share_not x e parts.0 under l)
      | inr past ↦ omega arith
    ]
end_behind at x (y ∷ ys) e u h l = end_behind (x.pos + x.size) y ys e (met_cons x (y ∷ ys) e u).1 (stand_parts at x (y ∷ ys) h).1 l

run_end_behind : (run : List Extent) (e : Extent) → met run e ≡ None → stand_apart 0 run ≡ true → e.pos < end_of 0 run → e.pos + e.size ≤ end_of 0 run
run_end_behind [] e u h l = absurd (omega arith)
run_end_behind (x ∷ xs) e u h l = end_behind 0 x xs e u h l

unmet_parts : (xs ys : List Extent) (e : Extent) → met (xs ++ ys) e ≡ None → (met xs e ≡ None) × (met ys e ≡ None)
unmet_parts [] ys e u = (refl, u)
unmet_parts (x ∷ xs) ys e u =
    let parts = met_cons x (xs ++ ys) e u in
    let rest = unmet_parts xs ys e parts.1 in
    (ap (λ (m : Option Extent). lower m (met xs e)) (cond-false (share_a_byte x e) (Some x) None parts.0) ∙ rest.0, rest.1)

-- all of a late space's place, by what was met
pub record Placed (run : List Extent) (late new : List (ℕ × Extent)) (e : Extent) : Type 0 where
  pub values : values_of new ≡ placed_among e (values_of late)
  pub keyed : AreKeyed new

pub placed_late : (run : List Extent) (late : List (ℕ × Extent)) (e : Extent) → KeepsOrder run late → 1 ≤ e.size
    → met (by_position (run ++ values_of late)) e ≡ None → Placed run late (insert_entry nat_cmp late e.pos e) e
placed_late run late e k s u =
    let vs = values_of late in
    let none = (unmet_parts run vs e (sym (met_by_position (run ++ vs) e) ∙ u)).1 in
    let p = inserted_places late e k.keyed (apart_keys late e k.keyed (all_back (λ (x : Extent). 1 ≤ x.size) run vs k.bytes) s none) in
    record { values = p.0; keyed = p.1 }

late_moves : (run vs : List Extent) (e : Extent) → IsPermutation (e ∷ (run ++ vs)) (run ++ placed_among e vs)
late_moves run vs e =
    IsPermutation-trans (e ∷ (run ++ vs)) (run ++ e ∷ vs) (run ++ placed_among e vs)
    (IsPermutation-sym (run ++ e ∷ vs) (e ∷ (run ++ vs)) (IsPermutation-middle run e vs))
    (IsPermutation-append_right run (e ∷ vs) (placed_among e vs) (placed_moves e vs))

front_apart : (e : Extent) (xs : List Extent) → ShareNone xs → met xs e ≡ None → ShareNone (e ∷ xs)
front_apart e xs a u =
    apart_moved (e ∷ xs) (xs ++ e ∷ []) (IsPermutation-sym (xs ++ e ∷ []) (e ∷ xs) (IsPermutation-to_front xs e)) (apart_more xs e a u)

module _ (run : List Extent) (late new : List (ℕ × Extent)) (e : Extent) (k : KeepsOrder run late) (s : 1 ≤ e.size)
    (u : met (by_position (run ++ values_of late)) e ≡ None) (p : Placed run late new e) where
  met_none : met (run ++ values_of late) e ≡ None
  met_none = sym (met_by_position (run ++ values_of late) e) ∙ u

  bytes : HaveBytes (e ∷ (run ++ values_of late))
  bytes = (s, k.bytes)

  apart : ShareNone (e ∷ (run ++ values_of late))
  apart = front_apart e (run ++ values_of late) k.apart met_none

  moved : IsPermutation (e ∷ (run ++ values_of late)) (run ++ values_of new)
  moved = subst (λ (vs : List Extent). IsPermutation (e ∷ (run ++ values_of late)) (run ++ vs)) (sym p.values) (late_moves run (values_of late) e)

  old_late_bytes : HaveBytes (values_of late)
  old_late_bytes = all_back (λ (x : Extent). 1 ≤ x.size) run (values_of late) k.bytes

  pub late_keeps : e.pos < end_of 0 run → KeepsOrder run new
  late_keeps l =
      let vs = values_of late in
      let none = unmet_parts run vs e met_none in
      let late_apart : ShareNone vs = record { each = apart_in_order 0 vs k.late_ordered } in
      record {
        bytes = covers_moved (e ∷ (run ++ vs)) (run ++ values_of new) moved (λ (x : Extent). 1 ≤ x.size) bytes;
        apart = apart_moved (run ++ values_of new) (e ∷ (run ++ vs)) (IsPermutation-sym (e ∷ (run ++ vs)) (run ++ values_of new) moved) apart;
        run_ordered = k.run_ordered;
        late_ordered = ap (stand_apart 0) (p.values ∙ ap (placed_among e) (stand_is_order vs vs old_late_bytes (IsPermutation-refl vs) k.late_ordered))
            ∙ position_stands (e ∷ vs) (s, old_late_bytes) (front_apart e vs late_apart none.1);
        keyed = p.keyed;
        before = subst (AllByRecursion (λ (x : Extent). x.pos + x.size ≤ end_of 0 run)) (sym p.values)
            (covers_moved (e ∷ vs) (placed_among e vs) (placed_moves e vs) (λ (x : Extent). x.pos + x.size ≤ end_of 0 run)
            (run_end_behind run e none.0 k.run_ordered l, k.before));
      }

  pub late_places : by_position (run ++ values_of new) ≡ placed_among e (by_position (run ++ values_of late))
  late_places = same_order (e ∷ (run ++ values_of late)) (run ++ values_of new) bytes apart moved

-- a space behind all others meets none
pub behind_all : (run : List Extent) (late : List (ℕ × Extent)) (e : Extent) → KeepsOrder run late → end_of 0 run ≤ e.pos
    → met (by_position (run ++ values_of late)) e ≡ None
behind_all run late e k l =
    met_by_position (run ++ values_of late) e
    ∙ none_before (run ++ values_of late) e
    (all_between (λ (x : Extent). x.pos + x.size ≤ end_of 0 run) (λ (x : Extent). x.pos + x.size ≤ e.pos) (λ x b. omega arith) (run ++ values_of late)
    (all_append (λ (x : Extent). x.pos + x.size ≤ end_of 0 run) run (values_of late) (ends_within 0 run k.run_ordered) k.before))

pub both_met : (run : List Extent) (late : List (ℕ × Extent)) (e : Extent)
    → lower (met run e) (met (values_of late) e) ≡ met (by_position (run ++ values_of late)) e
both_met run late e = sym (met_by_position (run ++ values_of late) e ∙ met_append run (values_of late) e)

pub run_bytes : (run : List Extent) (late : List (ℕ × Extent)) → KeepsOrder run late → HaveBytes run
run_bytes run late k = all_front (λ (x : Extent). 1 ≤ x.size) run (values_of late) k.bytes

pub late_bytes : (run : List Extent) (late : List (ℕ × Extent)) → KeepsOrder run late → HaveBytes (values_of late)
late_bytes run late k = all_back (λ (x : Extent). 1 ≤ x.size) run (values_of late) k.bytes
