-- How many calls a commit makes.
use Rattle.std.proofs.Common.{◌≡◌, ◌≢◌, ◌⊎◌, ℕ, zero, suc, ◌+◌, ◌-◌, ◌*◌, ◌/◌, ◌%◌, ◌<◌, ◌≤◌, ◌==◌, ◌&&◌, true, false, List, [], ◌∷◌, length, drop, get_or, sym, ◌∙◌, ap, subst, inl, inr, arith}
use Rattle.std.specs.Prelude.{is_some, slice_index}
use Rattle.std.proofs.lemmas.Bool.{and_parts, cond-true, cond-false, eqb-true, cases_Bool, false_from_ne_true}
use Rattle.std.proofs.lemmas.List.{drop_more, drop-drop, get_or-drop, length-drop}
use Rattle.cckd_tables.specs.declared.staged.StagedWord.{StagedWord}
use Rattle.cckd_tables.specs.Staging.{place_for}
use Rattle.cckd_tables.specs.Cells.{cell, IsRun}
use Rattle.cckd_tables.specs.Calls.{stands_behind, own_write, write_behind, writes_behind, entry_writes, IsWhole}

-- entries that come later take no more writes
behind_later : (words : List ℕ) (moved : List StagedWord) (k t : ℕ) (us : List ℕ) → k ≤ length us
    → writes_behind words moved (get_or (t ∷ us) k 0) (drop k us) ≤ writes_behind words moved t us
behind_later words moved zero t us low = omega arith
behind_later words moved (suc k) t [] low = absurd (omega arith)
behind_later words moved (suc k) t (u ∷ us) low = let rest = behind_later words moved k u us (omega (arith, low)) in omega arith

-- an entry that doesn't go with the one before it begins a write
begins : (words : List ℕ) (moved : List StagedWord) (t : ℕ) (us : List ℕ) → (0 < length us → own_write moved (get_or us 0 0) ≤ write_behind words moved t (get_or us 0 0))
    → entry_writes words moved us ≤ writes_behind words moved t us
begins words moved t [] more = omega arith
begins words moved t (u ∷ us) more = let first = more (omega arith) in omega arith

plain_write : (words : List ℕ) (moved : List StagedWord) (t u : ℕ) → stands_behind words t u ≡ false → own_write moved u ≤ write_behind words moved t u
plain_write words moved t u not = let e : write_behind words moved t u ≡ own_write moved u = cond-false (stands_behind words t u) 0 (own_write moved u) not in omega arith

-- the entry behind a whole run doesn't stand behind it
apart : (words : List ℕ) (first n at a t u : ℕ) → 0 < n → at ≡ cell words a → t + 1 ≡ a + n → t / 256 ≡ a / 256 → at % 512 + 8 * n < 520
    → ((u ≢ a + n) ⊎ (((a + n) % 256 ≡ 0) ⊎ (505 ≤ at % 512 + 8 * n))) → stands_behind words t u ≡ false
apart words first n at a t u some place last group begin end = false_from_ne_true (stands_behind words t u) (λ both.
    let p = and_parts ((u == t + 1) && (u / 256 == t / 256)) ((cell words u + 7) / 512 == cell words t / 512) both in
    let q = and_parts (u == t + 1) (u / 256 == t / 256) p.0 in
    let next : u ≡ t + 1 = eqb-true u (t + 1) q.0 in
    let one : u / 256 ≡ t / 256 = eqb-true (u / 256) (t / 256) q.1 in
    let sector : (cell words u + 7) / 512 ≡ cell words t / 512 = eqb-true ((cell words u + 7) / 512) (cell words t / 512) p.1 in
    let here : cell words u ≡ slice_index words (a / 256) + 8 * (u % 256) = ap (λ (g : ℕ). slice_index words g + 8 * (u % 256)) (one ∙ group) in
    let there : cell words t ≡ slice_index words (a / 256) + 8 * (t % 256) = ap (λ (g : ℕ). slice_index words g + 8 * (t % 256)) group in
    elim end [
      | inl other ↦ other (omega (arith, next, last))
      | inr rest ↦ elim rest [
        | inl over ↦ absurd (omega (arith, over, next, last, one))
        | inr full ↦ absurd (omega (arith, full, begin, next, last, one, group, sector, here, there, place, some))
      ]
    ])

-- a whole run takes one write
pub run_taken_off : (words : List ℕ) (moved : List StagedWord) (tracks : List ℕ) (first n at : ℕ) → IsRun tracks first n at → IsWhole tracks first n at
    → at ≡ cell words (slice_index tracks first) → is_some (place_for (slice_index tracks first / 256) moved) ≡ false
    → 1 + entry_writes words moved (drop (first + n) tracks) ≤ entry_writes words moved (drop first tracks)
run_taken_off words moved tracks first n at run whole place not =
    let a = slice_index tracks first in
    let k = n - 1 in
    let us = drop (first + 1) tracks in
    let some : n ≡ k + 1 = omega (arith, run.some) in
    let last : get_or (drop first tracks) k 0 ≡ a + k = get_or-drop first tracks k 0 ∙ run.neighbours k (omega (arith, run.some)) in
    let split : drop first tracks ≡ a ∷ us = drop_more tracks first 0 (omega (arith, run.some, run.within)) in
    let t : get_or (a ∷ us) k 0 ≡ a + k = sym (ap (λ (xs : List ℕ). get_or xs k 0) split) ∙ last in
    let later = behind_later words moved k a us (omega (arith, run.some, run.within, length-drop (first + 1) tracks)) in
    let rest : drop k us ≡ drop (first + n) tracks = drop-drop k (first + 1) tracks ∙ (let e : first + 1 + k ≡ first + n = omega (arith, some) in ap (λ (m : ℕ). drop m tracks) e) in
    let head : get_or (drop (first + n) tracks) 0 0 ≡ slice_index tracks (first + n) = get_or-drop (first + n) tracks 0 0 ∙ (let e : first + n + 0 ≡ first + n = omega arith in ap (λ (m : ℕ). get_or tracks m 0) e) in
    let fresh = begins words moved (a + k) (drop (first + n) tracks) (λ more.
    subst (λ (u : ℕ). own_write moved u ≤ write_behind words moved (a + k) u) (sym head)
    (plain_write words moved (a + k) (slice_index tracks (first + n)) (apart words first n at a (a + k) (slice_index tracks (first + n)) run.some place (omega (arith, some)) (omega (arith, some, run.group)) whole.begin
    (whole.end (omega (arith, more, length-drop (first + n) tracks)))))) in
    let joined : writes_behind words moved (a + k) (drop (first + n) tracks) ≤ writes_behind words moved a us =
    subst (λ (m : ℕ). writes_behind words moved m (drop (first + n) tracks) ≤ writes_behind words moved a us) t
    (subst (λ (xs : List ℕ). writes_behind words moved (get_or (a ∷ us) k 0) xs ≤ writes_behind words moved a us) rest later) in
    let own : own_write moved a ≡ 1 = cond-false (is_some (place_for (a / 256) moved)) 0 1 not in
    let all : entry_writes words moved (drop first tracks) ≡ entry_writes words moved (a ∷ us) = ap (entry_writes words moved) split in
    omega (arith, fresh, joined, own, all)

-- an entry of a group with a new table takes none
pub moved_taken_off : (words : List ℕ) (moved : List StagedWord) (tracks : List ℕ) (first : ℕ) → first < length tracks → is_some (place_for (slice_index tracks first / 256) moved) ≡ true
    → entry_writes words moved (drop (first + 1) tracks) ≤ entry_writes words moved (drop first tracks)
moved_taken_off words moved tracks first low is =
    let a = slice_index tracks first in
    let us = drop (first + 1) tracks in
    let all : entry_writes words moved (drop first tracks) ≡ entry_writes words moved (a ∷ us) = ap (entry_writes words moved) (drop_more tracks first 0 low) in
    let u = get_or us 0 0 in
    let fresh = begins words moved a us (λ more. elim (cases_Bool (stands_behind words a u)) [
      | inl both ↦
          let p = and_parts ((u == a + 1) && (u / 256 == a / 256)) ((cell words u + 7) / 512 == cell words a / 512) both in
          let q = and_parts (u == a + 1) (u / 256 == a / 256) p.0 in
          let none : own_write moved u ≡ 0 = cond-true (is_some (place_for (u / 256) moved)) 0 1 (ap (λ (g : ℕ). is_some (place_for g moved)) (eqb-true (u / 256) (a / 256) q.1) ∙ is) in
          omega arith
      | inr none ↦ plain_write words moved a u none
    ]) in
    omega (arith, fresh, all)
