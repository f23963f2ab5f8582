-- Pieces that cover a file, and what keeps them so.
use Rattle.std.proofs.Common.{◌≡◌, ℕ, zero, suc, ◌+◌, ◌-◌, ◌<◌, ◌≤◌, min, max, nat_lt, nat_le, Bool, true, false, ◌&&◌, List, [], ◌∷◌, ◌++◌, length, get_or, map, Option, Some, None, refl, sym, ◌∙◌, ap, subst, arith, IfSome, add_assoc, append_assoc, inl, inr}
use Rattle.std.proofs.lemmas.Bool.{cond_both, cases_lt, and_parts, ltb-true, ltb-false, leb-true}
use Rattle.std.proofs.lemmas.List.{append-nil}
use Rattle.cckd_base.specs.declared.space.Owner.{Owner}
use Rattle.cckd_base.specs.declared.space.Extent.{Extent}
use Rattle.cckd_base.specs.Survey.{StandApart}
use Rattle.cckd_space.specs.declared.piece.Kind.{Kind}
use Rattle.cckd_space.specs.declared.piece.Kind.TheVariants.{Used, Free, Reserved, Leaving, Pending}
use Rattle.cckd_space.specs.declared.piece.Piece.{Piece}
use Rattle.cckd_space.specs.Pieces.{is_free, free_kind, first, replaced, free_piece, joined, merged, IsPieceAt, NotBothFree, IsLaid, IsFormedAs, piece_end, free_run, reserved_piece, reserved_in, aligned_up, has_room, has_room_below, settled, left, freed, retired, retired_as, released, released_as, trimmed, used_end, end_place, appended, cut, pieces_of, used_piece}
use Rattle.cckd_space.specs.Inside.{size_of, EndsAt, EndsBelow}
use Rattle.cckd_space.proofs.EndLemmas.{free_run_none}

pub taken_behind : (q p : Piece) (ps : List Piece) → is_free p ≡ false → NotBothFree q (p ∷ ps)
taken_behind q p ps e = elim (free_kind q.kind) as (λ b. (b && free_kind p.kind) ≡ false) [ true ↦ e | false ↦ refl ]

pub taken_before : (p : Piece) (ps : List Piece) → is_free p ≡ false → NotBothFree p ps
taken_before p [] e = tt
taken_before p (q ∷ qs) e = rw e refl

-- behind a Free piece stands none
free_before : (p r : Piece) (ps : List Piece) → is_free p ≡ true → NotBothFree p ps → is_free r ≡ true → NotBothFree r ps
free_before p r [] e h f = tt
free_before p r (q ∷ qs) e h f = rw f (rw e at h)

module _ (test : Piece → Bool) (news : Piece → List Piece) (Q : Piece → Type 0) (end : ℕ)
    (outer : (q p : Piece) (ps : List Piece) → test p ≡ true → Q p → NotBothFree q (p ∷ ps) → NotBothFree q (news p ++ ps))
    (inner : (at : ℕ) (p : Piece) (ps : List Piece) → test p ≡ true → Q p → IsLaid at (p ∷ ps) end → IsLaid at (news p ++ ps) end) where
  apart-replaced : (q : Piece) (ps : List Piece) → IfSome (first test ps) Q → NotBothFree q ps → NotBothFree q (replaced test news ps)
  apart-replaced q [] s h = h
  apart-replaced q (p ∷ ps) s h =
      cond_both (test p) (news p ++ ps) (p ∷ replaced test news ps) (λ (l : List Piece). NotBothFree q l)
      (λ e. outer q p ps e (rw e at s) h)
      (λ e. h)

  pub laid-replaced : (at : ℕ) (ps : List Piece) → IfSome (first test ps) Q → IsLaid at ps end → IsLaid at (replaced test news ps) end
  laid-replaced at [] s h = h
  laid-replaced at (p ∷ ps) s h =
      cond_both (test p) (news p ++ ps) (p ∷ replaced test news ps) (λ (l : List Piece). IsLaid at l end)
      (λ e. inner at p ps e (rw e at s) h)
      (λ e. let r : IfSome (first test ps) Q = rw e at s in
      (h.0, apart-replaced p ps r h.1, laid-replaced (at + p.size) ps r h.2))

-- the pieces cover the bytes, and Free ones may be neighbours
abbrev pub IsRow : ℕ → List Piece → ℕ → Type 0
IsRow at [] end = at ≡ end
IsRow at (p ∷ ps) end = IsPieceAt at p × IsRow (at + p.size) ps end

pub laid_row : (at : ℕ) (ps : List Piece) (end : ℕ) → IsLaid at ps end → IsRow at ps end
laid_row at [] end h = h
laid_row at (p ∷ ps) end h = (h.0, laid_row (at + p.size) ps end h.2)

laid-joined : (at : ℕ) (p : Piece) (qs : List Piece) (end : ℕ) → IsPieceAt at p → IsLaid (at + p.size) qs end → IsLaid at (joined p qs) end
laid-joined at p [] end h l = (h, tt, l)
laid-joined at p (q ∷ qs) end h l =
    cond_both (is_free p && is_free q) (free_piece p.pos (p.size + q.size) ∷ qs) (p ∷ q ∷ qs) (λ (m : List Piece). IsLaid at m end)
    (λ e. (
      record { place = h.place; some = omega (arith, h.some); formed = (refl, refl) },
      free_before q (free_piece p.pos (p.size + q.size)) qs (both (is_free p) (is_free q) e) l.1 refl,
      subst (λ (n : ℕ). IsLaid n qs end) (add_assoc at p.size q.size) l.2,
    ))
    (λ e. (h, e, l))
  where
    both : (a b : Bool) → (a && b) ≡ true → b ≡ true
    both true b e = e
    both false b e = absurd cc

pub laid-merged : (at : ℕ) (ps : List Piece) (end : ℕ) → IsRow at ps end → IsLaid at (merged ps) end
laid-merged at [] end h = h
laid-merged at (p ∷ ps) end h = laid-joined at p (merged ps) end h.0 (laid-merged (at + p.size) ps end h.1)

-- a change of each piece that keeps its place and size
pub record KeepsPlaces (f : Piece → Piece) : Type 0 where
  pub place : (p : Piece) → (f p).pos ≡ p.pos
  pub size : (p : Piece) → (f p).size ≡ p.size
  pub formed : (p : Piece) → IsFormedAs p.kind p → IsFormedAs (f p).kind (f p)

kept_piece : (f : Piece → Piece) → KeepsPlaces f → (at : ℕ) (p : Piece) → IsPieceAt at p → IsPieceAt at (f p)
kept_piece f k at p h = record { place = k.place p ∙ h.place; some = omega (arith, k.size p, h.some); formed = k.formed p h.formed }

pub row-map : (f : Piece → Piece) → KeepsPlaces f → (at : ℕ) (ps : List Piece) (end : ℕ) → IsRow at ps end → IsRow at (map f ps) end
row-map f k at [] end h = h
row-map f k at (p ∷ ps) end h =
    (kept_piece f k at p h.0, subst (λ (n : ℕ). IsRow n (map f ps) end) (ap (λ (n : ℕ). at + n) (sym (k.size p))) (row-map f k (at + p.size) ps end h.1))

apart-map : (f : Piece → Piece) → ((p : Piece) → is_free (f p) ≡ is_free p) → (p : Piece) (ps : List Piece) → NotBothFree p ps → NotBothFree (f p) (map f ps)
apart-map f e p [] h = tt
apart-map f e p (q ∷ qs) h = rw (e p, e q) h

pub laid-map : (f : Piece → Piece) → KeepsPlaces f → ((p : Piece) → is_free (f p) ≡ is_free p) → (at : ℕ) (ps : List Piece) (end : ℕ) → IsLaid at ps end → IsLaid at (map f ps) end
laid-map f k e at [] end h = h
laid-map f k e at (p ∷ ps) end h =
    (kept_piece f k at p h.0, apart-map f e p ps h.1, subst (λ (n : ℕ). IsLaid n (map f ps) end) (ap (λ (n : ℕ). at + n) (sym (k.size p))) (laid-map f k e (at + p.size) ps end h.2))

pub row-replaced : (test : Piece → Bool) (f : Piece → Piece) → KeepsPlaces f → (at : ℕ) (ps : List Piece) (end : ℕ) → IsRow at ps end → IsRow at (replaced test (λ p. f p ∷ []) ps) end
row-replaced test f k at [] end h = h
row-replaced test f k at (p ∷ ps) end h =
    cond_both (test p) (f p ∷ ps) (p ∷ replaced test (λ p. f p ∷ []) ps) (λ (l : List Piece). IsRow at l end)
    (λ e. (kept_piece f k at p h.0, subst (λ (n : ℕ). IsRow n ps end) (ap (λ (n : ℕ). at + n) (sym (k.size p))) h.1))
    (λ e. (h.0, row-replaced test f k (at + p.size) ps end h.1))

pub row_size : (at : ℕ) (ps : List Piece) (end : ℕ) → IsRow at ps end → at + size_of ps ≡ end
row_size at [] end h = omega (arith, h)
row_size at (p ∷ ps) end h = let r = row_size (at + p.size) ps end h.1 in omega (arith, r)

pub laid_le : (at : ℕ) (ps : List Piece) (end : ℕ) → IsLaid at ps end → at ≤ end
laid_le at ps end h = let r = row_size at ps end (laid_row at ps end h) in omega (arith, r)

pub laid_within : (at : ℕ) (ps : List Piece) (end : ℕ) (i : ℕ) (d : Piece) → IsLaid at ps end → i < length ps → piece_end (get_or ps i d) ≤ end
laid_within at [] end i d h l = absurd (omega arith)
laid_within at (p ∷ ps) end zero d h l = let r = laid_le (at + p.size) ps end h.2 in omega (arith, r, h.0.place)
laid_within at (p ∷ ps) end (suc i) d h l = laid_within (at + p.size) ps end i d h.2 (omega arith)

laid_last : (at : ℕ) (front : List Piece) (p : Piece) (end : ℕ) → IsLaid at (front ++ p ∷ []) end → piece_end p ≡ end
laid_last at [] p end h = omega (arith, h.0.place, h.2)
laid_last at (q ∷ qs) p end h = laid_last (at + q.size) qs p end h.2

pub laid_ends : (ps : List Piece) (end : ℕ) → IsLaid 0 ps end → EndsAt ps end
laid_ends ps end h = record {
  none = λ e. let l : 0 ≡ end = subst (λ (l : List Piece). IsLaid 0 l end) e h in sym l;
  last = λ front p e. laid_last 0 front p end (subst (λ (l : List Piece). IsLaid 0 l end) e h);
}

-- no piece before the list has a Free neighbour in it
pub record NeverBothFree (ps : List Piece) : Type 0 where
  pub apart : (p : Piece) → NotBothFree p ps

pub behind_not_free : (p : Piece) (ps : List Piece) → is_free p ≡ false → NeverBothFree (p ∷ ps)
behind_not_free p ps e = record { apart = λ q. taken_behind q p ps e }

pub behind_free : (p : Piece) (ps : List Piece) → is_free p ≡ true → NotBothFree p ps → NeverBothFree ps
behind_free p [] e h = record { apart = λ q. tt }
behind_free p (q ∷ qs) e h = behind_not_free q qs (rw e at h)

pub nothing_behind : NeverBothFree []
nothing_behind = record { apart = λ q. tt }

pub laid_run : (from to : ℕ) (ps : List Piece) (end : ℕ) → from ≤ to → NeverBothFree ps → IsLaid to ps end → IsLaid from (free_run from to ++ ps) end
laid_run from to ps end h a l =
    cond_both (nat_lt from to) (free_piece from (to - from) ∷ []) [] (λ (run : List Piece). IsLaid from (run ++ ps) end)
    (λ e. let lt = ltb-true from to e in (
      record { place = refl; some = omega arith; formed = (refl, refl) },
      a.apart (free_piece from (to - from)),
      subst (λ (n : ℕ). IsLaid n ps end) (let s : to ≡ from + (to - from) = omega arith in s) l,
    ))
    (λ e. let le = ltb-false from to e in subst (λ (n : ℕ). IsLaid n ps end) (let s : to ≡ from = omega arith in s) l)

pub laid_reserved : (at need : ℕ) (ps : List Piece) (end : ℕ) → 0 < need → IsLaid (at + need) ps end → IsLaid at (reserved_piece at need ∷ ps) end
laid_reserved at need ps end h l = (record { place = refl; some = h; formed = (refl, refl) }, taken_before (reserved_piece at need) ps refl, l)

pub up : (at : ℕ) → at ≤ aligned_up at
up at = omega arith

pub record HasRoom (need : ℕ) (p : Piece) : Type 0 where
  pub free : is_free p ≡ true
  pub fits : aligned_up p.pos + need ≤ piece_end p

pub room_facts : (need : ℕ) (p : Piece) → has_room need p ≡ true → HasRoom need p
room_facts need p e =
    let parts = and_parts (is_free p) (nat_le (aligned_up p.pos + need) (piece_end p)) e in
    record { free = parts.0; fits = leb-true (aligned_up p.pos + need) (piece_end p) parts.1 }

reserved_inner : (need : ℕ) → 0 < need → (at : ℕ) (p : Piece) (ps : List Piece) (end : ℕ) → HasRoom need p → IsLaid at (p ∷ ps) end → IsLaid at (reserved_in need p ++ ps) end
reserved_inner need some at p ps end r h =
    let place = aligned_up p.pos in
    let rest : IsLaid (place + need) (free_run (place + need) (piece_end p) ++ ps) end =
    laid_run (place + need) (piece_end p) ps end r.fits (behind_free p ps r.free h.1) (subst (λ (n : ℕ). IsLaid (n + p.size) ps end) (sym h.0.place) h.2) in
    let all : IsLaid p.pos (free_run p.pos place ++ (reserved_piece place need ∷ (free_run (place + need) (piece_end p) ++ ps))) end =
    laid_run p.pos place (reserved_piece place need ∷ (free_run (place + need) (piece_end p) ++ ps)) end (up p.pos)
    (behind_not_free (reserved_piece place need) (free_run (place + need) (piece_end p) ++ ps) refl)
    (laid_reserved place need (free_run (place + need) (piece_end p) ++ ps) end some rest) in
    subst (λ (l : List Piece). IsLaid at l end)
    (sym (append_assoc (free_run p.pos place) (reserved_piece place need ∷ free_run (place + need) (piece_end p)) ps))
    (subst (λ (n : ℕ). IsLaid n (free_run p.pos place ++ (reserved_piece place need ∷ (free_run (place + need) (piece_end p) ++ ps))) end) h.0.place all)

second : (a b : Bool) → (a && b) ≡ false → b ≡ true → a ≡ false
second true b e f = absurd (let g : true ≡ false = sym f ∙ e in cc)
second false b e f = refl

any : (o : Option Piece) → IfSome o (λ p. Unit {0})
any None = tt
any (Some p) = tt

pub laid_reserved_in : (test : Piece → Bool) (need : ℕ) → 0 < need → ((p : Piece) → test p ≡ true → has_room need p ≡ true) → (ps : List Piece) (end : ℕ) → IsLaid 0 ps end → IsLaid 0 (replaced test (reserved_in need) ps) end
laid_reserved_in test need some has ps end h =
    laid-replaced test (reserved_in need) (λ p. Unit {0}) end
    (λ q p rest e u a. taken_before q (reserved_in need p ++ rest) (second (is_free q) (is_free p) a (room_facts need p (has p e)).free))
    (λ at p rest e u l. reserved_inner need some at p rest end (room_facts need p (has p e)) l)
    0 ps (any (first test ps)) h

pub laid_settled : (test : Piece → Bool) (len : ℕ) (owner : Owner) (ps : List Piece) (end : ℕ) → IfSome (first test ps) (λ p. (1 ≤ len) × (len ≤ p.size)) → IsLaid 0 ps end
    → IsLaid 0 (replaced test (λ p. settled len owner p ∷ []) ps) end
laid_settled test len owner ps end s h =
    laid-replaced test (λ p. settled len owner p ∷ []) (λ p. (1 ≤ len) × (len ≤ p.size)) end
    (λ q p rest e u a. taken_behind q (settled len owner p) rest refl)
    (λ at p rest e u l. (record { place = l.0.place; some = l.0.some; formed = u }, taken_before (settled len owner p) rest refl, l.2))
    0 ps s h

pub laid_left : (test : Piece → Bool) (ps : List Piece) (end : ℕ) → IsLaid 0 ps end → IsLaid 0 (replaced test (λ p. left p ∷ []) ps) end
laid_left test ps end h =
    laid-replaced test (λ p. left p ∷ []) (λ p. Unit {0}) end
    (λ q p rest e u a. taken_behind q (left p) rest refl)
    (λ at p rest e u l. (record { place = l.0.place; some = l.0.some; formed = (refl, refl) }, taken_before (left p) rest refl, l.2))
    0 ps (any (first test ps)) h

freed_keeps : KeepsPlaces freed
freed_keeps = record { place = λ p. refl; size = λ p. refl; formed = λ p h. (refl, refl) }

retired_keeps : KeepsPlaces retired
retired_keeps = record {
  place = λ p. elim p.kind as (λ k. (retired_as k p).pos ≡ p.pos) [ Used ↦ refl | Free ↦ refl | Reserved ↦ refl | Leaving ↦ refl | Pending ↦ refl ];
  size = λ p. elim p.kind as (λ k. (retired_as k p).size ≡ p.size) [ Used ↦ refl | Free ↦ refl | Reserved ↦ refl | Leaving ↦ refl | Pending ↦ refl ];
  formed = λ p h. elim p.kind as (λ k. IsFormedAs (retired_as k p).kind (retired_as k p)) [ Used ↦ h | Free ↦ h | Reserved ↦ h | Leaving ↦ (refl, refl) | Pending ↦ h ];
}

released_keeps : KeepsPlaces released
released_keeps = record {
  place = λ p. elim p.kind as (λ k. (released_as k p).pos ≡ p.pos) [ Used ↦ refl | Free ↦ refl | Reserved ↦ refl | Leaving ↦ refl | Pending ↦ refl ];
  size = λ p. elim p.kind as (λ k. (released_as k p).size ≡ p.size) [ Used ↦ refl | Free ↦ refl | Reserved ↦ refl | Leaving ↦ refl | Pending ↦ refl ];
  formed = λ p h. elim p.kind as (λ k. IsFormedAs (released_as k p).kind (released_as k p)) [ Used ↦ h | Free ↦ h | Reserved ↦ h | Leaving ↦ h | Pending ↦ (refl, refl) ];
}

retired_free : (p : Piece) → is_free (retired p) ≡ is_free p
retired_free p = by p.kind refl
  where
    by : (k : Kind) → p.kind ≡ k → is_free (retired_as k p) ≡ is_free p
    by Used e = refl
    by Free e = refl
    by Reserved e = refl
    by Pending e = refl
    by Leaving e = rw e refl

pub laid_retired : (ps : List Piece) (end : ℕ) → IsLaid 0 ps end → IsLaid 0 (map retired ps) end
laid_retired ps end h = laid-map retired retired_keeps retired_free 0 ps end h

freed_row : (test : Piece → Bool) (ps : List Piece) (end : ℕ) → IsLaid 0 ps end → IsRow 0 (replaced test (λ p. freed p ∷ []) ps) end
freed_row test ps end h = row-replaced test freed freed_keeps 0 ps end (laid_row 0 ps end h)

released_row : (ps : List Piece) (end : ℕ) → IsLaid 0 ps end → IsRow 0 (map released ps) end
released_row ps end h = row-map released released_keeps 0 ps end (laid_row 0 ps end h)

pub laid_freed : (test : Piece → Bool) (ps : List Piece) (end : ℕ) → IsLaid 0 ps end → IsLaid 0 (merged (replaced test (λ p. freed p ∷ []) ps)) end
laid_freed test ps end h = laid-merged 0 (replaced test (λ p. freed p ∷ []) ps) end (freed_row test ps end h)

pub laid_released : (ps : List Piece) (end : ℕ) → IsLaid 0 ps end → IsLaid 0 (merged (map released ps)) end
laid_released ps end h = laid-merged 0 (map released ps) end (released_row ps end h)

apart-trimmed : (p q : Piece) (qs tail : List Piece) → NotBothFree p (q ∷ qs) → NotBothFree p (trimmed (q ∷ qs) ++ tail)
apart-trimmed p q [] tail h =
    cond_both (is_free q) [] (q ∷ []) (λ (l : List Piece). NotBothFree p (l ++ tail))
    (λ e. taken_before p tail (second (is_free p) (is_free q) h e))
    (λ e. h)
apart-trimmed p q (r ∷ rs) tail h = h

laid_trimmed_from : (at : ℕ) (p : Piece) (ps tail : List Piece) (end last : ℕ) → IsLaid at (p ∷ ps) end → IsLaid (used_end (p ∷ ps)) tail last → IsLaid at (trimmed (p ∷ ps) ++ tail) last
laid_trimmed_from at p [] tail end last h t = by (is_free p) refl
  where
    by : (b : Bool) → is_free p ≡ b → IsLaid at (trimmed (p ∷ []) ++ tail) last
    by true e = rw e (subst (λ (n : ℕ). IsLaid n tail last) h.0.place (rw e at t))
    by false e = rw e (h.0, taken_before p tail e, subst (λ (n : ℕ). IsLaid (n + p.size) tail last) h.0.place (rw e at t))
laid_trimmed_from at p (q ∷ qs) tail end last h t =
    (h.0, apart-trimmed p q qs tail h.1, laid_trimmed_from (at + p.size) q qs tail end last h.2 t)

pub laid_trimmed : (ps tail : List Piece) (end last : ℕ) → IsLaid 0 ps end → IsLaid (used_end ps) tail last → IsLaid 0 (trimmed ps ++ tail) last
laid_trimmed [] tail end last h t = t
laid_trimmed (p ∷ ps) tail end last h t = laid_trimmed_from 0 p ps tail end last h t

pub laid_appended : (need : ℕ) (ps : List Piece) (end : ℕ) → 0 < need → IsLaid 0 ps end → IsLaid 0 (appended need ps) (end_place ps + need)
laid_appended need ps end some h =
    laid_trimmed ps (free_run (used_end ps) (end_place ps) ++ reserved_piece (end_place ps) need ∷ []) end (end_place ps + need) h
    (laid_run (used_end ps) (end_place ps) (reserved_piece (end_place ps) need ∷ []) (end_place ps + need) (up (used_end ps))
    (behind_not_free (reserved_piece (end_place ps) need) [] refl)
    (laid_reserved (end_place ps) need [] (end_place ps + need) some refl))

laid_tail : (from to : ℕ) → IsLaid from (free_run from to) (max from to)
laid_tail from to =
    elim (cases_lt from to) [
      | inl lt ↦ subst (λ (n : ℕ). IsLaid from (free_run from to) n) (let s : to ≡ max from to = omega arith in s)
          (subst (λ (l : List Piece). IsLaid from l to) (append-nil (free_run from to)) (laid_run from to [] to (omega arith) nothing_behind refl))
      | inr ge ↦ subst (λ (l : List Piece). IsLaid from l (max from to)) (sym (free_run_none from to ge)) (let s : from ≡ max from to = omega arith in s)
    ]

pub laid_cut : (len : ℕ) (ps : List Piece) (end : ℕ) → IsLaid 0 ps end → IsLaid 0 (cut len end ps) (max (used_end ps) (min len end))
laid_cut len ps end h = laid_trimmed ps (free_run (used_end ps) (min len end)) end (max (used_end ps) (min len end)) h (laid_tail (used_end ps) (min len end))

pub laid_pieces_of : (at : ℕ) (es : List Extent) (size : ℕ) → StandApart at es size → IsLaid at (pieces_of at es size) size
laid_pieces_of at [] size h = subst (λ (l : List Piece). IsLaid at l size) (append-nil (free_run at size)) (laid_run at size [] size h nothing_behind refl)
laid_pieces_of at (e ∷ es) size h =
    laid_run at e.pos (used_piece e ∷ pieces_of (e.pos + e.size) es size) size h.0
    (behind_not_free (used_piece e) (pieces_of (e.pos + e.size) es size) refl) (
      record { place = refl; some = omega (arith, h.1, h.2); formed = (h.1, h.2) },
      taken_before (used_piece e) (pieces_of (e.pos + e.size) es size) refl,
      laid_pieces_of (e.pos + e.size) es size h.3,
    )

pub used_le : (at : ℕ) (es : List Extent) (size : ℕ) → StandApart at es size → at ≤ size
used_le at [] size h = h
used_le at (e ∷ es) size h = let r = used_le (e.pos + e.size) es size h.3 in omega (arith, r, h.0)

pub used_end_le : (at : ℕ) (p : Piece) (ps : List Piece) (end : ℕ) → IsLaid at (p ∷ ps) end → used_end (p ∷ ps) ≤ end
used_end_le at p [] end h = cond_both (is_free p) p.pos (piece_end p) (λ (n : ℕ). n ≤ end) (λ e. omega (arith, h.0.place, h.2)) (λ e. omega (arith, h.0.place, h.2))
used_end_le at p (q ∷ qs) end h = used_end_le (at + p.size) q qs end h.2

pub used_end_within : (ps : List Piece) (end : ℕ) → IsLaid 0 ps end → used_end ps ≤ end
used_end_within [] end h = omega arith
used_end_within (p ∷ ps) end h = used_end_le 0 p ps end h

pub laid_below : (ps : List Piece) (end most : ℕ) → IsLaid 0 ps end → end < most → EndsBelow ps most
laid_below ps end most h l = record { each = λ i d w. let r = laid_within 0 ps end i d h w in omega (arith, r) }

pub below_room : (need before : ℕ) (p : Piece) → has_room_below need before p ≡ true → has_room need p ≡ true
below_room need before p e = (and_parts (has_room need p) (nat_le (aligned_up p.pos + need) before) e).0

-- there are no more pieces than bytes
pub laid_long : (at : ℕ) (ps : List Piece) (end : ℕ) → IsLaid at ps end → at + length ps ≤ end
laid_long at [] end l = omega (arith, l)
laid_long at (p ∷ ps) end l = let r = laid_long (at + p.size) ps end l.2 in omega (arith, r, l.0.some)
