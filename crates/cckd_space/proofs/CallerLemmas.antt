-- Which pieces a caller finds after a call: the one that the call made, and each that it doesn't name.
use Rattle.std.proofs.Common.{◌≡◌, ◌⊎◌, ℕ, zero, suc, ◌+◌, ◌<◌, ◌≤◌, Bool, true, false, ◌&&◌, ◌||◌, nat_le, nat_lt, List, [], ◌∷◌, ◌++◌, slice_get, map, Option, Some, None, IfSome, refl, sym, ◌∙◌, ap, subst, arith, inl, inr, cond}
use Rattle.std.specs.Option.{option_map}
use Rattle.std.proofs.lemmas.Bool.{cond_both, and_parts, eq-eqb, false_from_ne_true, le-leb, lt-leb, lt-ltb, le-ltb, cases_lt}
use Rattle.cckd_base.specs.declared.space.Owner.{Owner}
use Rattle.cckd_space.specs.declared.piece.Kind.{Kind}
use Rattle.cckd_space.specs.declared.piece.Kind.TheVariants.{Used, Free, Reserved, Leaving, Pending}
use Rattle.cckd_space.specs.declared.piece.Piece.{Piece}
use Rattle.cckd_space.specs.Pieces.{Has, is_free, is_used_at, is_reserved_at, first, replaced, free_run, reserved_piece, reserved_in, settled, joined, merged, has_room, aligned_up, piece_end, trimmed, used_end, end_place, appended, counted, AreUsedOrFree, IsLaid, free_piece, is_used, free_kind, used_kind}
use Rattle.cckd_space.specs.Plan.{first_fit, place_of, reserved_by, with_reserved, has_byte, has_used_byte, has_free_byte}
use Rattle.cckd_space.proofs.LaidLemmas.{laid_reserved_in, laid_appended, laid_settled, laid_le}
use Rattle.cckd_space.proofs.SearchLemmas.{reserved_there, used_there}

has_left : (p : Piece) (xs ys : List Piece) → Has p xs → Has p (xs ++ ys)
has_left p [] ys h = absurd h
has_left p (x ∷ xs) ys h = elim h [ inl e ↦ inl e | inr m ↦ inr (has_left p xs ys m) ]

has_right : (p : Piece) (xs ys : List Piece) → Has p ys → Has p (xs ++ ys)
has_right p [] ys h = h
has_right p (x ∷ xs) ys h = inr (has_right p xs ys h)

has_split : (p : Piece) (xs ys : List Piece) → Has p (xs ++ ys) → Has p xs ⊎ Has p ys
has_split p [] ys h = inr h
has_split p (x ∷ xs) ys h = elim h [ inl e ↦ inl (inl e) | inr m ↦ elim (has_split p xs ys m) [ inl k ↦ inl (inr k) | inr k ↦ inr k ] ]

-- what is found is there, and passes
pub first_has : (test : Piece → Bool) (ps : List Piece) (p : Piece) → first test ps ≡ Some p → Has p ps × (test p ≡ true)
first_has test [] p e = absurd cc
first_has test (q ∷ qs) p e = by (test q) refl (first_has test qs p)
  where
    by : (b : Bool) → test q ≡ b → (first test qs ≡ Some p → Has p qs × (test p ≡ true)) → Has p (q ∷ qs) × (test p ≡ true)
    by true f more = let s : q ≡ p = (let g : Some q ≡ Some p = rw f at e in cc) in (inl s, ap test (sym s) ∙ f)
    by false f more = let m = more (rw f at e) in (inr m.0, m.1)

pub laid_has : (at : ℕ) (ps : List Piece) (end : ℕ) (p : Piece) → IsLaid at ps end → Has p ps → at ≤ p.pos
laid_has at [] end p l h = absurd h
laid_has at (q ∷ qs) end p l h = elim h [
  | inl e ↦ let s = ap (λ (x : Piece). x.pos) e in omega (arith, s, l.0.place)
  | inr m ↦ let r = laid_has (at + q.size) qs end p l.2 m in omega (arith, r)
]

-- what is there and passes a test that only one at this place passes is found
pub found : (test : Piece → Bool) (pos : ℕ) → ((p : Piece) → test p ≡ true → p.pos ≡ pos) → (at : ℕ) (ps : List Piece) (end : ℕ) (p : Piece) → IsLaid at ps end → Has p ps → test p ≡ true → first test ps ≡ Some p
found test pos only at [] end p l h t = absurd h
found test pos only at (q ∷ qs) end p l h t = elim h [
  | inl e ↦ let s : test q ≡ true = ap test e ∙ t in rw s (ap (λ (x : Piece). Some x) e)
  | inr m ↦
      let far = laid_has (at + q.size) qs end p l.2 m in
      let here = only p t in
      let n : test q ≡ false = false_from_ne_true (test q) (λ e. let o = only q e in omega (arith, far, here, o, l.0.place, l.0.some)) in
      rw n (found test pos only (at + q.size) qs end p l.2 m t)
]

-- a piece that has a number is there
pub has_number : (ps : List Piece) (i : ℕ) (p : Piece) → slice_get ps i ≡ Some p → Has p ps
has_number [] i p e = absurd cc
has_number (q ∷ qs) zero p e = inl cc
has_number (q ∷ qs) (suc i) p e = inr (has_number qs i p e)

-- and where it passes such a test it is the one that is found
pub found_number : (test : Piece → Bool) (pos : ℕ) → ((p : Piece) → test p ≡ true → p.pos ≡ pos) → (ps qs : List Piece) (end i : ℕ) (p : Piece) → IsLaid 0 ps end → qs ≡ ps → slice_get qs i ≡ Some p → test p ≡ true → first test ps ≡ Some p
found_number test pos only ps qs end i p l s e t = found test pos only 0 ps end p l (subst (Has p) s (has_number qs i p e)) t

-- a piece that a change doesn't name stays
pub has_replaced : (test : Piece → Bool) (news : Piece → List Piece) (ps : List Piece) (p : Piece) → test p ≡ false → Has p ps → Has p (replaced test news ps)
has_replaced test news [] p n h = absurd h
has_replaced test news (q ∷ qs) p n h =
    cond_both (test q) (news q ++ qs) (q ∷ replaced test news qs) (Has p)
    (λ e. elim h [ inl s ↦ absurd (let g : true ≡ false = sym e ∙ (ap test s ∙ n) in cc) | inr m ↦ has_right p (news q) qs m ])
    (λ e. elim h [ inl s ↦ inl s | inr m ↦ inr (has_replaced test news qs p n m) ])

-- and what comes in the place of the named one is there
pub has_new : (test : Piece → Bool) (news : Piece → List Piece) (ps : List Piece) (q p : Piece) → first test ps ≡ Some q → Has p (news q) → Has p (replaced test news ps)
has_new test news [] q p e h = absurd cc
has_new test news (x ∷ xs) q p e h = by (test x) refl (λ f. has_new test news xs q p f h)
  where
    by : (b : Bool) → test x ≡ b → (first test xs ≡ Some q → Has p (replaced test news xs)) → Has p (replaced test news (x ∷ xs))
    by true f more = rw f (let s : x ≡ q = (let g : Some x ≡ Some q = rw f at e in cc) in has_left p (news x) xs (subst (λ (y : Piece). Has p (news y)) (sym s) h))
    by false f more = rw f (inr (more (rw f at e)))

pub has_map : (f : Piece → Piece) (ps : List Piece) (p : Piece) → Has p ps → Has (f p) (map f ps)
has_map f [] p h = absurd h
has_map f (q ∷ qs) p h = elim h [ inl e ↦ inl (ap f e) | inr m ↦ inr (has_map f qs p m) ]

has_joined : (q : Piece) (qs : List Piece) (p : Piece) → is_free p ≡ false → Has p (q ∷ qs) → Has p (joined q qs)
has_joined q [] p n h = h
has_joined q (x ∷ xs) p n h = by (is_free q && is_free x) refl
  where
    by : (b : Bool) → (is_free q && is_free x) ≡ b → Has p (joined q (x ∷ xs))
    by true e = rw e (elim h [
      | inl s ↦ absurd (let f = (and_parts (is_free q) (is_free x) e).0 in let g : true ≡ false = sym f ∙ (ap is_free s ∙ n) in cc)
      | inr m ↦ elim m [
        | inl s ↦ absurd (let f = (and_parts (is_free q) (is_free x) e).1 in let g : true ≡ false = sym f ∙ (ap is_free s ∙ n) in cc)
        | inr k ↦ inr k
      ]
    ])
    by false e = rw e h

has_of_joined : (q : Piece) (qs : List Piece) (p : Piece) → is_free p ≡ false → Has p (joined q qs) → Has p (q ∷ qs)
has_of_joined q [] p n h = h
has_of_joined q (x ∷ xs) p n h = by (is_free q && is_free x) refl
  where
    by : (b : Bool) → (is_free q && is_free x) ≡ b → Has p (q ∷ x ∷ xs)
    by true e =
        let g : (free_piece q.pos (q.size + x.size) ≡ p) ⊎ Has p xs = rw e at h in
        elim g [ inl s ↦ absurd (let k : true ≡ false = ap is_free s ∙ n in cc) | inr m ↦ inr (inr m) ]
    by false e = let g : Has p (q ∷ x ∷ xs) = rw e at h in g

-- a merge keeps each piece that isn't Free
pub has_merged : (ps : List Piece) (p : Piece) → is_free p ≡ false → Has p ps → Has p (merged ps)
has_merged [] p n h = absurd h
has_merged (q ∷ qs) p n h = has_joined q (merged qs) p n (elim h [ inl e ↦ inl e | inr m ↦ inr (has_merged qs p n m) ])

-- and so does a cut of the end
pub has_trimmed : (ps tail : List Piece) (p : Piece) → is_free p ≡ false → Has p ps → Has p (trimmed ps ++ tail)
has_trimmed [] tail p n h = absurd h
has_trimmed (q ∷ []) tail p n h = elim h [
  | inl e ↦ let f : is_free q ≡ false = ap is_free e ∙ n in rw f (inl e)
  | inr m ↦ absurd m
]
has_trimmed (q ∷ x ∷ xs) tail p n h = elim h [ inl e ↦ inl e | inr m ↦ inr (has_trimmed (x ∷ xs) tail p n m) ]

reserved_passes : (pos need : ℕ) → is_reserved_at pos (reserved_piece pos need) ≡ true
reserved_passes pos need = eq-eqb pos pos refl

has_reserved : (need : ℕ) (p : Piece) → Has (reserved_piece (aligned_up p.pos) need) (reserved_in need p)
has_reserved need p =
    let at = aligned_up p.pos in
    has_right (reserved_piece at need) (free_run p.pos at) (reserved_piece at need ∷ free_run (at + need) (piece_end p)) (inl refl)

-- what is reserved in a free piece is found at its place
pub filled_found : (test : Piece → Bool) (need : ℕ) → 0 < need → ((p : Piece) → test p ≡ true → has_room need p ≡ true) → (ps : List Piece) (end : ℕ) (q : Piece) → IsLaid 0 ps end → first test ps ≡ Some q
    → first (is_reserved_at (aligned_up q.pos)) (replaced test (reserved_in need) ps) ≡ Some (reserved_piece (aligned_up q.pos) need)
filled_found test need some has ps end q l e =
    let pos = aligned_up q.pos in
    found (is_reserved_at pos) pos (reserved_there pos) 0 (replaced test (reserved_in need) ps) end (reserved_piece pos need)
    (laid_reserved_in test need some has ps end l) (has_new test (reserved_in need) ps q (reserved_piece pos need) e (has_reserved need q)) (reserved_passes pos need)

-- the same as the code leaves the list, and where it answers the place
pub filled_there : (test : Piece → Bool) (need : ℕ) → 0 < need → ((p : Piece) → test p ≡ true → has_room need p ≡ true) → (ps news : List Piece) (end place : ℕ) → IsLaid 0 ps end
    → Some place ≡ option_map (λ p. aligned_up p.pos) (first test ps) → news ≡ replaced test (reserved_in need) ps → first (is_reserved_at place) news ≡ Some (reserved_piece place need)
filled_there test need some has ps news end place l e n = by (first test ps) refl
  where
    by : (o : Option Piece) → first test ps ≡ o → first (is_reserved_at place) news ≡ Some (reserved_piece place need)
    by None f = absurd (let g : Some place ≡ None = rw f at e in cc)
    by (Some q) f =
        let s : place ≡ aligned_up q.pos = (let g : Some place ≡ Some (aligned_up q.pos) = rw f at e in cc) in
        rw (s, n) (filled_found test need some has ps end q l f)

pub filled_if : (test : Piece → Bool) (need : ℕ) → 0 < need → ((p : Piece) → test p ≡ true → has_room need p ≡ true) → (ps news : List Piece) (end : ℕ) (o : Option ℕ) → IsLaid 0 ps end
    → o ≡ option_map (λ p. aligned_up p.pos) (first test ps) → news ≡ replaced test (reserved_in need) ps → IfSome o (λ place. first (is_reserved_at place) news ≡ Some (reserved_piece place need))
filled_if test need some has ps news end None l e n = tt
filled_if test need some has ps news end (Some place) l e n = filled_there test need some has ps news end place l e n

-- what is reserved at the end is found at its place
pub appended_found : (need : ℕ) (ps : List Piece) (end : ℕ) → 0 < need → IsLaid 0 ps end → first (is_reserved_at (end_place ps)) (appended need ps) ≡ Some (reserved_piece (end_place ps) need)
appended_found need ps end some l =
    let pos = end_place ps in
    found (is_reserved_at pos) pos (reserved_there pos) 0 (appended need ps) (pos + need) (reserved_piece pos need)
    (laid_appended need ps end some l)
    (has_right (reserved_piece pos need) (trimmed ps) (free_run (used_end ps) pos ++ reserved_piece pos need ∷ []) (has_right (reserved_piece pos need) (free_run (used_end ps) pos) (reserved_piece pos need ∷ []) (inl refl)))
    (reserved_passes pos need)

-- what `place` reserves is what `settle` and `give_back` find
pub placed_found : (need : ℕ) (ps : List Piece) (end : ℕ) → 0 < need → IsLaid 0 ps end → first (is_reserved_at (place_of need ps)) (with_reserved need ps) ≡ Some (reserved_piece (place_of need ps) need)
placed_found need ps end some l = by (first (has_room need) ps) refl
  where
    by : (o : Option Piece) → first (has_room need) ps ≡ o → first (is_reserved_at (place_of need ps)) (with_reserved need ps) ≡ Some (reserved_piece (place_of need ps) need)
    by None e = rw e (appended_found need ps end some l)
    by (Some q) e = rw e (filled_found (has_room need) need some (λ p t. t) ps end q l e)

-- each piece that isn't Free stays where one is placed
pub placed_keeps : (need : ℕ) (ps : List Piece) (p : Piece) → is_free p ≡ false → Has p ps → Has p (with_reserved need ps)
placed_keeps need ps p n h = by (first_fit need ps) refl
  where
    by : (o : Option ℕ) → first_fit need ps ≡ o → Has p (reserved_by o need ps)
    by None e = has_trimmed ps (free_run (used_end ps) (end_place ps) ++ reserved_piece (end_place ps) need ∷ []) p n h
    by (Some at) e = has_replaced (has_room need) (reserved_in need) ps p (rw n refl) h

-- what `settle` settles is what `leave` finds
pub settled_found : (pos len : ℕ) (owner : Owner) (ps : List Piece) (end : ℕ) (p : Piece) → 1 ≤ len → len ≤ p.size → IsLaid 0 ps end → first (is_reserved_at pos) ps ≡ Some p
    → first (is_used_at pos) (replaced (is_reserved_at pos) (λ q. settled len owner q ∷ []) ps) ≡ Some (settled len owner p)
settled_found pos len owner ps end p some fits l e =
    let here = reserved_there pos p (first_has (is_reserved_at pos) ps p e).1 in
    found (is_used_at pos) pos (used_there pos) 0 (replaced (is_reserved_at pos) (λ q. settled len owner q ∷ []) ps) end (settled len owner p)
    (laid_settled (is_reserved_at pos) len owner ps end (rw e (some, fits)) l)
    (has_new (is_reserved_at pos) (λ q. settled len owner q ∷ []) ps p (settled len owner p) e (inl refl))
    (eq-eqb p.pos pos here)

pub settled_if : (pos len : ℕ) (owner : Owner) (ps news : List Piece) (end : ℕ) → IfSome (first (is_reserved_at pos) ps) (λ p. (1 ≤ len) × (len ≤ p.size)) → IsLaid 0 ps end
    → news ≡ replaced (is_reserved_at pos) (λ q. settled len owner q ∷ []) ps → IfSome (first (is_reserved_at pos) ps) (λ p. first (is_used_at pos) news ≡ Some (settled len owner p))
settled_if pos len owner ps news end fits l n = by (first (is_reserved_at pos) ps) refl
  where
    by : (o : Option Piece) → first (is_reserved_at pos) ps ≡ o → IfSome (first (is_reserved_at pos) ps) (λ p. first (is_used_at pos) news ≡ Some (settled len owner p))
    by None e = rw e tt
    by (Some p) e = rw e (let f : (1 ≤ len) × (len ≤ p.size) = rw e at fits in rw n (settled_found pos len owner ps end p f.0 f.1 l e))

-- Nothing else is there after a call.

-- what is there once others are in place of the first that passes was there, or is one of them
pub has_of_replaced : (test : Piece → Bool) (news : Piece → List Piece) (ps : List Piece) (p : Piece) → Has p (replaced test news ps) → Has p ps ⊎ ((q : Piece) × (first test ps ≡ Some q) × Has p (news q))
has_of_replaced test news [] p h = absurd h
has_of_replaced test news (q ∷ qs) p h = by (test q) refl (has_of_replaced test news qs p)
  where
    by : (b : Bool) → test q ≡ b → (Has p (replaced test news qs) → Has p qs ⊎ ((r : Piece) × (first test qs ≡ Some r) × Has p (news r))) → Has p (q ∷ qs) ⊎ ((r : Piece) × (first test (q ∷ qs) ≡ Some r) × Has p (news r))
    by true f more =
        let g : Has p (news q ++ qs) = rw f at h in
        elim (has_split p (news q) qs g) [ inl m ↦ inr (q, rw f refl, m) | inr m ↦ inl (inr m) ]
    by false f more =
        let g : (q ≡ p) ⊎ Has p (replaced test news qs) = rw f at h in
        elim g [
          | inl e ↦ inl (inl e)
          | inr m ↦ elim (more m) [ inl k ↦ inl (inr k) | inr k ↦ inr (k.0, rw f k.1, k.2) ]
        ]

-- a merge adds no piece that isn't Free
pub has_of_merged : (ps : List Piece) (p : Piece) → is_free p ≡ false → Has p (merged ps) → Has p ps
has_of_merged [] p n h = absurd h
has_of_merged (q ∷ qs) p n h = elim (has_of_joined q (merged qs) p n h) [ inl e ↦ inl e | inr m ↦ inr (has_of_merged qs p n m) ]

-- Each byte lies in one piece.

none_before : (at : ℕ) (ps : List Piece) (end byte : ℕ) → IsLaid at ps end → byte < at → counted (has_byte byte) ps ≡ 0
none_before at [] end byte l h = refl
none_before at (p ∷ ps) end byte l h =
    let r = none_before (at + p.size) ps end byte l.2 (omega (arith, h)) in
    let n : nat_le p.pos byte ≡ false = lt-leb p.pos byte (omega (arith, h, l.0.place)) in
    rw n (omega (arith, r))

pub none_beyond : (at : ℕ) (ps : List Piece) (end byte : ℕ) → IsLaid at ps end → end ≤ byte → counted (has_byte byte) ps ≡ 0
none_beyond at [] end byte l h = refl
none_beyond at (p ∷ ps) end byte l h =
    let r = none_beyond (at + p.size) ps end byte l.2 h in
    let s = laid_le (at + p.size) ps end l.2 in
    let n : nat_lt byte (piece_end p) ≡ false = le-ltb byte (piece_end p) (omega (arith, s, h, l.0.place)) in
    let m : nat_le p.pos byte ≡ true = le-leb p.pos byte (omega (arith, s, h, l.0.place)) in
    rw (m, n) (omega (arith, r))

pub one_within : (at : ℕ) (ps : List Piece) (end byte : ℕ) → IsLaid at ps end → at ≤ byte → byte < end → counted (has_byte byte) ps ≡ 1
one_within at [] end byte l h g = absurd (omega (arith, l, h, g))
one_within at (p ∷ ps) end byte l h g =
    let m : nat_le p.pos byte ≡ true = le-leb p.pos byte (omega (arith, h, l.0.place)) in
    elim (cases_lt byte (at + p.size)) [
      | inl here ↦
          let n : nat_lt byte (piece_end p) ≡ true = lt-ltb byte (piece_end p) (omega (arith, here, l.0.place)) in
          let r = none_before (at + p.size) ps end byte l.2 here in
          rw (m, n) (omega (arith, r))
      | inr there ↦
          let n : nat_lt byte (piece_end p) ≡ false = le-ltb byte (piece_end p) (omega (arith, there, l.0.place)) in
          let r = one_within (at + p.size) ps end byte l.2 there g in
          rw (m, n) (omega (arith, r))
    ]

-- no byte is in pieces of both kinds
kinds_apart : (k : Kind) → (used_kind k && free_kind k) ≡ false
kinds_apart Used = refl
kinds_apart Free = refl
kinds_apart Reserved = refl
kinds_apart Leaving = refl
kinds_apart Pending = refl

one_kind : (u f h : Bool) → (u && f) ≡ false → cond (u && h) 1 0 + cond (f && h) 1 0 ≤ cond h 1 0
one_kind true true h e = absurd cc
one_kind true false true e = omega arith
one_kind true false false e = omega arith
one_kind false true true e = omega arith
one_kind false true false e = omega arith
one_kind false false true e = omega arith
one_kind false false false e = omega arith

both_kinds : (u f h : Bool) → (u && f) ≡ false → (u || f) ≡ true → cond (u && h) 1 0 + cond (f && h) 1 0 ≡ cond h 1 0
both_kinds true true h e g = absurd cc
both_kinds true false true e g = omega arith
both_kinds true false false e g = omega arith
both_kinds false true true e g = omega arith
both_kinds false true false e g = omega arith
both_kinds false false h e g = absurd cc

-- where every piece is Used or Free, each byte of a piece is exactly one of both
pub kinds_shared : (ps : List Piece) (byte : ℕ) → AreUsedOrFree ps → counted (has_used_byte byte) ps + counted (has_free_byte byte) ps ≡ counted (has_byte byte) ps
kinds_shared [] byte h = omega arith
kinds_shared (p ∷ ps) byte h =
    let r = kinds_shared ps byte h.1 in
    let o = both_kinds (is_used p) (is_free p) (has_byte byte p) (kinds_apart p.kind) h.0 in
    omega (arith, r, o)

pub kinds_counted : (ps : List Piece) (byte : ℕ) → counted (has_used_byte byte) ps + counted (has_free_byte byte) ps ≤ counted (has_byte byte) ps
kinds_counted [] byte = omega arith
kinds_counted (p ∷ ps) byte =
    let r = kinds_counted ps byte in
    let o = one_kind (is_used p) (is_free p) (has_byte byte p) (kinds_apart p.kind) in
    omega (arith, r, o)

pub no_more : (ps : List Piece) (end byte : ℕ) → IsLaid 0 ps end → counted (has_byte byte) ps ≤ 1
no_more ps end byte l = elim (cases_lt byte end) [
  | inl lt ↦ let r = one_within 0 ps end byte l (omega arith) lt in omega (arith, r)
  | inr ge ↦ let r = none_beyond 0 ps end byte l ge in omega (arith, r)
]
