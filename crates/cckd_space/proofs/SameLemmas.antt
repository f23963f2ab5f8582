-- For callers: two lists of one file, in which nothing is under way, are one where they have the same Used pieces.
use Rattle.std.proofs.Common.{◌≡◌, ◌⊎◌, ℕ, ◌+◌, ◌<◌, ◌≤◌, true, false, ◌&&◌, ◌||◌, List, [], ◌∷◌, refl, inl, inr, arith, ap, sym, ◌∙◌, subst}
use Rattle.std.proofs.lemmas.Bool.{cases_lt}
use Rattle.cckd_base.specs.declared.space.Owner.{Owner}
use Rattle.cckd_space.specs.declared.piece.Kind.{Kind}
use Rattle.cckd_space.specs.declared.piece.Kind.TheVariants.{Used, Free, Reserved, Leaving, Pending}
use Rattle.cckd_space.specs.declared.piece.Piece.{Piece}
use Rattle.cckd_space.specs.Pieces.{Has, is_used, is_free, free_kind, used_kind, free_piece, IsLaid, IsPieceAt, IsFormedAs, AreUsedOrFree}
use Rattle.cckd_space.proofs.LaidLemmas.{laid_le}
use Rattle.cckd_space.proofs.CallerLemmas.{laid_has}

-- what is in a list and isn't behind its first piece is that piece
first_of : (at : ℕ) (q : Piece) (qs : List Piece) (end : ℕ) (x : Piece) → IsLaid at (q ∷ qs) end → Has x (q ∷ qs) → x.pos < at + q.size → x ≡ q
first_of at q qs end x h there low = elim there [
  | inl same ↦ sym same
  | inr later ↦ let far = laid_has (at + q.size) qs end x h.2 later in absurd (omega (arith, low, far))
]

used_or_free : (p : Piece) → (is_used p || is_free p) ≡ true → ((is_used p ≡ true) × (is_free p ≡ false)) ⊎ ((is_used p ≡ false) × (is_free p ≡ true))
used_or_free p h = elim p.kind as (λ k. (used_kind k || free_kind k) ≡ true → ((used_kind k ≡ true) × (free_kind k ≡ false)) ⊎ ((used_kind k ≡ false) × (free_kind k ≡ true))) [
  | Used ↦ λ e. inl (refl, refl)
  | Free ↦ λ e. inr (refl, refl)
  | Reserved ↦ λ (e : false ≡ true). absurd cc
  | Leaving ↦ λ (e : false ≡ true). absurd cc
  | Pending ↦ λ (e : false ≡ true). absurd cc
] h

-- a Free piece is its place and its size
free_is : (at : ℕ) (p : Piece) → IsPieceAt at p → is_free p ≡ true → p ≡ free_piece at p.size
free_is at p h free = by p.kind refl h.formed
  where
    by : (k : Kind) → p.kind ≡ k → IsFormedAs k p → p ≡ free_piece at p.size
    by Free is formed =
        ap (λ (x : ℕ). record { pos = x; len = p.len; size = p.size; kind = p.kind; owner = p.owner }) h.place
        ∙ (ap (λ (x : ℕ). record { pos = at; len = x; size = p.size; kind = p.kind; owner = p.owner }) formed.0
        ∙ (ap (λ (x : Kind). record { pos = at; len = p.size; size = p.size; kind = x; owner = p.owner }) is
        ∙ ap (λ (x : Owner). record { pos = at; len = p.size; size = p.size; kind = Free; owner = x }) formed.1))
    by Used is formed = absurd (let g : true ≡ false = sym free ∙ ap free_kind is in cc)
    by Reserved is formed = absurd (let g : true ≡ false = sym free ∙ ap free_kind is in cc)
    by Leaving is formed = absurd (let g : true ≡ false = sym free ∙ ap free_kind is in cc)
    by Pending is formed = absurd (let g : true ≡ false = sym free ∙ ap free_kind is in cc)

-- each Used piece of one list is in another
abbrev pub UsedIn : List Piece → List Piece → Type 0
UsedIn ps qs = (p : Piece) → Has p ps → is_used p ≡ true → Has p qs

-- behind first pieces that are the same
rest_in : (at : ℕ) (p q : Piece) (ps qs : List Piece) (end : ℕ) → IsLaid at (p ∷ ps) end → p ≡ q → UsedIn (p ∷ ps) (q ∷ qs) → UsedIn ps qs
rest_in at p q ps qs end h same all x later used = elim (all x (inr later) used) [
  | inl first ↦
      let far = laid_has (at + p.size) ps end x h.2 later in
      let e = ap (λ (y : Piece). y.pos) (same ∙ first) in
      absurd (omega (arith, far, h.0.place, h.0.some, e))
  | inr there ↦ there
]

-- a Free first piece is no shorter than the other's
no_shorter : (at : ℕ) (p q : Piece) (ps qs : List Piece) (end : ℕ) → IsLaid at (p ∷ ps) end → IsLaid at (q ∷ qs) end → AreUsedOrFree ps → is_free p ≡ true → is_used q ≡ false → UsedIn (p ∷ ps) (q ∷ qs) → p.size < q.size → ⊥
no_shorter at p q [] qs end h g kinds free not all less = let e = laid_le (at + q.size) qs end g.2 in omega (arith, h.2, e, less)
no_shorter at p q (n ∷ ps) qs end h g kinds free not all less = elim (used_or_free n kinds.0) [
  | inl used ↦
      let is_q : n ≡ q = first_of at q qs end n g (all n (inr (inl refl)) used.0) (omega (arith, h.2.0.place, less)) in
      let e : true ≡ false = sym used.0 ∙ (ap is_used is_q ∙ not) in
      cc
  | inr both ↦
      let e : (true && is_free n) ≡ false = rw free at h.1 in
      let f : true ≡ false = sym both.1 ∙ e in
      cc
]

heads : (at : ℕ) (p q : Piece) (ps qs : List Piece) (end : ℕ) → IsLaid at (p ∷ ps) end → IsLaid at (q ∷ qs) end → AreUsedOrFree (p ∷ ps) → AreUsedOrFree (q ∷ qs) → UsedIn (p ∷ ps) (q ∷ qs) → UsedIn (q ∷ qs) (p ∷ ps) → p ≡ q
heads at p q ps qs end h g u v all back = elim (used_or_free p u.0) [
  | inl up ↦ first_of at q qs end p g (all p (inl refl) up.0) (omega (arith, h.0.place, g.0.some))
  | inr fp ↦ elim (used_or_free q v.0) [
    | inl uq ↦ sym (first_of at p ps end q h (back q (inl refl) uq.0) (omega (arith, g.0.place, h.0.some)))
    | inr fq ↦
        let le : p.size ≤ q.size = elim (cases_lt q.size p.size) [ inl less ↦ absurd (no_shorter at q p qs ps end g h v.1 fq.1 fp.0 back less) | inr le ↦ le ] in
        let ge : q.size ≤ p.size = elim (cases_lt p.size q.size) [ inl less ↦ absurd (no_shorter at p q ps qs end h g u.1 fp.1 fq.0 all less) | inr le ↦ le ] in
        let size : p.size ≡ q.size = omega (arith, le, ge) in
        free_is at p h.0 fp.1 ∙ (ap (free_piece at) size ∙ sym (free_is at q g.0 fq.1))
  ]
]

pub same_laid : (at : ℕ) (ps qs : List Piece) (end : ℕ) → IsLaid at ps end → IsLaid at qs end → AreUsedOrFree ps → AreUsedOrFree qs → UsedIn ps qs → UsedIn qs ps → ps ≡ qs
same_laid at [] [] end h g u v all back = refl
same_laid at [] (q ∷ qs) end h g u v all back = let e = laid_le (at + q.size) qs end g.2 in absurd (omega (arith, h, g.0.some, e))
same_laid at (p ∷ ps) [] end h g u v all back = let e = laid_le (at + p.size) ps end h.2 in absurd (omega (arith, g, h.0.some, e))
same_laid at (p ∷ ps) (q ∷ qs) end h g u v all back =
    let same : p ≡ q = heads at p q ps qs end h g u v all back in
    let more : IsLaid (at + p.size) qs end = subst (λ (n : ℕ). IsLaid (at + n) qs end) (sym (ap (λ (x : Piece). x.size) same)) g.2 in
    let rest : ps ≡ qs = same_laid (at + p.size) ps qs end h.2 more u.1 v.1 (rest_in at p q ps qs end h same all) (rest_in at q p qs ps end g (sym same) back) in
    cc
