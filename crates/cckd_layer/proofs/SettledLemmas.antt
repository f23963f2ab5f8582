-- The pieces once all that is named by something staged is settled.
use Rattle.std.proofs.Common.{◌≡◌, ◌⊎◌, ℕ, ◌+◌, ◌≤◌, ◌==◌, nat_lt, cond, List, [], ◌∷◌, ◌++◌, Option, Some, IfSome, refl, sym, ◌∙◌, ap, subst, inl, inr, arith}
use Rattle.std.proofs.lemmas.Bool.{cases_eq, cond-false, ne_eqb, le-ltb}
use Rattle.cckd_base.specs.declared.space.Extent.{Extent}
use Rattle.cckd_space.specs.declared.piece.Piece.{Piece}
use Rattle.cckd_space.specs.Pieces.{Has, IsLaid, first, is_reserved_at, replaced, settled, reserved_piece}
use Rattle.cckd_space.proofs.LaidLemmas.{laid_settled}
use Rattle.cckd_space.proofs.CallerLemmas.{has_replaced}
use Rattle.cckd_layer.specs.Current.{IsAmong, placed_piece, Accounts}
use Rattle.cckd_layer.specs.Acts.{settle_found, settled_one, settled_all}
use Rattle.cckd_layer.proofs.AccountLemmas.{placed_at, accounts_same, accounts_settled}
use Rattle.cckd_layer.proofs.SpanLemmas.{KeepsHeld, keeps_in, keeps_twice, held_settled, EndsBy, ends_settled}
use Rattle.cckd_layer.proofs.SpaceLemmas.{AreOnce}

-- a space of which some bytes are in use, and no more than it has
pub record IsFilled (x : Extent) : Type 0 where
  pub some : 1 ≤ x.len
  pub within : x.len ≤ x.size

pub one_is : (x : Extent) (ps : List Piece) (end : ℕ) → IsLaid 0 ps end → Has (placed_piece x) ps → IsFilled x → settled_one x ps ≡ replaced (is_reserved_at x.pos) (λ q. settled x.len x.owner q ∷ []) ps
one_is x ps end laid there fits =
    let all = replaced (is_reserved_at x.pos) (λ q. settled x.len x.owner q ∷ []) ps in
    ap (settle_found x ps) (placed_at x ps end laid there)
    ∙ (cond-false (x.len == 0) ps (cond (nat_lt x.size x.len) ps all) (ne_eqb x.len 0 (λ z. omega (arith, z, fits.some)))
    ∙ cond-false (nat_lt x.size x.len) ps all (le-ltb x.size x.len fits.within))

one_laid : (x : Extent) (ps : List Piece) (end : ℕ) → IsLaid 0 ps end → Has (placed_piece x) ps → IsFilled x → IsLaid 0 (settled_one x ps) end
one_laid x ps end laid there fits =
    subst (λ (qs : List Piece). IsLaid 0 qs end) (sym (one_is x ps end laid there fits))
    (laid_settled (is_reserved_at x.pos) x.len x.owner ps end
    (subst (λ (o : Option Piece). IfSome o (λ p. (1 ≤ x.len) × (x.len ≤ p.size))) (sym (placed_at x ps end laid there)) (fits.some, fits.within)) laid)

one_accounts : (U L R : Extent → Type 0) (x : Extent) (ps : List Piece) (end : ℕ) → IsLaid 0 ps end → R x → IsFilled x → Accounts U L R ps
    → Accounts (λ e. U e ⊎ (x ≡ e)) L (λ e. R e × (e ≡ x → ⊥)) (settled_one x ps)
one_accounts U L R x ps end laid rx fits a =
    subst (Accounts (λ e. U e ⊎ (x ≡ e)) L (λ e. R e × (e ≡ x → ⊥))) (sym (one_is x ps end laid (a.reserved.there x rx) fits)) (accounts_settled U L R x ps end laid rx a)

-- what is true of the pieces once these spaces are settled
pub record AreSettled (U L R : Extent → Type 0) (xs : List Extent) (n : ℕ) (ps qs : List Piece) (end : ℕ) : Type 0 where
  pub laid : IsLaid 0 qs end
  pub accounts : Accounts (λ e. U e ⊎ IsAmong e xs) L (λ e. R e × (IsAmong e xs → ⊥)) qs
  pub keeps : KeepsHeld ps qs
  pub ends : EndsBy n qs
  pub reserved : (pos m : ℕ) → Has (reserved_piece pos m) ps → (pos + m ≤ n) ⊎ Has (reserved_piece pos m) qs

pub all_settled : (U L R : Extent → Type 0) (xs : List Extent) (n : ℕ) (ps : List Piece) (end : ℕ) → IsLaid 0 ps end → AreOnce xs → ((x : Extent) → IsAmong x xs → R x) → ((x : Extent) → IsAmong x xs → IsFilled x)
    → ((x : Extent) → IsAmong x xs → x.pos + x.size ≤ n) → EndsBy n ps → Accounts U L R ps → AreSettled U L R xs n ps (settled_all xs ps) end
all_settled U L R [] n ps end laid once each fits within ends a = record {
  laid = laid;
  accounts = accounts_same U L R (λ e. U e ⊎ IsAmong e []) L (λ e. R e × (IsAmong e [] → ⊥)) ps (λ e h. inl h) (λ e h. elim h [ inl u ↦ u | inr none ↦ absurd none ]) (λ e h. h) (λ e h. h)
      (λ e h. (h, λ none. none)) (λ e h. h.0) a;
  keeps = keeps_in ps ps (λ p k h. h);
  ends = ends;
  reserved = λ pos m h. inr h;
}
all_settled U L R (x ∷ xs) n ps end laid once each fits within ends a =
    let rx = each x (inl refl) in
    let there = a.reserved.there x rx in
    let is = one_is x ps end laid there (fits x (inl refl)) in
    let later : (y : Extent) → IsAmong y xs → y ≡ x → ⊥ = λ y h same. once.0 (subst (λ (z : Extent). IsAmong z xs) same h) in
    let rest = all_settled (λ e. U e ⊎ (x ≡ e)) L (λ e. R e × (e ≡ x → ⊥)) xs n (settled_one x ps) end (one_laid x ps end laid there (fits x (inl refl))) once.1
    (λ y h. (each y (inr h), later y h)) (λ y h. fits y (inr h)) (λ y h. within y (inr h))
    (subst (EndsBy n) (sym is) (ends_settled n x ps end laid there (within x (inl refl)) ends))
    (one_accounts U L R x ps end laid rx (fits x (inl refl)) a) in
    record {
      laid = rest.laid;
      accounts = accounts_same (λ e. (U e ⊎ (x ≡ e)) ⊎ IsAmong e xs) L (λ e. (R e × (e ≡ x → ⊥)) × (IsAmong e xs → ⊥)) (λ e. U e ⊎ IsAmong e (x ∷ xs)) L (λ e. R e × (IsAmong e (x ∷ xs) → ⊥)) (settled_all xs (settled_one x ps))
          (λ e h. elim h [ inl (inl u) ↦ inl u | inl (inr same) ↦ inr (inl same) | inr m ↦ inr (inr m) ])
          (λ e h. elim h [ inl u ↦ inl (inl u) | inr (inl same) ↦ inl (inr same) | inr (inr m) ↦ inr m ])
          (λ e h. h) (λ e h. h)
          (λ e h. (h.0.0, λ m. elim m [ inl same ↦ h.0.1 (sym same) | inr k ↦ h.1 k ]))
          (λ e h. ((h.0, λ same. h.1 (inl (sym same))), λ k. h.1 (inr k)))
          rest.accounts;
      keeps = keeps_twice ps (settled_one x ps) (settled_all xs (settled_one x ps)) (subst (KeepsHeld ps) (sym is) (held_settled x.pos x.len x.owner ps)) rest.keeps;
      ends = rest.ends;
      reserved = λ pos m h. elim (cases_eq pos x.pos) [
        | inr other ↦ rest.reserved pos m (subst (Has (reserved_piece pos m)) (sym is) (has_replaced (is_reserved_at x.pos) (λ q. settled x.len x.owner q ∷ []) ps (reserved_piece pos m) (ne_eqb pos x.pos other) h))
        | inl same ↦
            let y : Extent = record { pos = pos; len = m; size = m; owner = x.owner } in
            let f = placed_at y ps end laid h in
            let g = placed_at x ps end laid there in
            let one : Some (placed_piece y) ≡ Some (placed_piece x) = sym f ∙ (ap (λ (k : ℕ). first (is_reserved_at k) ps) same ∙ g) in
            let size : m ≡ x.size = (let e : placed_piece y ≡ placed_piece x = cc in ap (λ (p : Piece). p.size) e) in
            let w = within x (inl refl) in
            inl (omega (arith, same, size, w))
      ];
    }

-- two lists one after the other
pub settled_append : (xs ys : List Extent) (ps : List Piece) → settled_all (xs ++ ys) ps ≡ settled_all ys (settled_all xs ps)
settled_append [] ys ps = refl
settled_append (x ∷ xs) ys ps = settled_append xs ys (settled_one x ps)
