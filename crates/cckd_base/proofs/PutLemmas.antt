-- Bytes that are put into a buffer: pieces one behind the other, and what the buffer has in the end.
use Rattle.std.proofs.Common.{◌≡◌, ℕ, ◌+◌, ◌-◌, ◌≤◌, List, [], ◌++◌, length, take, drop, refl, sym, ap, subst, ◌∙◌, arith, append_assoc, length-append}
use Rattle.std.proofs.lemmas.List.{take-append-drop, take_all, drop-drop, append-nil}
use Rattle.cckd_base.specs.Put.{IsPut}

-- no bytes are put anywhere
pub none_put : (at : ℕ) (old : List ℕ) → IsPut at at [] old old
none_put at old = record { ends = omega arith; front = sym (append-nil (take at old)); rest = refl }

-- what stays behind a place stays behind a later one
pub rest_later : (mid end : ℕ) (old new : List ℕ) → mid ≤ end → drop mid new ≡ drop mid old → drop end new ≡ drop end old
rest_later mid end old new later same =
    let there : mid + (end - mid) ≡ end = omega arith in
    ap (λ (n : ℕ). drop n new) (sym there) ∙ sym (drop-drop (end - mid) mid new) ∙ ap (drop (end - mid)) same
    ∙ drop-drop (end - mid) mid old ∙ ap (λ (n : ℕ). drop n old) there

-- two puts, the second behind the first, are one
pub puts_join : (at mid end : ℕ) (a b old between new : List ℕ)
    → IsPut at mid a old between → IsPut mid end b between new → IsPut at end (a ++ b) old new
puts_join at mid end a b old between new first second = record {
  ends = omega (arith, first.ends, second.ends, length-append a b);
  front = second.front ∙ ap (λ (s : List ℕ). s ++ b) first.front ∙ append_assoc (take at old) a b;
  rest = second.rest ∙ rest_later mid end old between (omega (arith, second.ends)) first.rest;
}

-- the same bytes, otherwise said
pub put_as : (at end : ℕ) (a b old new : List ℕ) → a ≡ b → IsPut at end a old new → IsPut at end b old new
put_as at end a b old new same put = subst (λ (s : List ℕ). IsPut at end s old new) same put

-- what the buffer has then
pub put_is : (at end : ℕ) (bytes old new : List ℕ) → IsPut at end bytes old new → new ≡ take at old ++ bytes ++ drop end old
put_is at end bytes old new put = rw (← put.front, ← put.rest) (sym (take-append-drop end new))

-- what it has where they were put at its front
pub put_in_front : (end : ℕ) (bytes old new : List ℕ) → IsPut 0 end bytes old new → new ≡ bytes ++ drop end old
put_in_front end bytes old new put = put_is 0 end bytes old new put

-- bytes that fill the buffer are what it has
pub put_fills : (end : ℕ) (bytes old new : List ℕ) → IsPut 0 end bytes old new → length new ≤ end → new ≡ bytes
put_fills end bytes old new put full = sym (take_all end new full) ∙ put.front
