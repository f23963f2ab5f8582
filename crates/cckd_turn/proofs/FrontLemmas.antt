-- Lists that begin other lists.
use Rattle.std.proofs.Common.{◌≡◌, ◌≤◌, List, [], ◌∷◌, ◌++◌, length, refl, sym, ap, ◌∙◌, arith, append_assoc, append-nil, length-append}
use mathlib.Core.List.{IsPrefix}

module _ {A : Type 0} where
  pub front_self : (xs : List A) → IsPrefix xs xs
  front_self xs = ([], append-nil xs)

  pub front_of_none : (xs : List A) → IsPrefix [] xs
  front_of_none xs = (xs, refl)

  pub front_trans : (xs ys zs : List A) → IsPrefix xs ys → IsPrefix ys zs → IsPrefix xs zs
  front_trans xs ys zs p q = (p.0 ++ q.0, sym (append_assoc xs p.0 q.0) ∙ (ap (λ (l : List A). l ++ q.0) p.1 ∙ q.1))

  pub front_append : (xs ys : List A) → IsPrefix xs (xs ++ ys)
  front_append xs ys = (ys, refl)

  pub front_longer : (xs ys zs : List A) → IsPrefix xs ys → IsPrefix xs (ys ++ zs)
  front_longer xs ys zs p = front_trans xs ys (ys ++ zs) p (front_append ys zs)

  pub front_whole : (xs ys : List A) → IsPrefix xs ys → length ys ≤ length xs → xs ≡ ys
  front_whole xs ys p le = none p.0 (omega (arith, sym (length-append xs p.0) ∙ ap length p.1)) p.1
    where
      none : (rest : List A) → length rest ≡ 0 → xs ++ rest ≡ ys → xs ≡ ys
      none [] e is = sym (append-nil xs) ∙ is
      none (x ∷ rest) e is = absurd (omega arith)
