-- The names of a disk's files are text, and differ.
use Rattle.std.proofs.Common.{◌≡◌, ⊎_elim, ℕ, zero, suc, ◌+◌, ◌<◌, ◌≤◌, ◌==◌, true, false, cond, List, [], ◌∷◌, ◌++◌, length, codes, Option, Some, None, sym, ◌∙◌, ap, subst, arith, length-append}
use Rattle.std.specs.Str.{IsUtf8, IsAscii, bytes_eq}
use Rattle.std.proofs.lemmas.Bool.{false≢true, cases_lt, cases_eq, cond-true, cond-false, cond_both, eq-eqb, ne_eqb, false_from_ne_true}
use Rattle.std.proofs.lemmas.List.{same_from_push}
use Rattle.std.proofs.lemmas.Slice.Eq.{bytes_eq-Decides}
use Rattle.std.proofs.lemmas.Str.{IsUtf8-append, IsUtf8-from_ascii}
use Rattle.cckd_shelf.specs.Events.{Bound, is_name, name_of}
use Rattle.cckd_shelf.specs.World.{World, held_by, after_bind}
use Rattle.cckd_top.specs.Names.{slot_name, AreNamed}

ascii_digit : (k : ℕ) → k ≤ 8 → IsAscii ((48 + k) ∷ [])
ascii_digit k small zero = omega arith
ascii_digit k small (suc i) = omega arith

ascii_mark : IsAscii (codes ".sf")
ascii_mark zero = omega arith
ascii_mark (suc zero) = omega arith
ascii_mark (suc (suc zero)) = omega arith
ascii_mark (suc (suc (suc i))) = omega arith

-- the name of a slot is text where the file's name is
pub slot_name_text : (file : List ℕ) (k : ℕ) → k ≤ 8 → IsUtf8 file → IsUtf8 (slot_name file k)
slot_name_text file k small text =
    elim (k == 0) as (λ b. IsUtf8 (cond b file (file ++ codes ".sf" ++ (48 + k) ∷ []))) [
      | true ↦ text
      | false ↦ IsUtf8-append (file ++ codes ".sf") ((48 + k) ∷ [])
          (IsUtf8-append file (codes ".sf") text (IsUtf8-from_ascii (codes ".sf") ascii_mark))
          (IsUtf8-from_ascii ((48 + k) ∷ []) (ascii_digit k small))
    ]

-- a shadow's name is the file's with four bytes behind it
shadow_name : (file : List ℕ) (n : ℕ) → 0 < n → slot_name file n ≡ file ++ codes ".sf" ++ (48 + n) ∷ []
shadow_name file n some = cond-false (n == 0) file (file ++ codes ".sf" ++ (48 + n) ∷ []) (ne_eqb n 0 (λ e. omega arith))

-- two slots have different names
pub names_differ : (file : List ℕ) (m n : ℕ) → m < n → slot_name file m ≡ slot_name file n → ⊥
names_differ file m n less e =
    let above : slot_name file n ≡ file ++ codes ".sf" ++ (48 + n) ∷ [] = shadow_name file n (omega arith) in
    ⊎_elim
    (λ (first : m ≡ 0).
    let base : slot_name file m ≡ file = cond-true (m == 0) file (file ++ codes ".sf" ++ (48 + m) ∷ []) (eq-eqb m 0 first) in
    let lengths = ap length (sym base ∙ e ∙ above) in
    absurd (omega (arith, lengths, length-append (file ++ codes ".sf") ((48 + n) ∷ []), length-append file (codes ".sf"))))
    (λ (later : m ≡ 0 → ⊥).
    let below : slot_name file m ≡ file ++ codes ".sf" ++ (48 + m) ∷ [] =
    cond-false (m == 0) file (file ++ codes ".sf" ++ (48 + m) ∷ []) (ne_eqb m 0 later) in
    let digits = (same_from_push (file ++ codes ".sf") (file ++ codes ".sf") (48 + m) (48 + n) (sym below ∙ e ∙ above)).1 in
    absurd (omega (arith, digits)))
    (cases_eq m 0)

has_name : (o : Option (List ℕ)) (name : List ℕ) → is_name o name ≡ true → o ≡ Some name
has_name None name h = absurd (false≢true h)
has_name (Some other) name h = ap Some ((bytes_eq-Decides other name).0 h)

has_other : (a b : List ℕ) → (a ≡ b → ⊥) → is_name (Some a) b ≡ false
has_other a b ne = false_from_ne_true (bytes_eq a b) (λ e. ne ((bytes_eq-Decides a b).0 e))

-- a slot more has its name
named_bound : (w : World) (file : List ℕ) (n : ℕ) → AreNamed w file n
    → AreNamed (after_bind n (slot_name file n) w) file (n + 1)
named_bound w file n named =
    let name = slot_name file n in
    let next : World = record w { events = Bound n name (held_by w name) ∷ w.events } in
    cond_both (is_name (name_of w.events n) name) w next (λ (v : World). AreNamed v file (n + 1))
    (λ same slot less. ⊎_elim
    (λ (below : slot < n). named slot below)
    (λ (here : n ≤ slot).
    let at : slot ≡ n = omega arith in
    subst (λ (s : ℕ). name_of w.events s ≡ Some (slot_name file s)) (sym at) (has_name (name_of w.events n) name same))
    (cases_lt slot n))
    (λ fresh slot less. ⊎_elim
    (λ (below : slot < n).
    let other : is_name (name_of w.events slot) name ≡ false =
    ap (λ (o : Option (List ℕ)). is_name o name) (named slot below)
    ∙ has_other (slot_name file slot) name (names_differ file slot n below) in
    cond-false (n == slot) (Some name) (cond (is_name (name_of w.events slot) name) None (name_of w.events slot))
    (ne_eqb n slot (λ e. omega arith))
    ∙ cond-false (is_name (name_of w.events slot) name) None (name_of w.events slot) other ∙ named slot below)
    (λ (here : n ≤ slot).
    let at : n ≡ slot = omega arith in
    cond-true (n == slot) (Some name) (cond (is_name (name_of w.events slot) name) None (name_of w.events slot))
    (eq-eqb n slot at)
    ∙ ap (λ (s : ℕ). Some (slot_name file s)) at)
    (cases_lt slot n))

pub named_more : (w next : World) (file : List ℕ) (n : ℕ) → AreNamed w file n → next ≡ after_bind n (slot_name file n) w
    → AreNamed next file (n + 1)
named_more w next file n named e = subst (λ (v : World). AreNamed v file (n + 1)) (sym e) (named_bound w file n named)
