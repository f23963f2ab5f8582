-- What the files of slots go by: no two slots have one file.
use Rattle.std.proofs.Common.{◌≡◌, ℕ, ◌==◌, Bool, true, false, cond, List, [], ◌∷◌, Option, Some, None, refl, sym, ◌∙◌, ap, subst, inl, inr}
use Rattle.std.specs.Prelude.{◌||◌}
use Rattle.std.specs.Str.{bytes_eq}
use Rattle.std.proofs.lemmas.Bool.{cases_Bool, cond-true, cond-false, both_ways, false_from_ne_true, eqb-true, eqb-false, eq-eqb, ne_eqb}
use Rattle.std.proofs.lemmas.Slice.Eq.{bytes_eq-Decides}
use Rattle.cckd_shelf.specs.Events.{Event, Written, Torn, Cut, HalfCut, Synced, Put, Bound, Name, Named, Nameless, is_name, name_of, was_bound, is_same, named_by, goes_by, is_about}

pub same_text : (a : List ℕ) → bytes_eq a a ≡ true
same_text a = (bytes_eq-Decides a a).1 refl

pub text_is : (a b : List ℕ) → bytes_eq a b ≡ true → a ≡ b
text_is a b e = (bytes_eq-Decides a b).0 e

pub texts_differ : (a b : List ℕ) → (a ≡ b → ⊥) → bytes_eq a b ≡ false
texts_differ a b apart = false_from_ne_true (bytes_eq a b) (λ k. apart (text_is a b k))

-- a file is the one that it is
pub same_self : (name : Name) → is_same name name ≡ true
same_self (Named name) = same_text name
same_self (Nameless slot) = eq-eqb slot slot refl

pub about_own : (es : List Event) (slot : ℕ) → is_about es slot (goes_by es slot) ≡ true
about_own es slot = same_self (goes_by es slot)

pub same_is : (a b : Name) → is_same a b ≡ true → a ≡ b
same_is (Named a) (Named b) e = ap Named (text_is a b e)
same_is (Named a) (Nameless t) e = cc
same_is (Nameless s) (Named b) e = cc
same_is (Nameless s) (Nameless t) e = ap Nameless (eqb-true s t e)

-- a name that was not taken away
kept_name : (o : Option (List ℕ)) (taken name : List ℕ) → cond (is_name o taken) None o ≡ Some name → (o ≡ Some name) × (bytes_eq name taken ≡ false)
kept_name None taken name e = cc
kept_name (Some own) taken name e =
    elim (cases_Bool (bytes_eq own taken)) [
      | inl k ↦ let gone : None ≡ Some name = sym (cond-true (bytes_eq own taken) None (Some own) k) ∙ e in cc
      | inr k ↦ let here : Some own ≡ Some name = sym (cond-false (bytes_eq own taken) None (Some own) k) ∙ e in
          let same : own ≡ name = cc in
          (here, subst (λ (n : List ℕ). bytes_eq n taken ≡ false) same k)
    ]

-- two slots never share a name
pub names_apart : (es : List Event) (s t : ℕ) (name : List ℕ) → name_of es s ≡ Some name → name_of es t ≡ Some name → s ≡ t
names_apart [] s t name e f = cc
names_apart (Written u p b ∷ es) s t name e f = names_apart es s t name e f
names_apart (Torn u p b ∷ es) s t name e f = names_apart es s t name e f
names_apart (Cut u n ∷ es) s t name e f = names_apart es s t name e f
names_apart (HalfCut u n ∷ es) s t name e f = names_apart es s t name e f
names_apart (Synced u ∷ es) s t name e f = names_apart es s t name e f
names_apart (Put b ∷ es) s t name e f = names_apart es s t name e f
names_apart (Bound u taken bytes ∷ es) s t name e f =
    elim (cases_Bool (u == s)) [
      | inl a ↦ elim (cases_Bool (u == t)) [
        | inl b ↦ sym (eqb-true u s a) ∙ eqb-true u t b
        | inr b ↦ let mine : Some taken ≡ Some name = sym (cond-true (u == s) (Some taken) _ a) ∙ e in
            let own : taken ≡ name = cc in
            let kept = kept_name (name_of es t) taken name (sym (cond-false (u == t) (Some taken) _ b) ∙ f) in
            absurd (both_ways (bytes_eq name taken) kept.1 ((bytes_eq-Decides name taken).1 (sym own)))
      ]
      | inr a ↦ elim (cases_Bool (u == t)) [
        | inl b ↦ let mine : Some taken ≡ Some name = sym (cond-true (u == t) (Some taken) _ b) ∙ f in
            let own : taken ≡ name = cc in
            let kept = kept_name (name_of es s) taken name (sym (cond-false (u == s) (Some taken) _ a) ∙ e) in
            absurd (both_ways (bytes_eq name taken) kept.1 ((bytes_eq-Decides name taken).1 (sym own)))
        | inr b ↦ names_apart es s t name (kept_name (name_of es s) taken name (sym (cond-false (u == s) (Some taken) _ a) ∙ e)).0
            (kept_name (name_of es t) taken name (sym (cond-false (u == t) (Some taken) _ b) ∙ f)).0
      ]
    ]

files_differ : (s t : ℕ) (own other : Option (List ℕ)) → (s ≡ t → ⊥) → ((name : List ℕ) → own ≡ Some name → other ≡ Some name → s ≡ t)
    → is_same (named_by s own) (named_by t other) ≡ false
files_differ s t None None apart shared = ne_eqb s t apart
files_differ s t None (Some b) apart shared = refl
files_differ s t (Some a) None apart shared = refl
files_differ s t (Some a) (Some b) apart shared = texts_differ a b (λ same. apart (shared a refl (ap (λ (n : List ℕ). Some n) (sym same))))

-- what is done to one slot is done to no other slot's file
pub about_other : (es : List Event) (slot other : ℕ) → (slot ≡ other → ⊥) → is_about es slot (goes_by es other) ≡ false
about_other es slot other apart = files_differ slot other (name_of es slot) (name_of es other) apart (names_apart es slot other)

either_true : (a b : Bool) → b ≡ true → (a || b) ≡ true
either_true true b e = refl
either_true false b e = e

-- a slot's name was bound
pub name_was_bound : (es : List Event) (slot : ℕ) (name : List ℕ) → name_of es slot ≡ Some name → was_bound es name ≡ true
name_was_bound [] slot name e = cc
name_was_bound (Written u p b ∷ es) slot name e = name_was_bound es slot name e
name_was_bound (Torn u p b ∷ es) slot name e = name_was_bound es slot name e
name_was_bound (Cut u n ∷ es) slot name e = name_was_bound es slot name e
name_was_bound (HalfCut u n ∷ es) slot name e = name_was_bound es slot name e
name_was_bound (Synced u ∷ es) slot name e = name_was_bound es slot name e
name_was_bound (Put b ∷ es) slot name e = name_was_bound es slot name e
name_was_bound (Bound u taken bytes ∷ es) slot name e =
    elim (cases_Bool (u == slot)) [
      | inl a ↦ let mine : Some taken ≡ Some name = sym (cond-true (u == slot) (Some taken) _ a) ∙ e in
          let own : taken ≡ name = cc in
          subst (λ (n : List ℕ). (bytes_eq taken n || was_bound es n) ≡ true) own (ap (λ (b : Bool). b || was_bound es taken) (same_text taken))
      | inr a ↦ let kept = kept_name (name_of es slot) taken name (sym (cond-false (u == slot) (Some taken) _ a) ∙ e) in
          either_true (bytes_eq taken name) (was_bound es name) (name_was_bound es slot name kept.0)
    ]

-- what is done to a slot is about another slot's file exactly where it is that slot
pub about_is : (es : List Event) (slot other : ℕ) → is_about es slot (goes_by es other) ≡ (slot == other)
about_is es slot other =
    elim (cases_Bool (slot == other)) [
      | inl k ↦ subst (λ (n : ℕ). is_about es slot (goes_by es n) ≡ true) (eqb-true slot other k) (about_own es slot) ∙ sym k
      | inr k ↦ about_other es slot other (eqb-false slot other k) ∙ sym k
    ]
