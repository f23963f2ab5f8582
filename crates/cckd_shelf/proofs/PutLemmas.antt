-- How the output grows, and what that tells at each moment.
use Rattle.std.proofs.Common.{◌≡◌, ℕ, ◌+◌, ◌-◌, ◌≤◌, List, [], ◌∷◌, ◌++◌, length, take, drop, refl, sym, ◌∙◌, ap, subst, arith, append_assoc, append-nil, length-append, length-drop}
use Rattle.std.proofs.Math.Seq.{take-add, take-length}
use Rattle.cckd_shelf.specs.Events.{Event, Written, Torn, Cut, HalfCut, Synced, Put, Bound, name_of, file_now, is_sure, output_of}
use Rattle.cckd_shelf.specs.World.{World, after_put}
use Rattle.cckd_shelf.specs.Seen.{Seen, Tells, Makes}
use Rattle.cckd_shelf.specs.Outcomes.{IsCrashImage, IsOutcome, Along, AtEach}
use Rattle.cckd_shelf.specs.Frame.{puts, joined, OnlyPuts, PutsAll, PutsSome}
use Rattle.cckd_shelf.proofs.WorldLemmas.{output_grows}

none_of_length : {A : Type 0} (xs : List A) → length xs ≡ 0 → xs ≡ []
none_of_length [] e = refl
none_of_length (x ∷ xs) e = absurd (omega (arith, e))

front_is : (xs ys zs : List ℕ) → (xs ++ ys) ++ zs ≡ xs → xs ++ ys ≡ xs
front_is xs ys zs e =
    let none : ys ≡ [] = none_of_length ys (omega (arith, ap length e, length-append (xs ++ ys) zs, length-append xs ys)) in
    ap (λ (s : List ℕ). xs ++ s) none ∙ append-nil xs

along_silent : (Q : List Event → Type 0) (newer old : List Event) → output_of (newer ++ old) ≡ output_of old → Along Q newer old
    → Along (λ es. Q es × (output_of es ≡ output_of old)) newer old
along_silent Q [] old e h = (h, refl)
along_silent Q (Written s p b ∷ newer) old e h = (along_silent Q newer old e h.0, (h.1, e))
along_silent Q (Torn s p b ∷ newer) old e h = (along_silent Q newer old e h.0, (h.1, e))
along_silent Q (Cut s n ∷ newer) old e h = (along_silent Q newer old e h.0, (h.1, e))
along_silent Q (HalfCut s n ∷ newer) old e h = (along_silent Q newer old e h.0, (h.1, e))
along_silent Q (Synced s ∷ newer) old e h = (along_silent Q newer old e h.0, (h.1, e))
along_silent Q (Put bytes ∷ newer) old e h =
    let rest = output_grows newer old in
    (along_silent Q newer old (rest.1 ∙ front_is (output_of old) rest.0 bytes (ap (λ (s : List ℕ). s ++ bytes) (sym rest.1) ∙ e)) h.0, (h.1, e))
along_silent Q (Bound s name bytes ∷ newer) old e h = (along_silent Q newer old e h.0, (h.1, e))

-- where nothing was put in all, nothing was put at any moment
pub silently : (Q : List Event → Type 0) (old new : List Event) → output_of new ≡ output_of old → AtEach old new Q
    → AtEach old new (λ es. Q es × (output_of es ≡ output_of old))
silently Q old new e h = record {
  newer = h.newer;
  grown = h.grown;
  each = along_silent Q h.newer old (ap output_of (sym h.grown) ∙ e) h.each;
}

-- pieces that are put

pub output_puts : (pieces : List (List ℕ)) (es : List Event) → output_of (puts pieces ++ es) ≡ output_of es ++ joined pieces
output_puts [] es = sym (append-nil (output_of es))
output_puts (piece ∷ earlier) es = ap (λ (s : List ℕ). s ++ piece) (output_puts earlier es) ∙ append_assoc (output_of es) (joined earlier) piece

pub name_at_puts : (pieces : List (List ℕ)) (es : List Event) (slot : ℕ) → name_of (puts pieces ++ es) slot ≡ name_of es slot
name_at_puts [] es slot = refl
name_at_puts (piece ∷ earlier) es slot = name_at_puts earlier es slot

pub file_at_puts : (pieces : List (List ℕ)) (es : List Event) (slot : ℕ) → file_now (puts pieces ++ es) slot ≡ file_now es slot
file_at_puts [] es slot = refl
file_at_puts (piece ∷ earlier) es slot = file_at_puts earlier es slot

pub sure_at_puts : (pieces : List (List ℕ)) (es : List Event) → is_sure (puts pieces ++ es) ≡ is_sure es
sure_at_puts [] es = refl
sure_at_puts (piece ∷ earlier) es = sure_at_puts earlier es

pub outcome_at_puts : (pieces : List (List ℕ)) (es : List Event) (slot : ℕ) (file : List ℕ) → IsOutcome (puts pieces ++ es) slot file → IsOutcome es slot file
outcome_at_puts [] es slot file h = h
outcome_at_puts (piece ∷ earlier) es slot file h = outcome_at_puts earlier es slot file h

pub image_at_puts : (pieces : List (List ℕ)) (es : List Event) (files : ℕ → List ℕ) → IsCrashImage (puts pieces ++ es) files → IsCrashImage es files
image_at_puts pieces es files image = λ slot. outcome_at_puts pieces es slot (files slot) (image slot)

along_puts : (Q : List Event → Type 0) (pieces : List (List ℕ)) (es : List Event) (text : List ℕ) → joined pieces ≡ text
    → ((ps : List (List ℕ)) (more : List ℕ) → joined ps ++ more ≡ text → Q (puts ps ++ es)) → Along Q (puts pieces) es
along_puts Q [] es text is step = step [] text refl
along_puts Q (piece ∷ earlier) es text is step = (
  along_puts Q earlier es (joined earlier) refl
      (λ ps more e. step ps (more ++ piece) (sym (append_assoc (joined ps) more piece) ∙ ap (λ (s : List ℕ). s ++ piece) e ∙ is)),
  step (piece ∷ earlier) [] (append-nil (joined earlier ++ piece) ∙ is),
)

-- at each moment a front of the text was put
pub at_puts : (Q : List Event → Type 0) (text : List ℕ) (old new : World) → OnlyPuts text old new
    → ((ps : List (List ℕ)) (more : List ℕ) → joined ps ++ more ≡ text → Q (puts ps ++ old.events)) → AtEach old.events new.events Q
at_puts Q text old new h step = record { newer = puts h.pieces; grown = h.events; each = along_puts Q h.pieces old.events text h.text_is step }

-- what is put in all
pub puts_output : (text : List ℕ) (old new : World) → OnlyPuts text old new → output_of new.events ≡ output_of old.events ++ text
puts_output text old new h = ap output_of h.events ∙ (output_puts h.pieces old.events ∙ ap (λ (s : List ℕ). output_of old.events ++ s) h.text_is)

pub puts_nothing : (w : World) → OnlyPuts [] w w
puts_nothing w = record { pieces = []; events = refl; text_is = refl; files = refl; script = refl }

-- one piece more
pub puts_more : (text piece : List ℕ) (old now next : World) → OnlyPuts text old now → next ≡ after_put piece now → OnlyPuts (text ++ piece) old next
puts_more text piece old now next h e =
    subst (OnlyPuts (text ++ piece) old) (sym e) (record {
      pieces = piece ∷ h.pieces;
      events = ap (λ (es : List Event). Put piece ∷ es) h.events;
      text_is = ap (λ (s : List ℕ). s ++ piece) h.text_is;
      files = h.files;
      script = h.script;
    })

-- the first n bytes of a text were put, and no call failed
pub record PutSoFar (text : List ℕ) (n : ℕ) (old now : Seen) : Type 0 where
  pub within : n ≤ length text
  pub put : Tells old → OnlyPuts (take n text) old.world now.world
  pub faults : now.faults ≡ old.faults

pub put_first : (text : List ℕ) (s : Seen) → PutSoFar text 0 s s
put_first text s = record { within = omega arith; put = λ told. puts_nothing s.world; faults = refl }

pub put_step : (text : List ℕ) (n m : ℕ) (old now next : Seen) → (Tells old → Tells now) → PutSoFar text n old now → m ≤ length text - n
    → Makes (after_put (take m (take (length text - n) (drop n text)))) now next → next.faults ≡ now.faults → PutSoFar text (n + m) old next
put_step text n m old now next tells h fits made still =
    let rest : take (length text - n) (drop n text) ≡ drop n text = let e = length-drop n text in rw (← e) (take-length (drop n text)) in
    record {
      within = omega (arith, h.within, fits);
      put = λ told.
          subst (λ (s : List ℕ). OnlyPuts s old.world next.world) (ap (λ (s : List ℕ). take n text ++ take m s) rest ∙ sym (take-add n m text))
          (puts_more (take n text) (take m (take (length text - n) (drop n text))) old.world now.world next.world (h.put told) (made (tells told)));
      faults = still ∙ h.faults;
    }

pub put_front : (text : List ℕ) (n : ℕ) (old now next : Seen) → PutSoFar text n old now → (Tells old → next.world ≡ now.world) → PutsSome text old next
put_front text n old now next h same = λ told.
    record { count = n; within = h.within; put = subst (OnlyPuts (take n text) old.world) (sym (same told)) (h.put told) }

pub put_whole : (text : List ℕ) (n : ℕ) (old now : Seen) → PutSoFar text n old now → length text ≤ n → PutsAll text old now
put_whole text n old now h end = λ told.
    let all : n ≡ length text = omega (arith, h.within, end) in
    subst (λ (s : List ℕ). OnlyPuts s old.world now.world) (ap (λ (k : ℕ). take k text) all ∙ take-length text) (h.put told)
