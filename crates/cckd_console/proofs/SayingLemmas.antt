-- What is said in several stretches.
use Rattle.std.proofs.Common.{◌≡◌, ℕ, max, List, [], ◌∷◌, ◌++◌, map, refl, sym, ◌∙◌, ap, subst, arith, append_assoc, append-nil}
use Rattle.std.proofs.lemmas.Grind.{flat_map-append}
use Rattle.std.proofs.lemmas.List.{map-append}
use Rattle.cckd_shelf.specs.declared.fault.Kind.TheVariants.{Takes}
use Rattle.cckd_shelf.specs.Faults.{Raises}
use Rattle.cckd_shelf.specs.Events.{output_of}
use Rattle.cckd_shelf.specs.Seen.{Seen, Tells}
use Rattle.cckd_script.specs.Text.{entry_text, script_text}
use Rattle.cckd_engine.specs.Lines.{HasFront}
use Rattle.cckd_console.specs.Served.{Served, shown, text_in, all_text, worst}
use Rattle.cckd_console.specs.Saying.{account_of, untaken, SaysAll, AreCut}
use Rattle.cckd_console.proofs.CountLemmas.{rose_none, rose_so_far, rose_and_one, rose_with, rose_with_put}

pub worst_twice : (xs ys : List Served) → worst (xs ++ ys) ≡ max (worst xs) (worst ys)
worst_twice [] ys = omega arith
worst_twice (x ∷ xs) ys = let rest = worst_twice xs ys in omega arith

pub text_twice : (xs ys : List Served) → all_text (xs ++ ys) ≡ all_text xs ++ all_text ys
text_twice xs ys = ap script_text (map-append shown xs ys) ∙ flat_map-append entry_text (map shown xs) (map shown ys)

pub text_one : (x : Served) → all_text (x ∷ []) ≡ text_in x
text_one x = append-nil (text_in x)

-- nothing was said
pub says_none : (s : Seen) → SaysAll (account_of []) s s 0
says_none s = record { put = λ t. sym (append-nil (output_of s.world.events)); asked = refl; counted = rose_none s.faults }

-- what was said of some, and of some behind them
module _ (a b c : Seen) (tells : Tells a → Tells b) (xs ys : List Served) (status : ℕ) (so_far : SaysAll (account_of xs) a b status) where
  pub says_all_twice : (answer : ℕ) → SaysAll (account_of ys) b c answer → SaysAll (account_of (xs ++ ys)) a c (max status answer)
  says_all_twice answer says = record {
    put = λ t.
        says.put (tells t) ∙ ap (λ (s : List ℕ). s ++ all_text ys) (so_far.put t)
        ∙ append_assoc (output_of a.world.events) (all_text xs) (all_text ys)
        ∙ ap (λ (s : List ℕ). output_of a.world.events ++ s) (sym (text_twice xs ys));
    asked = omega (arith, so_far.asked, says.asked, worst_twice xs ys);
    counted = rose_with xs ys a.faults b.faults c.faults so_far.counted says.counted;
  }

  pub cut_twice : AreCut ys b c → AreCut (xs ++ ys) a c
  cut_twice says = record {
    earlier = xs ++ says.earlier;
    last = says.last;
    are = ap (λ (s : List Served). xs ++ s) says.are ∙ sym (append_assoc xs says.earlier (says.last ∷ []));
    said = record {
      front = λ t.
          subst (λ (before : List ℕ). HasFront before (text_in says.last) (output_of c.world.events))
          (ap (λ (s : List ℕ). s ++ all_text says.earlier) (so_far.put t)
          ∙ append_assoc (output_of a.world.events) (all_text xs) (all_text says.earlier)
          ∙ ap (λ (s : List ℕ). output_of a.world.events ++ s) (sym (text_twice xs says.earlier)))
          (says.said.front (tells t));
      counted = rose_with_put xs ys a.faults b.faults c.faults so_far.counted says.said.counted;
    };
  }

  -- nothing is said while a script is taken
  pub says_still : (Tells a → c.world.events ≡ b.world.events) → c.faults ≡ b.faults → SaysAll (account_of xs) a c status
  says_still silent still = record {
    put = λ t. ap output_of (silent t) ∙ so_far.put t;
    asked = so_far.asked;
    counted = rose_so_far (account_of xs).failed a.faults b.faults c.faults so_far.counted still;
  }

  pub says_untaken : (Tells a → c.world.events ≡ b.world.events) → Raises Takes b.faults c.faults
      → SaysAll (untaken (account_of xs)) a c status
  says_untaken silent rose = record {
    put = λ t. ap output_of (silent t) ∙ so_far.put t;
    asked = so_far.asked;
    counted = rose_and_one Takes (account_of xs).failed a.faults b.faults c.faults so_far.counted rose;
  }
