-- Which slots are there, one after another.
use Rattle.std.proofs.Common.{◌≡◌, ⊎_elim, ℕ, ◌+◌, ◌<◌, ◌≤◌, ◌==◌, nat_le, Bool, true, false, not, ◌&&◌, List, length, take, refl, sym, ◌∙◌, ap, subst, arith}
use Rattle.std.specs.List.{list_all}
use Rattle.std.proofs.lemmas.Bool.{ne_eqb, le-leb, cases_lt}
use Rattle.cckd_shelf.specs.Seen.{Seen, Tells, Stays}
use Rattle.cckd_shelf.specs.World.{World, IsSure, file_of}
use Rattle.cckd_base.specs.Header.{is_present}
use Rattle.cckd_layer.specs.Reads.{OfFile}
use Rattle.cckd_stack.specs.Stacked.{OfFiles}
use Rattle.cckd_stack.specs.Mounting.{IsGap}

-- a file is there where its front isn't zero
pub there_by_front : (file front : List ℕ) (zeros : Bool) (len : ℕ) → len ≡ length file → 512 ≤ len → front ≡ take 512 file
    → zeros ≡ list_all (λ b. b == 0) front → not zeros ≡ is_present file
there_by_front file front zeros len e long f z =
    let some : (length file == 0) ≡ false = ne_eqb (length file) 0 (λ p. absurd (omega (arith, p, e, long))) in
    let filled : nat_le 512 (length file) ≡ true = le-leb 512 (length file) (omega (arith, e, long)) in
    ap not (z ∙ ap (list_all (λ b. b == 0)) f)
    ∙ sym (ap (λ p. not p && not (nat_le 512 (length file) && list_all (λ b. b == 0) (take 512 file))) some
    ∙ ap (λ p. not (p && list_all (λ b. b == 0) (take 512 file))) filled)

-- The slots below a number were looked at: the first ones are there, and the others aren't.
pub record HasLooked (a b : Seen) (number count : ℕ) : Type 0 where
  pub some : 1 ≤ count
  pub low : count ≤ number
  pub kept : Stays a b
  pub counts : b.faults ≡ a.faults
  pub there : Tells a → IsSure a.world → (k : ℕ) → k < count → is_present (file_of a.world k) ≡ true
  pub none : Tells a → IsSure a.world → (k : ℕ) → count ≤ k → k < number → is_present (file_of a.world k) ≡ false

pub base_looked : (a : Seen) → OfFile 0 (λ file. is_present file ≡ true) a → HasLooked a a 1 1
base_looked a base = record {
  some = omega arith;
  low = omega arith;
  kept = λ told. refl;
  counts = refl;
  there = λ told sure k low. let e : 0 ≡ k = omega (arith, low) in subst (λ (n : ℕ). is_present (file_of a.world n) ≡ true) e (base told sure);
  none = λ told sure k high low. absurd (omega (arith, high, low));
}

module _ (a b c : Seen) (number count : ℕ) (tells : Tells a → Tells b) (looked : HasLooked a b number count) (there : Bool) (slot : ℕ) (slot_is : slot ≡ number) (found : OfFile slot (λ file. there ≡ is_present file) b)
    (kept : Stays b c) (counts : c.faults ≡ b.faults)
  where
    here : Tells a → IsSure a.world → there ≡ is_present (file_of a.world number)
    here told sure =
        let same = looked.kept told in
        subst (λ (w : World). there ≡ is_present (file_of w number)) same
        (subst (λ (k : ℕ). there ≡ is_present (file_of b.world k)) slot_is (found (tells told) (subst IsSure (sym same) sure)))

    -- one that isn't there
    pub looked_none : there ≡ false → HasLooked a c (number + 1) count
    looked_none e = record {
      some = looked.some;
      low = omega (arith, looked.low);
      kept = λ told. kept (tells told) ∙ looked.kept told;
      counts = counts ∙ looked.counts;
      there = looked.there;
      none = λ told sure k high low.
          ⊎_elim
          (λ (less : k < number). looked.none told sure k high less)
          (λ (more : number ≤ k). let at : number ≡ k = omega (arith, more, low) in subst (λ (n : ℕ). is_present (file_of a.world n) ≡ false) at (sym (here told sure) ∙ e))
          (cases_lt k number);
    }

    -- one that is, where all below it are
    pub looked_there : there ≡ true → number ≤ count → HasLooked a c (number + 1) (count + 1)
    looked_there e all = record {
      some = omega (arith, looked.some);
      low = omega (arith, looked.low);
      kept = λ told. kept (tells told) ∙ looked.kept told;
      counts = counts ∙ looked.counts;
      there = λ told sure k low.
          ⊎_elim
          (λ (less : k < count). looked.there told sure k less)
          (λ (more : count ≤ k). let at : number ≡ k = omega (arith, more, low, all, looked.low) in subst (λ (n : ℕ). is_present (file_of a.world n) ≡ true) at (sym (here told sure) ∙ e))
          (cases_lt k count);
      none = λ told sure k high low. absurd (omega (arith, high, low, looked.low, all));
    }

    -- one that is above one that isn't
    pub looked_gap : there ≡ true → count < number → number ≤ 8 → OfFiles (λ files. IsGap files number) a
    looked_gap e above within = λ told sure. record {
      count = count;
      some = looked.some;
      there = looked.there told sure;
      none = looked.none told sure;
      above = above;
      within = within;
      is = sym (here told sure) ∙ e;
    }
