-- The making of a base where none is.
use Rattle.std.proofs.Common.{◌≡◌, ℕ, ◌≤◌, ◌&&◌, not, nat_le, ◌==◌, Bool, true, false, List, ◌++◌, ◌-◌, length, take, drop, sym, ◌∙◌, ap, subst, arith}
use Rattle.std.specs.List.{list_all}
use Rattle.std.proofs.lemmas.Bool.{ne_eqb, le-leb}
use Rattle.std.proofs.lemmas.List.{take_all, take-append-drop, length-drop}
use Rattle.cckd_shelf.specs.World.{IsSure}
use Rattle.cckd_shelf.specs.Seen.{Seen, Tells, Makes}
use Rattle.cckd_base.specs.Header.{is_present}
use Rattle.cckd_make.specs.Making.{HasOnly, after_laying}
use Rattle.cckd_tools.specs.Init.{IsMade, OfSure}

-- a file of a sector or more is there where its front isn't zero
pub there_by_front : (file front : List ℕ) (zeros : Bool) (len : ℕ) → len ≡ length file → 512 ≤ len → front ≡ take 512 file
    → zeros ≡ list_all (λ b. b == 0) front → not zeros ≡ is_present file
there_by_front file front zeros len e long f z =
    let some : (length file == 0) ≡ false = ne_eqb (length file) 0 (λ p. absurd (omega (arith, p, e, long))) in
    let filled : nat_le 512 (length file) ≡ true = le-leb 512 (length file) (omega (arith, e, long)) in
    ap not (z ∙ ap (list_all (λ b. b == 0)) f)
    ∙ sym (ap (λ p. not p && not (nat_le 512 (length file) && list_all (λ b. b == 0) (take 512 file))) some
    ∙ ap (λ p. not (p && list_all (λ b. b == 0) (take 512 file))) filled)

-- a file, cut behind its first sector
pub halves : (file : List ℕ) → take 512 file ++ take (length file - 512) (drop 512 file) ≡ file
halves file =
    ap (λ (s : List ℕ). take 512 file ++ s) (take_all (length file - 512) (drop 512 file) (omega (arith, length-drop 512 file))) ∙ take-append-drop 512 file

-- what was laid is made
pub is_made : (slot : ℕ) (front rest whole : List ℕ) (old new : Seen) → front ++ rest ≡ whole → (Tells old → HasOnly slot (front ++ rest) new.world)
    → Makes (after_laying slot front rest) old new → OfSure (IsMade slot whole new.world) old
is_made slot front rest whole old new e only made = λ told sure. record {
  only = subst (λ (f : List ℕ). HasOnly slot f new.world) e (only told);
  sure = subst IsSure (sym (made told)) sure;
}
