-- Files of which a slot isn't there, and what the writes of a making leave of them.
use Rattle.std.proofs.Common.{◌≡◌, ℕ, ◌+◌, ◌-◌, ◌≤◌, ◌&&◌, not, nat_le, ◌==◌, Bool, true, false, List, [], ◌++◌, length, take, replicate, refl, sym, ◌∙◌, ap, subst, inl, inr, arith}
use Rattle.std.specs.List.{list_all}
use Rattle.std.proofs.lemmas.Bool.{le-leb}
use Rattle.std.proofs.lemmas.List.{append-nil, drop_all, take_at, take_all, drop_at, length-append}
use Rattle.cckd_shelf.specs.Files.{overlaid}
use Rattle.cckd_shelf.specs.Outcomes.{WriteLeaves}
use Rattle.cckd_shelf.proofs.OutcomeLemmas.{length_overlaid, overlaid_within_range}
use Rattle.cckd_shelf.proofs.SectorLemmas.{touches, part_untouched}
use Rattle.cckd_make.specs.Making.{IsAbsent, IsAbsentOr}

-- a first sector of zeros
pub record IsBlank (zeros : List ℕ) : Type 0 where
  pub long : length zeros ≡ 512
  pub all : list_all (λ b. b == 0) zeros ≡ true

absent_by : (some long zero : Bool) → long ≡ true → zero ≡ true → (some && not (long && zero)) ≡ false
absent_by true long zero e f = λ i. not (e i && f i)
absent_by false long zero e f = refl

-- a file that begins with it
pub blank_absent : (zeros file : List ℕ) → IsBlank zeros → 512 ≤ length file → take 512 file ≡ zeros → IsAbsent file
blank_absent zeros file b long front =
    absent_by (not (length file == 0)) (nat_le 512 (length file)) (list_all (λ b. b == 0) (take 512 file))
    (le-leb 512 (length file) long) (ap (list_all (λ b. b == 0)) front ∙ b.all)

-- an empty one
pub empty_absent : (file : List ℕ) → IsAbsent (take 0 file)
empty_absent file = refl

-- one in which it was put over, or not
pub blanked : (zeros was file : List ℕ) → IsBlank zeros → IsAbsent was → WriteLeaves 0 zeros was file → IsAbsent file
blanked zeros was file b absent leaves =
    elim (leaves.whole (omega (arith, b.long))) [
      | inl same ↦ subst IsAbsent (sym same) absent
      | inr made ↦ subst IsAbsent (sym made) (blank_absent zeros (overlaid was 0 zeros) b (omega (arith, length_overlaid was 0 zeros, b.long))
          (ap (λ (n : ℕ). take n (overlaid was 0 zeros)) (sym b.long) ∙ overlaid_within_range was 0 zeros))
    ]

-- one with any bytes behind it
pub rest_absent : (zeros rest file : List ℕ) → IsBlank zeros → WriteLeaves 512 rest zeros file → IsAbsent file
rest_absent zeros rest file b leaves =
    blank_absent zeros file b (omega (arith, b.long, leaves.no_shorter))
    (part_untouched zeros file 512 (length rest) 0 512 (touches 512 rest zeros file leaves) (omega (arith, b.long)) (inl (omega arith))
    ∙ take_all 512 zeros (omega (arith, b.long)))

pub whole_absent : (zeros rest : List ℕ) → IsBlank zeros → IsAbsent (zeros ++ rest)
whole_absent zeros rest b =
    blank_absent zeros (zeros ++ rest) b (omega (arith, length-append zeros rest, b.long)) (ap (λ (n : ℕ). take n (zeros ++ rest)) (sym b.long) ∙ take_at zeros rest (length zeros) refl)

-- bytes put to an empty file, and behind all of a file
pub put_first : (zeros file : List ℕ) → overlaid (take 0 file) 0 zeros ≡ zeros
unfolding overlaid
put_first zeros file = ap (λ (s : List ℕ). zeros ++ s) (drop_all (0 + length zeros) [] (omega arith)) ∙ append-nil zeros

pub put_behind : (a b : List ℕ) (n : ℕ) → length a ≡ n → overlaid a n b ≡ a ++ b
unfolding overlaid
put_behind a b n long =
    (λ i. take_at a (replicate (n - length a) 0) n long i ++ (b ++ drop_all (n + length b) a (omega (arith, long)) i)) ∙ ap (λ (s : List ℕ). a ++ s) (append-nil b)

-- the first sector of a file put anew
pub put_front : (zeros front rest : List ℕ) → length zeros ≡ 512 → length front ≡ 512 → overlaid (zeros ++ rest) 0 front ≡ front ++ rest
unfolding overlaid
put_front zeros front rest long e = ap (λ (s : List ℕ). front ++ s) (drop_at zeros rest (0 + length front) (omega (arith, long, e)))

-- a sector in front was put anew, or not
pub fronted : (zeros front rest file : List ℕ) → IsBlank zeros → length front ≡ 512 → WriteLeaves 0 front (zeros ++ rest) file → IsAbsentOr (front ++ rest) file
fronted zeros front rest file b long leaves =
    elim (leaves.whole (omega (arith, long))) [
      | inl same ↦ inl (subst IsAbsent (sym same) (whole_absent zeros rest b))
      | inr made ↦ inr (made ∙ put_front zeros front rest b.long long)
    ]
