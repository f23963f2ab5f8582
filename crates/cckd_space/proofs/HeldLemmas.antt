-- What `Blocks` keep from one call to the next.
use Rattle.std.proofs.Common.{◌≡◌, ℕ, ◌+◌, ◌-◌, ◌*◌, ◌<◌, ◌≤◌, ◌++◌, ◌∷◌, [], min, Bool, List, Option, Some, None, IfNone, length, refl, sym, ◌∙◌, ap, subst, arith}
use Rattle.cckd_space.specs.declared.piece.Piece.{Piece}
use Rattle.cckd_space.specs.Plan.{Plan, Becomes}
use Rattle.cckd_space.specs.Blocks.{AreFilled, AreFit, AreHeld, Held, Holds, whole}
use Rattle.std.proofs.lemmas.List.{append_assoc, append-nil}
use Rattle.std.specs.Option.{option_map}
use Rattle.cckd_space.specs.Pieces.{aligned_up, appended, cut, first, free_run, replaced, reserved_in, reserved_piece, trimmed, used_end}
use Rattle.cckd_space.proofs.FirstLemmas.{replaced_none}
use Rattle.cckd_space.proofs.EndLemmas.{free_run_none}
use Rattle.cckd_space.proofs.FitLemmas.{fit_filled}

-- the pieces are those, and the spare ones what the slots leave
pub held : (old : Held) (was now ps : List Piece) (slots : ℕ) → record { pieces = was; spare = slots - length was } ≡ old → now ≡ ps → length was ≤ slots → length now ≤ slots
    → Holds old (record { pieces = now; spare = slots - length now }) ps
held old was now ps slots v e a b =
    let p = ap (λ (h : Held). h.spare) v in
    let q = ap (λ (h : Held). length h.pieces) v in
    let n = ap length e in
    record { now = e; spare = omega (arith, p, q, n, a, b) }

-- blocks that are as many as before, with room for as many pieces
pub still_held : (bs now : List (List Piece)) (slots full c s rb rs c2 s2 rb2 rs2 : ℕ) → AreHeld bs slots full c s rb rs → AreFit full now → length (whole now) ≤ slots → c2 + s2 ≡ c + s → c2 + s2 ≤ min rb2 rs2
    → AreHeld now slots full c2 s2 rb2 rs2
still_held bs now slots full c s rb rs c2 s2 rb2 rs2 h fit few total room = record {
  least = h.least;
  most = h.most;
  fit = fit;
  fewer = few;
  enough = subst (λ (n : ℕ). 2 * slots + (full + 1) < (full + 1) * n) (sym total) h.enough;
  room = room;
  small = h.small;
}

-- enough for a piece more
pub ready : (bs : List (List Piece)) (slots full c s rb rs : ℕ) → AreHeld bs slots full c s rb rs → 2 * length (whole bs) + (full + 1) < (full + 1) * (c + s)
ready bs slots full c s rb rs h = omega (arith, h.fewer, h.enough)

pub held_filled : (bs : List (List Piece)) (slots full c s rb rs : ℕ) → AreHeld bs slots full c s rb rs → AreFilled bs
held_filled bs slots full c s rb rs h = fit_filled full bs h.fit

-- the end cut off, free bytes up to a place put in its stead, and bytes reserved there
pub appended_held : (old one two three : Held) (need size end place : ℕ) (r : Piece) → Holds old one (cut 0 size old.pieces) → Holds one two (one.pieces ++ free_run end place) → Holds two three (two.pieces ++ r ∷ [])
    → end ≡ used_end old.pieces → place ≡ aligned_up end → r ≡ reserved_piece place need → Holds old three (appended need old.pieces)
appended_held old one two three need size end place r a b c e p q =
    let ps = old.pieces in
    let at = used_end ps in
    let none : free_run at (min 0 size) ≡ [] = free_run_none at (min 0 size) (omega arith) in
    let first : one.pieces ≡ trimmed ps = a.now ∙ (ap (λ (l : List Piece). trimmed ps ++ l) none ∙ append-nil (trimmed ps)) in
    let here : place ≡ aligned_up at = p ∙ ap aligned_up e in
    let run : free_run end place ≡ free_run at (aligned_up at) = ap (λ (n : ℕ). free_run n place) e ∙ ap (free_run at) here in
    let second : two.pieces ≡ trimmed ps ++ free_run at (aligned_up at) = b.now ∙ (ap (λ (l : List Piece). l ++ free_run end place) first ∙ ap (λ (l : List Piece). trimmed ps ++ l) run) in
    let last : r ≡ reserved_piece (aligned_up at) need = q ∙ ap (λ (n : ℕ). reserved_piece n need) here in
    let third : three.pieces ≡ appended need ps = c.now
    ∙ (ap (λ (l : List Piece). l ++ r ∷ []) second
    ∙ (ap (λ (x : Piece). (trimmed ps ++ free_run at (aligned_up at)) ++ x ∷ []) last ∙ append_assoc (trimmed ps) (free_run at (aligned_up at)) (reserved_piece (aligned_up at) need ∷ []))) in
    record {
      now = third;
      spare = omega (arith, a.spare, b.spare, c.spare, ap length a.now, ap length b.now, ap length c.now, ap length third);
    }

-- the plan of a file once its pieces were changed
pub becomes : (change : List Piece → List Piece) (old new : Held) (was : Plan) (size limit now then : ℕ) → record { pieces = old.pieces; size = size; limit = limit; spare = old.spare } ≡ was → Holds old new (change old.pieces) → now ≡ then
    → Becomes was (record { pieces = new.pieces; size = now; limit = limit; spare = new.spare }) (change was.pieces) then
becomes change old new was size limit now then v h e =
    let same = ap (λ (p : Plan). p.pieces) v in
    let n = h.now ∙ ap change same in
    record {
      made = n;
      sized = e;
      limit = ap (λ (p : Plan). p.limit) v;
      spare = omega (arith, h.spare, ap (λ (l : List Piece). length (change l)) same, ap length same, ap (λ (p : Plan). p.spare) v);
    }

-- and where they were not
pub unchanged : (old new : Held) (ps : List Piece) → Holds old new ps → ps ≡ old.pieces → new ≡ old
unchanged old new ps h e =
    let n : new.pieces ≡ old.pieces = h.now ∙ e in
    let s : new.spare ≡ old.spare = omega (arith, h.spare, ap length e) in
    ap (λ (l : List Piece). record { pieces = l; spare = new.spare }) n ∙ ap (λ (k : ℕ). record { pieces = old.pieces; spare = k }) s

none_mapped : {A B : Type 0} (f : A → B) (o : Option A) → option_map f o ≡ None → o ≡ None
none_mapped f None e = refl
none_mapped f (Some x) e = absurd cc

-- no place, no piece
pub no_place : (test : Piece → Bool) (ps : List Piece) → option_map (λ p. aligned_up p.pos) (first test ps) ≡ None → first test ps ≡ None
no_place test ps e = none_mapped (λ (p : Piece). aligned_up p.pos) (first test ps) e

-- where nothing was placed the plan is as it was
pub placed_none : (o : Option ℕ) (test : Piece → Bool) (need : ℕ) (old new : Held) (was : Plan) (size limit : ℕ) → record { pieces = old.pieces; size = size; limit = limit; spare = old.spare } ≡ was
    → o ≡ option_map (λ p. aligned_up p.pos) (first test old.pieces) → Holds old new (replaced test (reserved_in need) old.pieces) → IfNone o (record { pieces = new.pieces; size = size; limit = limit; spare = new.spare } ≡ was)
placed_none None test need old new was size limit v e h =
    let same = replaced_none test (reserved_in need) old.pieces (no_place test old.pieces (sym e)) in
    let u = unchanged old new (replaced test (reserved_in need) old.pieces) h same in
    ap (λ (g : Held). record { pieces = g.pieces; size = size; limit = limit; spare = g.spare }) u ∙ v
placed_none (Some n) test need old new was size limit v e h = tt
