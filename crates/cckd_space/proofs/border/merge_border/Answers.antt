use Rattle.std.proofs.Common.{◌≡◌, ℕ, suc, ◌+◌, ◌<◌, true, [], List, length, inl, inr, sym, ◌∙◌, ap, subst, arith, add-one}
use Rattle.std.specs.List.{remove}
use Rattle.std.proofs.lemmas.List.{get_or_read}
use Rattle.cckd_space.specs.declared.piece.Piece.{Piece}
use Rattle.cckd_space.specs.Pieces.{merged}
use Rattle.cckd_space.specs.Blocks.{whole, block_at, AreClosed, AreFit, AreFitBut, AreTidy, starts_free}
use Rattle.cckd_space.proofs.BlockLemmas.{closed_by, closed_is, tidy_by, tidy_without, fewer_by, closed_front, closed_without, whole_without, nil_of, behind_len, some_start}
use Rattle.cckd_space.proofs.FitLemmas.{but_at, fit_dropped, fit_of_but}
use Rattle.cckd_space.proofs.KnitLemmas.{fit_closed}
use Rattle.cckd_space.proofs.border.merge_border.Goals as goal

-- what the border's closing leaves
now_is : (c : goal.After-drop_empty) → c.close_border.new.blocks.items ≡ closed_by c.args.at c.args.blocks.now.items
now_is c = c.close_border.ensures.items c.if-not-close_border.false ∙ closed_is c.args.blocks.now.items c.args.at

left_is : (c : goal.After-drop_empty) → c.drop_empty.new.blocks.items ≡ remove (closed_by c.args.at c.args.blocks.now.items) (suc c.args.at)
left_is c = c.drop_empty.ensures.items ∙ (ap (λ (l : List (List Piece)). remove l (c.args.at + 1)) (now_is c) ∙ ap (λ (k : ℕ). remove (closed_by c.args.at c.args.blocks.now.items) k) (add-one c.args.at))

same_whole : (c : goal.After-drop_empty) → whole c.drop_empty.new.blocks.items ≡ whole c.close_border.new.blocks.items
same_whole c =
    let bs = c.close_border.new.blocks.items in
    let w : c.args.at + 1 < length bs = omega (arith, c.requires.within, c.close_border.ensures.len) in
    let b = get_or_read bs (c.args.at + 1) c.index.result.now w c.index.ensures [] in
    let n = c.count.ensures.count in
    let e = nil_of (block_at bs (c.args.at + 1)) (omega (arith, n, ap length b, c.if-count-eq0.true)) in
    ap whole c.drop_empty.ensures.items ∙ whole_without bs (c.args.at + 1) w e

pub returns-then-count-eq0-clause-same : goal.returns-then-count-eq0-clause-same
returns-then-count-eq0-clause-same c = ap merged (same_whole c) ∙ c.close_border.ensures.same

pub returns-then-count-eq0-clause-tidy : goal.returns-then-count-eq0-clause-tidy
returns-then-count-eq0-clause-tidy c =
    let both = c.close_border.ensures.both c.if-not-close_border.false in
    subst (λ (bs : List (List Piece)). AreTidy bs) (sym (left_is c)) (tidy_without c.args.blocks.now.items c.args.at (omega (arith, c.requires.within)) both.0 c.requires.tidy)

pub returns-then-count-eq0-clause-closed : goal.returns-then-count-eq0-clause-closed
returns-then-count-eq0-clause-closed c =
    let both = c.close_border.ensures.both c.if-not-close_border.false in
    let bs = c.close_border.new.blocks.items in
    let w : suc c.args.at < length bs = omega (arith, c.requires.within, c.close_border.ensures.len) in
    let front : AreClosed c.args.at bs = subst (λ (l : List (List Piece)). AreClosed c.args.at l) (sym (now_is c)) (closed_front c.args.blocks.now.items c.args.at c.args.at (omega (arith, c.requires.within)) both.0 (omega arith) c.requires.closed) in
    let left : c.drop_empty.new.blocks.items ≡ remove bs (suc c.args.at) = c.drop_empty.ensures.items ∙ ap (λ (k : ℕ). remove bs k) (add-one c.args.at) in
    subst (λ (l : List (List Piece)). AreClosed c.args.at l) (sym left) (closed_without bs c.args.at c.args.at w (omega arith) front)

pub returns-then-count-eq0-clause-fewer : goal.returns-then-count-eq0-clause-fewer
returns-then-count-eq0-clause-fewer c =
    let both = c.close_border.ensures.both c.if-not-close_border.false in
    let e : suc c.args.at ≡ c.args.at + 1 = omega arith in
    let f = fewer_by c.args.blocks.now.items c.args.at (omega (arith, c.requires.within)) (subst (λ (k : ℕ). starts_free (block_at c.args.blocks.now.items k) ≡ true) (sym e) both.1) in
    let a = ap length (same_whole c) in
    let b = ap (λ (l : List (List Piece)). length (whole l)) (now_is c) in
    λ _. omega (arith, f, a, b)

pub returns-else-count-eq0-clause-tidy : goal.returns-else-count-eq0-clause-tidy
returns-else-count-eq0-clause-tidy c =
    let both = c.close_border.ensures.both c.if-not-close_border.false in
    let old = c.args.blocks.now.items in
    let bs = c.close_border.new.blocks.items in
    let now : bs ≡ closed_by c.args.at old = c.close_border.ensures.items c.if-not-close_border.false ∙ closed_is old c.args.at in
    let w : c.args.at + 1 < length bs = omega (arith, c.requires.within, c.close_border.ensures.len) in
    let b = ap length (get_or_read bs (c.args.at + 1) c.index.result.now w c.index.ensures []) in
    let s = ap (λ (l : List (List Piece)). length (block_at l (c.args.at + 1))) now in
    let t = ap (λ (k : ℕ). length (block_at (closed_by c.args.at old) k)) (add-one c.args.at) in
    let n = c.count.ensures.count in
    let m : 1 < length (block_at old (suc c.args.at)) = elim (behind_len old c.args.at (omega (arith, c.requires.within))) [
      | inl l ↦ omega (arith, l, b, s, t, n, c.if-count-eq0.false)
      | inr z ↦
          let e : suc c.args.at ≡ c.args.at + 1 = omega arith in
          let some = some_start (block_at old (suc c.args.at)) (subst (λ (k : ℕ). starts_free (block_at old k) ≡ true) (sym e) both.1) in
          absurd (omega (arith, z, some))
    ] in
    subst (λ (l : List (List Piece)). AreTidy l) (sym now) (tidy_by old c.args.at (omega (arith, c.requires.within)) both.0 m c.requires.tidy)

pub returns-else-count-eq0-clause-fewer : goal.returns-else-count-eq0-clause-fewer
returns-else-count-eq0-clause-fewer c =
    let both = c.close_border.ensures.both c.if-not-close_border.false in
    let old = c.args.blocks.now.items in
    let now = c.close_border.ensures.items c.if-not-close_border.false ∙ closed_is old c.args.at in
    let e : suc c.args.at ≡ c.args.at + 1 = omega arith in
    let f = fewer_by old c.args.at (omega (arith, c.requires.within)) (subst (λ (k : ℕ). starts_free (block_at old k) ≡ true) (sym e) both.1) in
    let b = ap (λ (l : List (List Piece)). length (whole l)) now in
    λ _. omega (arith, f, b)

pub returns-then-count-eq0-clause-fit : goal.returns-then-count-eq0-clause-fit
returns-then-count-eq0-clause-fit c = λ full f.
    let old = c.args.blocks.now.items in
    subst (AreFit full) (sym (left_is c)) (fit_dropped full 0 full (closed_by c.args.at old) (suc c.args.at) (fit_closed full old c.args.at (omega (arith, c.requires.within)) f))

pub returns-else-count-eq0-clause-fit : goal.returns-else-count-eq0-clause-fit
returns-else-count-eq0-clause-fit c = λ full f.
    let old = c.args.blocks.now.items in
    let at = c.args.at in
    let bs = c.close_border.new.blocks.items in
    let now : bs ≡ closed_by at old = c.close_border.ensures.items c.if-not-close_border.false ∙ closed_is old at in
    let w : at + 1 < length bs = omega (arith, c.requires.within, c.close_border.ensures.len) in
    let b = ap length (get_or_read bs (at + 1) c.index.result.now w c.index.ensures []) in
    let t = ap (λ (k : ℕ). length (block_at bs k)) (add-one at) in
    let n = c.count.ensures.count in
    let but : AreFitBut full 0 full (suc at) bs = subst (AreFitBut full 0 full (suc at)) (sym now) (fit_closed full old at (omega (arith, c.requires.within)) f) in
    fit_of_but full 0 full bs (suc at) (omega (arith, b, t, n, c.if-count-eq0.false)) (but_at full 0 full bs (suc at) (omega (arith, w)) but).1 but
