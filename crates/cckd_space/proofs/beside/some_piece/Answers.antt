use Rattle.std.proofs.Common.{◌≡◌, ℕ, Bool, true, false, if◌then◌else◌, sym, ◌∙◌}
use Rattle.cckd_space.specs.declared.piece.Piece.{Piece}
use Rattle.cckd_space.specs.Pieces.{is_used_at, is_reserved_at}
use Rattle.cckd_space.proofs.SearchLemmas.{used_there, reserved_there}
use Rattle.cckd_space.proofs.CallerLemmas.{found_number}
use Rattle.cckd_space.proofs.beside.some_piece.Goals as goal

there : (used : Bool) (pos : ℕ) (p : Piece) → (if used then is_used_at pos p else is_reserved_at pos p) ≡ true → p.pos ≡ pos
there true pos p e = used_there pos p e
there false pos p e = reserved_there pos p e

pub returns-then-left-eq0 : goal.returns-then-left-eq0
returns-then-left-eq0 c =
    let p = c.piece-piece.result in
    found_number (λ q. if c.args.used then is_used_at p.pos q else is_reserved_at p.pos q) p.pos (there c.args.used p.pos) c.args.space.now.pieces c.pieces-pieces.result c.args.space.now.size c.loop-at.at p c.pieces-pieces.ensures.sound.laid c.pieces-pieces.ensures.listed c.piece-piece.ensures
    (sym c.is_wanted.ensures ∙ c.if-is_wanted.true)
