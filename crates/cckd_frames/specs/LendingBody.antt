-- What a borrow of an entry's bytes writes back.
use Rattle.std.specs.Borrow.{Lends, MutBor, Fml, Array, u8}
use Rattle.std.specs.Prelude.{ℕ, List}
use Rattle.cckd_frames.specs.Frames.{Kept, with_entries, with_writes}
use Rattle.cckd_frames.specs.contracts.frames.Frames.{the_row as frames_row}

-- the entry in this frame ends with the bytes that were written, and all else as before
abbrev pub LendsBody : MutBor Kept → ℕ → MutBor (List ℕ) → Fml
LendsBody k frame r = Lends frames_row (Array u8 0) k r (λ w. with_entries k.now (with_writes frame w k.now.entries))
