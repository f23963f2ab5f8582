use Rattle.std.proofs.Common.{◌≡◌, ℕ, ◌*◌, ◌<◌, slice_index}
use Rattle.std.specs.Int.{w32}
use Rattle.cckd_base.specs.Numbers.{number_at}
use Rattle.cckd_tables.proofs.words.decode_words.Given as goal

abbrev pub invariant-loop-group : goal.invariant-loop-group
invariant-loop-group l = (g : ℕ) → g < l.group → slice_index l.words g ≡ number_at l.l.order w32 l.bytes (4 * g)
