use Rattle.std.proofs.Common.{◌≡◌, ℕ, ◌*◌, ◌<◌, ◌≤◌}
use Rattle.cckd_frames.specs.Nodes.{word}
use Rattle.cckd_frames.specs.Table.{IsTable}
use Rattle.cckd_frames.proofs.rings.clear.Given as goal

abbrev pub invariant-loop-bucket : goal.invariant-loop-bucket
invariant-loop-bucket l = record {
  first : l.nodes.first ≡ l.fn.nodes.first;
  table : IsTable l.count l.nodes.words;
  older : word l.nodes.words 0 (2 * l.count) ≡ 2 * l.count;
  newer : word l.nodes.words 1 (2 * l.count) ≡ 2 * l.count;
  after : (b : ℕ) → l.count ≤ b → b < l.bucket → word l.nodes.words 2 b ≡ b;
  before : (b : ℕ) → l.count ≤ b → b < l.bucket → word l.nodes.words 3 b ≡ b;
  members : (b : ℕ) → l.count ≤ b → b < l.bucket → word l.nodes.words 5 b ≡ 0;
  lengths : (x : ℕ) → word l.nodes.words 6 x ≡ word l.fn.nodes.words 6 x;
}
