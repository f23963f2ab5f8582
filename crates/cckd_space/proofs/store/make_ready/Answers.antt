use Rattle.std.proofs.Common.{◌≡◌, ◌+◌, ◌*◌, ℕ, length, inl, inr, ap, arith}
use Rattle.std.proofs.lemmas.Bool.{cases_lt}
use Rattle.std.specs.Vec.{vec_len}
use Rattle.cckd_space.proofs.BlockLemmas.{dense_few}
use Rattle.cckd_space.proofs.store.make_ready.Goals as goal

pub returns-then-len-eq0-clause-store : goal.returns-then-len-eq0-clause-store
returns-then-len-eq0-clause-store c = elim (cases_lt 0 (vec_len c.pack.new.store)) [
  | inl l ↦ l
  | inr z ↦
      let few = dense_few c.args.full c.pack.new.blocks.items c.pack.ensures.dense in
      let total : vec_len c.args.blocks.now + vec_len c.args.store.now ≡ length c.pack.new.blocks.items = omega (arith, c.pack.ensures.total, z) in
      let product = ap (λ (n : ℕ). (c.args.full + 1) * n) total in
      absurd (omega (arith, few, ap length c.pack.ensures.same, product, c.requires.enough))
]
