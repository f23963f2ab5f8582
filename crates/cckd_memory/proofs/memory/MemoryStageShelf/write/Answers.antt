use Rattle.std.proofs.Common.{◌+◌, ◌-◌, ◌^◌, ◌∙◌, ap, min, drop, inl, inr}
use Rattle.cckd_memory.proofs.memory.MemoryStageShelf.write.Goals as goal

pub returns-in_default-clause-torn : goal.returns-in_default-clause-torn
returns-in_default-clause-torn c = λ _. inr (c.in_default.ensures.kept (drop c.args.self.now.taken c.args.self.now.script))

pub returns-in_default-clause-noted : goal.returns-in_default-clause-noted
returns-in_default-clause-noted c = inr (
  c.fail_wanting.ensures.wanted ∙ ap (λ n. min (n + 1) (2 ^ 64 - 1)) c.begin-listed.ensures.wanted,
  c.in_default.ensures.kept (drop c.args.self.now.taken c.args.self.now.script),
)

pub returns-then-listed-clause-torn : goal.returns-then-listed-clause-torn
returns-then-listed-clause-torn c = λ _. inl (rw c.if-listed.true at (c.in-Ok.ensures.written (drop c.args.self.now.taken c.args.self.now.script)))

pub returns-then-listed-clause-noted : goal.returns-then-listed-clause-noted
returns-then-listed-clause-noted c = inl (
  c.fail.ensures.wanted ∙ c.begin-listed.ensures.wanted,
  rw c.if-listed.true at (c.in-Ok.ensures.written (drop c.args.self.now.taken c.args.self.now.script)),
)

pub returns-clause-written : goal.returns-clause-written
returns-clause-written c = λ _. rw c.if-listed.false at (c.in-Ok.ensures.written (drop c.args.self.now.taken c.args.self.now.script))
