use Rattle.std.proofs.Common.{sym, ◌∙◌}
use Rattle.cckd_layer.proofs.ActLemmas.{left_missing}
use Rattle.cckd_layer.proofs.staging.leave_place.Goals as goal

pub returns-else-is_some-clause-becomes : goal.returns-else-is_some-clause-becomes
returns-else-is_some-clause-becomes c = left_missing c.args.space.now c.args.pos c.used_at.result (sym c.is_some.ensures ∙ c.if-is_some.false) c.used_at.ensures
