use Rattle.std.proofs.Common.{ℕ, ◌∷◌, [], ap}
use Rattle.std.specs.Prelude.{codes}
use Rattle.cckd_base.specs.Geometry.{group_count}
use Rattle.cckd_base.proofs.PutLemmas.{put_as}
use Rattle.cckd_dasdinit.specs.Text.{counts_text}
use Rattle.cckd_dasdinit.proofs.TextLemmas.{four_put}
use Rattle.cckd_dasdinit.proofs.text.put_made.Goals as goal

pub returns-clause-put : goal.returns-clause-put
returns-clause-put c =
    four_put (codes "made ") c.args.device.now (counts_text c.args.geo.now.cyls c.args.geo.now.heads (group_count c.args.geo.now) c.args.len) (10 ∷ []) _ _ _ _ _ _ _ _ _
    c.put_bytes-begun.ensures (put_as _ _ _ _ _ _ c.as_bytes.ensures.value c.put_bytes-named.ensures)
    (put_as _ _ _ _ _ _ (ap (λ (groups : ℕ). counts_text c.args.geo.now.cyls c.args.geo.now.heads groups c.args.len) c.groups.ensures) c.put_counts-counted.ensures.put)
    c.put_bytes.ensures
