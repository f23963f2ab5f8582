use Rattle.std.proofs.Common.{◌*◌, length, sym, ap, ◌∙◌}
use Rattle.cckd_frames.specs.Placed.{Placed}
use Rattle.cckd_frames.proofs.Placing.{length-words}
use Rattle.cckd_frames.proofs.nodes.Nodes.into_row.Goals as goal

pub returns-clause-row : goal.returns-clause-row
returns-clause-row c =
    let i = c.self.inside in (
      sym c.self.invariant.begins ∙ ap (λ (t : Placed). t.first) c.self.view_is,
      ap (λ n. 9 * n) c.self.invariant.full ∙ (sym (length-words i.first.ptr i.row.items) ∙ ap (λ (t : Placed). length t.words) c.self.view_is),
    )
