use Rattle.std.proofs.Common.{codes, sym, subst}
use Rattle.cckd_base.specs.declared.misfit.Misfit.{Misfit}
use Rattle.cckd_base.specs.Put.{IsPut}
use Rattle.cckd_base.proofs.PutLemmas.{puts_join}
use Rattle.cckd_top.specs.Text.{owner_text, misfit_text}
use Rattle.cckd_top.proofs.text.put_misfit.Goals as goal

pub returns-in-ParentInBase-clause-put : goal.returns-in-ParentInBase-clause-put
returns-in-ParentInBase-clause-put c =
    subst (λ (m : Misfit). IsPut c.args.at c.put_owner.result (misfit_text m) c.args.line.now c.put_owner.new.line) (sym c.in-ParentInBase.is)
    (puts_join c.args.at c.put_bytes-end.result c.put_owner.result (codes " parent in base") (owner_text c.in-ParentInBase.owner) c.args.line.now
    c.put_bytes-end.new.buffer c.put_owner.new.line c.put_bytes-end.ensures c.put_owner.ensures.put)
