use Rattle.std.proofs.Common.{sym, subst}
use Rattle.cckd_base.specs.Put.{IsPut}
use Rattle.cckd_base.specs.declared.open_fault.OpenFault.{OpenFault}
use Rattle.cckd_base.proofs.PutLemmas.{puts_join}
use Rattle.cckd_top.specs.Text.{header_fault_text, misfit_text, refused_slot, open_fault_text}
use Rattle.cckd_top.proofs.text.put_open_fault.Goals as goal

pub returns-in-Header-clause-put : goal.returns-in-Header-clause-put
returns-in-Header-clause-put c =
    subst (λ (w : OpenFault). IsPut 0 c.put_header_fault.result (open_fault_text w) c.args.line.now c.put_header_fault.new.line) (sym c.in-Header.is)
    (puts_join 0 c.put_refused-end.result c.put_header_fault.result (refused_slot c.in-Header.slot) (header_fault_text c.in-Header.fault) c.args.line.now
    c.put_refused-end.new.line c.put_header_fault.new.line c.put_refused-end.ensures.put c.put_header_fault.ensures.put)

pub returns-in-Scan-clause-put : goal.returns-in-Scan-clause-put
returns-in-Scan-clause-put c =
    let front = c.put_refused-end-in-Scan in
    subst (λ (w : OpenFault). IsPut 0 c.put_misfit.result (open_fault_text w) c.args.line.now c.put_misfit.new.line) (sym c.in-Scan.is)
    (puts_join 0 front.result c.put_misfit.result (refused_slot c.in-Scan.slot) (misfit_text c.in-Scan.fault) c.args.line.now
    front.new.line c.put_misfit.new.line front.ensures.put c.put_misfit.ensures.put)
