use Rattle.std.proofs.Common.{◌∙◌, ap, List, ℕ, rules}
use Rattle.cckd_base.specs.Numbers.{bytes_at}
use Rattle.cckd_image.specs.Image.{dev_header_of, cckd_header_of}
use Rattle.cckd_image.proofs.FaultLemmas.{both_headers}
use Rattle.cckd_image.proofs.PartLemmas.{halves}
use Rattle.cckd_image.proofs.read.header_in.Goals as goal

pub returns-clause-value : goal.returns-clause-value
returns-clause-value c =
    both_headers c.args.headers.now c.dev_in.result c.cckd_in.result (c.dev_in.ensures.value ∙ ap dev_header_of c.as_slice.ensures)
    (c.cckd_in.ensures.value ∙ ap cckd_header_of c.as_slice-2.ensures)

pub returns-clause-undone : goal.returns-clause-undone
returns-clause-undone c =
    halves c.args.headers.now _ _ (search rules)
    (c.dev_in.ensures.undone ∙ ap (λ (x : List ℕ). bytes_at x 0 512) c.as_slice.ensures)
    (c.cckd_in.ensures.undone ∙ ap (λ (x : List ℕ). bytes_at x 512 512) c.as_slice-2.ensures)
