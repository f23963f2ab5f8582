use Rattle.std.proofs.Common.{◌∙◌}
use Rattle.std.specs.Option.{option_or}
use Rattle.cckd_image.proofs.FaultLemmas.{in_fields}
use Rattle.cckd_image.proofs.header.ImageHeader.geometry_fault.Goals as goal

pub returns : goal.returns
returns c =
    let three = c.or-2.ensures ∙ (λ i. option_or (c.or.ensures i) c.field_fault-3.result) in
    let four = c.or-3.ensures ∙ (λ i. option_or (three i) c.field_fault-4.result) in
    c.or-4.ensures ∙ (λ i. option_or (four i) c.field_fault-5.result)
    ∙ in_fields c.args.self.now c.from-heads.result c.from-cyls.result c.from-size.result c.from-sequence.result
    c.from-heads.ensures c.from-cyls.ensures c.from-size.ensures c.from-sequence.ensures
    c.field_fault.result c.field_fault-2.result c.field_fault-3.result c.field_fault-4.result c.field_fault-5.result
    c.field_fault.ensures c.field_fault-2.ensures c.field_fault-3.ensures c.field_fault-4.ensures c.field_fault-5.ensures
