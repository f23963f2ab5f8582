use Rattle.std.proofs.Common.{◌∙◌, sym}
use Rattle.std.specs.Option.{option_or}
use Rattle.cckd_image.specs.Image.{identifiers_of}
use Rattle.cckd_image.proofs.FaultLemmas.{early_whole, early_none, late_fault, geometry_stands}
use Rattle.cckd_image.proofs.header.ImageHeader.fault.Goals as goal

pub returns-then-is_some : goal.returns-then-is_some
returns-then-is_some c =
    early_whole c.args.self.now (identifiers_of c.args.roles) c.args.len c.or-early.result
    (c.or-early.ensures ∙ (λ i. option_or (c.other_file_fault.ensures i) (c.geometry_fault.ensures i)))
    (sym c.is_some.ensures ∙ c.if-is_some.true)

pub returns : goal.returns
returns c =
    c.or.ensures ∙ (λ i. option_or (c.count_fault.ensures i) (c.format_fault.ensures i))
    ∙ sym (late_fault c.args.self.now (identifiers_of c.args.roles) c.args.len
    (early_none c.or-early.result _ (c.or-early.ensures ∙ (λ i. option_or (c.other_file_fault.ensures i) (c.geometry_fault.ensures i))) (sym c.is_some.ensures ∙ c.if-is_some.false)))

pub count_fault-requires : goal.count_fault-requires
count_fault-requires c =
    geometry_stands c.args.self.now (identifiers_of c.args.roles) c.args.len
    (early_none c.or-early.result _ (c.or-early.ensures ∙ (λ i. option_or (c.other_file_fault.ensures i) (c.geometry_fault.ensures i))) (sym c.is_some.ensures ∙ c.if-is_some.false))
