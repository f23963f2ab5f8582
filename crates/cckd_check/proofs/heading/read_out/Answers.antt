use Rattle.std.proofs.Common.{sym, ◌∙◌, ap, subst, arith}
use Rattle.cckd_base.specs.declared.geometry.Layout.{Layout}
use Rattle.cckd_base.specs.Geometry.{IsLayout}
use Rattle.cckd_base.specs.Header.{header_fault}
use Rattle.cckd_image.specs.declared.header.ImageHeader.{ImageHeader}
use Rattle.cckd_image.specs.declared.roles.Roles.TheVariants.{Either}
use Rattle.cckd_image.specs.Image.{identifiers_of, header_of}
use Rattle.cckd_check.proofs.ReportLemmas.{accepted, rejected}
use Rattle.cckd_check.proofs.heading.read_out.Goals as goal

pub returns-in-Ok-clause-layout : goal.returns-in-Ok-clause-layout
returns-in-Ok-clause-layout c = subst IsLayout (sym c.layout.ensures) c.in-Ok.ensures.image

pub returns-in-Ok-clause-area : goal.returns-in-Ok-clause-area
returns-in-Ok-clause-area c =
    let area = c.in-Ok.ensures.area in
    let groups = ap (λ (l : Layout). l.groups) c.layout.ensures in
    omega (arith, area.0, groups)

pub returns-in-Ok-clause-sound : goal.returns-in-Ok-clause-sound
returns-in-Ok-clause-sound c =
    let headers = c.args.headers.now in
    (accepted (header_fault (identifiers_of Either) headers c.args.len) (header_of headers) c.in-Ok.header (sym c.decode.ensures.answer ∙ c.in-Ok.is)).0

pub returns-in-Ok-clause-says : goal.returns-in-Ok-clause-says
returns-in-Ok-clause-says c = c.layout.ensures ∙ c.in-Ok.ensures.layout

pub returns-in-Ok-clause-options : goal.returns-in-Ok-clause-options
returns-in-Ok-clause-options c =
    let headers = c.args.headers.now in
    ap (λ (h : ImageHeader). h.cckd.options)
    (accepted (header_fault (identifiers_of Either) headers c.args.len) (header_of headers) c.in-Ok.header (sym c.decode.ensures.answer ∙ c.in-Ok.is)).1

pub returns-in-Ok-clause-free : goal.returns-in-Ok-clause-free
returns-in-Ok-clause-free c =
    let headers = c.args.headers.now in
    ap (λ (h : ImageHeader). h.cckd.free)
    (accepted (header_fault (identifiers_of Either) headers c.args.len) (header_of headers) c.in-Ok.header (sym c.decode.ensures.answer ∙ c.in-Ok.is)).1

pub returns-in-Err-clause-refusal : goal.returns-in-Err-clause-refusal
returns-in-Err-clause-refusal c =
    let headers = c.args.headers.now in
    rejected (header_fault (identifiers_of Either) headers c.args.len) (header_of headers) c.in-Err.fault (sym c.decode.ensures.answer ∙ c.in-Err.is)
