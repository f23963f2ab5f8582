use Rattle.std.proofs.Common.{◌∙◌, sym, ap, subst, arith}
use Rattle.cckd_base.specs.declared.geometry.Layout.{Layout}
use Rattle.cckd_base.specs.Geometry.{IsLayout}
use Rattle.cckd_base.specs.Header.{header_fault}
use Rattle.cckd_image.specs.Image.{identifiers_of, header_of}
use Rattle.cckd_layer.proofs.FoundLemmas.{accepted, rejected}
use Rattle.cckd_layer.proofs.mounting.read_out.Goals as goal

pub returns-in-Ok-clause-layout : goal.returns-in-Ok-clause-layout
returns-in-Ok-clause-layout c = subst IsLayout (sym c.layout.ensures) c.in-Ok.ensures.image

pub returns-in-Ok-clause-area : goal.returns-in-Ok-clause-area
returns-in-Ok-clause-area c =
    let area = c.in-Ok.ensures.area in
    let groups = ap (λ (l : Layout). l.groups) c.layout.ensures in
    omega (arith, area.0, groups)

pub returns-in-Ok-clause-sound : goal.returns-in-Ok-clause-sound
returns-in-Ok-clause-sound c =
    let headers = c.args.headers.now in
    (accepted (header_fault (identifiers_of c.args.roles) headers c.args.len) (header_of headers) c.in-Ok.header (sym c.decode.ensures.answer ∙ c.in-Ok.is)).0

pub returns-in-Ok-clause-header : goal.returns-in-Ok-clause-header
returns-in-Ok-clause-header c =
    let headers = c.args.headers.now in
    (accepted (header_fault (identifiers_of c.args.roles) headers c.args.len) (header_of headers) c.in-Ok.header (sym c.decode.ensures.answer ∙ c.in-Ok.is)).1

pub returns-in-Ok-clause-says : goal.returns-in-Ok-clause-says
returns-in-Ok-clause-says c = c.layout.ensures ∙ c.in-Ok.ensures.layout

pub returns-in-Err-clause-refusal : goal.returns-in-Err-clause-refusal
returns-in-Err-clause-refusal c =
    let headers = c.args.headers.now in
    (c.get.ensures.value, rejected (header_fault (identifiers_of c.args.roles) headers c.args.len) (header_of headers) c.in-Err.fault (sym c.decode.ensures.answer ∙ c.in-Err.is))
