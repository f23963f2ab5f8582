use Rattle.std.proofs.Common.{Some, None, ap, ◌∙◌, sym}
use Rattle.cckd_image.specs.Image.{identifiers_of, header_of}
use Rattle.cckd_image.proofs.FaultLemmas.{decoded_is, layout_of_bytes, accepted, layout_accepted, length_accepted, header_accepted, role_accepted}
use Rattle.cckd_image.proofs.read.decode.Goals as goal

pub returns-in-Some-clause-answer : goal.returns-in-Some-clause-answer
returns-in-Some-clause-answer c = decoded_is c.args.bytes.now _ c.args.len c.header_in-header.result (Some c.in-Some.fault) c.header_in-header.ensures.value c.in-Some.ensures

pub returns-in-None : goal.returns-in-None
returns-in-None c =
    let headers = c.args.bytes.now in
    let is = c.header_in-header.ensures.value in
    let none = accepted headers (identifiers_of c.args.roles) c.args.len c.header_in-header.result is c.in-None.ensures in
    record {
      answer = decoded_is headers _ c.args.len c.header_in-header.result None is c.in-None.ensures;
      sound = header_accepted headers (identifiers_of c.args.roles) c.args.len c.header_in-header.result is none;
      layout = layout_of_bytes headers c.header_in-header.result is;
      image = layout_accepted headers (identifiers_of c.args.roles) c.args.len c.header_in-header.result is none;
      area = length_accepted headers (identifiers_of c.args.roles) c.args.len c.header_in-header.result is none;
      role = role_accepted c.args.roles headers c.args.len c.header_in-header.result is none;
      undone = c.header_in-header.ensures.undone;
      again = ap header_of c.header_in-header.ensures.undone ∙ sym is;
    }
