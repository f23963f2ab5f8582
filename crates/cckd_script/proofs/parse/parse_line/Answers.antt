use Rattle.std.proofs.Common.{rules, ◌≡◌}
use Rattle.cckd_script.specs.Parse.{parsed, line_in}
use Rattle.cckd_script.proofs.SpelledLemmas.{spelled}
use Rattle.cckd_script.proofs.parse.parse_line.Goals as goal

pub returns-in-Some-clause-spelled : goal.returns-in-Some-clause-spelled
returns-in-Some-clause-spelled c =
    let is : c.parse_call.result ≡ line_in (parsed c.args.line.now) = search rules in
    spelled c.args.line.now _ is
