use Rattle.cckd_console.proofs.AskLemmas.{line_asked, asked_ok, asked_err}
use Rattle.cckd_console.proofs.asking.request_of.Goals as goal

pub returns-in-Ok-clause-asks : goal.returns-in-Ok-clause-asks
returns-in-Ok-clause-asks c =
    asked_ok c.args.line.now c.parse_line.new.into c.parse_line.result c.in-Ok.line c.in-Ok.is
    (line_asked c.args.line.now c.args.given.now c.parse_line.new.into c.parse_line.result c.requires.line c.parse_line.ensures.parsed c.parse_line.ensures.given)

pub returns-in-Err-clause-asks : goal.returns-in-Err-clause-asks
returns-in-Err-clause-asks c =
    asked_err c.args.line.now c.parse_line.new.into c.parse_line.result c.in-Err.fault c.in-Err.is
    (line_asked c.args.line.now c.args.given.now c.parse_line.new.into c.parse_line.result c.requires.line c.parse_line.ensures.parsed c.parse_line.ensures.given)
