use Rattle.cckd_console.proofs.LineLemmas.{refused_line, refused_cut}
use Rattle.cckd_console.proofs.line.refuse.Goals as goal

pub returns-in-Ok-clause-serves : goal.returns-in-Ok-clause-serves
returns-in-Ok-clause-serves g c =
    refused_line g.T.Shows g.D.Disk c.args.engine.now c.print.new.self c.args.why _ c.print_misreading-end.ensures.printed.front
    c.print_misreading-end.ensures.one_line c.requires.heard c.print.ensures.rest c.print.ensures.front c.print.ensures.stands
    c.print.ensures.stops c.print.ensures.runs c.print.ensures.agrees c.print.ensures.closes c.in-Ok.ensures.whole c.in-Ok.ensures.fails.still

pub returns-in-Err-clause-serves : goal.returns-in-Err-clause-serves
returns-in-Err-clause-serves g c =
    refused_cut g.T.Shows g.D.Disk c.args.engine.now c.print.new.self c.args.why _ c.print_misreading-end.ensures.printed.front
    c.print_misreading-end.ensures.one_line c.requires.heard c.print.ensures.rest c.print.ensures.front c.print.ensures.stands
    c.print.ensures.stops c.print.ensures.runs c.print.ensures.agrees c.print.ensures.closes _ c.in-Err.ensures.fails.rose
