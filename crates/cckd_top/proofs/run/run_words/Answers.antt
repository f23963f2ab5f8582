use Rattle.cckd_top.proofs.ExplainedLemmas.{words_name, words_halt}
use Rattle.cckd_top.proofs.run.run_words.Goals as goal

pub returns-in-Ok : goal.returns-in-Ok
returns-in-Ok g c = words_name _ _ _ _ c.run_disk.result.1 c.in-Ok.ensures.disk c.run_disk.ensures

pub returns-in-Err : goal.returns-in-Err
returns-in-Err g c =
    words_halt g.T.Shows c.args.stage c.end_halted-code.new.stage _ c.in-Err.number c.end_halted-code.result c.in-Err.ensures.disk
    c.end_halted-code.ensures.said c.end_halted-code.ensures.puts
