use Rattle.std.proofs.Common.{◌≡◌, ℕ, ◌∷◌, [], Bool, false, None, Result, OnOk, refl, sym, ◌∙◌, ap, subst, arith}
use Rattle.cckd_shelf.specs.Seen.{seen}
use Rattle.cckd_engine.specs.Calls.{asks, answer_in}
use Rattle.cckd_engine.specs.Engine.{entry_of}
use Rattle.cckd_engine.specs.Lines.{of_call, CountsServed}
use Rattle.cckd_script.specs.Text.{answered_bytes, reply_line}
use Rattle.cckd_shelf.specs.declared.fault.Failed.{Failed}
use Rattle.cckd_console.specs.Served.{called}
use Rattle.cckd_console.specs.Saying.{if_printed}
use Rattle.cckd_console.specs.Serving.{AreSaid}
use Rattle.cckd_console.proofs.LineLemmas.{reply_said, still_heard, only_line}
use Rattle.cckd_console.proofs.JoinLemmas.{keeps_one}
use Rattle.cckd_console.proofs.line.serve_call.Goals as goal

pub returns-clause-serves : goal.returns-clause-serves
returns-clause-serves g c =
    let does = c.serve-served.ensures in
    let e = entry_of None (asks c.args.call c.args.input.now) (answer_in c.serve-served.result.reply c.serve-served.new.out)
    (g.T.Shows.world c.serve-served.new.self.stage).events in
    record {
      served = called e ∷ [];
      asked = refl;
      does = record {
        lines = (does.one c.requires.heard, tt);
        alone = (refl, tt);
        geometry = does.geometry;
        stands = does.stands;
        room = does.room;
        files = does.files;
        runs = λ runs. does.runs;
        agrees = does.agrees;
        closes = does.closes;
        spares = does.spares;
        stops = λ s0 h told stands tells left.
            keeps_one (g.D.Disk.geometry c.args.engine.now.disk) s0 h (of_call e) _ _ _ (does.stops s0 h told stands tells left);
        quiet = λ same reads.
            let quiet = does.quiet same reads.0 in (
              quiet.0,
              only_line g.T.Shows (reply_line c.args.call c.serve-served.result.reply (answered_bytes c.serve-served.result.reply c.serve-served.new.out))
                  c.args.engine.now.stage c.serve-served.new.self.stage quiet.1,
            );
      };
      said =
          subst (λ (r : Result ℕ Failed). AreSaid (called e ∷ []) (seen g.T.Shows c.args.engine.now.stage) (seen g.T.Shows c.serve-served.new.self.stage) r)
          (sym (c.if_printed.ensures ∙ ap (if_printed c.serve-served.result.printed) c.status_of-status.ensures))
          (reply_said e c.serve-served.result.printed c.serve-served.new.self.mute (seen g.T.Shows c.args.engine.now.stage)
          (seen g.T.Shows c.serve-served.new.self.stage) does.printed does.said does.front
          (subst (λ (b : Bool). CountsServed c.serve-served.result.reply b c.serve-served.new.self.mute (g.T.Shows.faults c.args.engine.now.stage)
          (g.T.Shows.faults c.serve-served.new.self.stage)) c.requires.heard does.counts));
      script = does.script;
      few = omega (arith, does.calls);
      heard =
          subst (λ (r : Result ℕ Failed). OnOk r (c.serve-served.new.self.mute ≡ false)) (sym c.if_printed.ensures)
          (still_heard c.serve-served.result.printed c.serve-served.new.self.mute c.status_of-status.result does.printed);
    }
