use Rattle.std.proofs.Common.{◌≡◌, ◌<◌, ◌≤◌, length, refl, sym, ◌∙◌, subst, arith}
use Rattle.cckd_shelf.specs.World.{World, IsSure, file_of}
use Rattle.cckd_check.specs.Inside.{next_behind}
use Rattle.cckd_check.proofs.LinkLemmas.{begins, chain_ends, chain_stops, chain_goes_on}
use Rattle.cckd_check.proofs.chaining.follow_all.Goals as goal

pub loop-at-init : goal.loop-at-init
loop-at-init g c = record {
  way = λ told sure. begins c.args.order c.args.used.now (file_of (g.T.Shows.world c.args.stage.now) c.args.slot) c.args.first;
  low = omega arith;
  kept = λ told. refl;
  counts = refl;
}

pub loop-at-preserved : goal.loop-at-preserved
loop-at-preserved g c =
    let now = c.loop-at.invariant in
    let rises : (c.loop-at.before < c.loop-at.at) × (c.loop-at.at < c.args.len) = rw c.in-Ok-Some.field-0-is at c.in-Ok-Some.ensures.rises in
    record {
      way = λ told sure.
          let file = file_of (g.T.Shows.world c.args.stage.now) c.args.slot in
          let next : c.in-Ok-Some.field-0 ≡ next_behind c.args.order c.args.used.now file c.loop-at.before c.loop-at.at =
          subst (λ (w : World). c.in-Ok-Some.field-0 ≡ next_behind c.args.order c.args.used.now (file_of w c.args.slot) c.loop-at.before c.loop-at.at) (now.kept told)
          (c.in-Ok-Some.ensures.next told (subst IsSure (sym (now.kept told)) sure)) in
          let long = c.requires.length told sure in
          let low : c.loop-at.before ≤ length file = omega (arith, long, now.low) in
          chain_goes_on c.args.order c.args.used.now file c.args.first c.loop-at.before c.loop-at.at (now.way told sure) c.loop-at-test.true low
          c.in-Ok-Some.next (sym next ∙ c.in-Ok-Some.field-0-is) rises.0;
      low = omega (arith, rises.1);
      kept = λ told. c.in-Ok-Some.ensures.looks.kept told ∙ now.kept told;
      counts = c.in-Ok-Some.ensures.looks.counts ∙ now.counts;
    }

pub returns-in-Ok-None-clause-fault : goal.returns-in-Ok-None-clause-fault
returns-in-Ok-None-clause-fault g c = λ told sure.
    let now = c.loop-at.invariant in
    let file = file_of (g.T.Shows.world c.args.stage.now) c.args.slot in
    let next : c.in-Ok-None.field-0 ≡ next_behind c.args.order c.args.used.now file c.loop-at.before c.loop-at.at =
    subst (λ (w : World). c.in-Ok-None.field-0 ≡ next_behind c.args.order c.args.used.now (file_of w c.args.slot) c.loop-at.before c.loop-at.at) (now.kept told)
    (c.in-Ok-None.ensures.next told (subst IsSure (sym (now.kept told)) sure)) in
    let long = c.requires.length told sure in
    let low : c.loop-at.before ≤ length file = omega (arith, long, now.low) in
    chain_stops c.args.order c.args.used.now file c.args.first c.loop-at.before c.loop-at.at (now.way told sure) c.loop-at-test.true low
    (sym next ∙ c.in-Ok-None.field-0-is)

pub returns-clause-fault : goal.returns-clause-fault
returns-clause-fault g c = λ told sure.
    chain_ends c.args.order c.args.used.now (file_of (g.T.Shows.world c.args.stage.now) c.args.slot) c.args.first c.loop-at.before c.loop-at.at
    (c.loop-at.invariant.way told sure) c.loop-at-test.false
