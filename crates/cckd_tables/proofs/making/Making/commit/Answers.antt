use Rattle.std.proofs.Common.{List, ℕ, OnOk, inl, refl, sym, subst, arith}
use Rattle.cckd_shelf.specs.Seen.{seen}
use Rattle.cckd_shelf.specs.World.{World, IsSure, file_of}
use Rattle.cckd_shelf.specs.Outcomes.{EachOutcome, AtEach}
use Rattle.cckd_shelf.specs.Stops.{StopLeaves}
use Rattle.cckd_shelf.proofs.MomentLemmas.{kept_at}
use Rattle.cckd_tables.specs.Staging.{Stages}
use Rattle.cckd_tables.specs.Tables.{HasWords}
use Rattle.cckd_tables.specs.Commit.{AreSpelled, CanCommit, MayLeave, IsBlended, IsCommittedFrom}
use Rattle.cckd_tables.proofs.making.Making.commit.Goals as goal

pub returns-in_err-make-clause-stopped : goal.returns-in_err-make-clause-stopped
returns-in_err-make-clause-stopped g c = λ commits told.
    let l = c.args.self.now.layout.now in
    let stages : Stages = record { entries = c.args.self.now.entries.now; words = c.args.moved.now } in
    let old = seen g.T.Shows c.args.stage.now in
    let slot = c.args.slot in
    kept_at (EachOutcome slot (MayLeave l stages slot old.world.events (file_of old.world slot))) old.world (g.T.Shows.world c.make.new.stage)
    (c.in_err-make.ensures.looks.kept told)
    (λ file outcome. inl (file, outcome, record { outside = λ i low beside. refl; no_shorter = omega arith; no_longer = λ n low all. low }))

pub returns-clause-stopped : goal.returns-clause-stopped
returns-clause-stopped g c = λ commits told.
    let l = c.args.self.now.layout.now in
    let stages : Stages = record { entries = c.args.self.now.entries.now; words = c.args.moved.now } in
    let old = seen g.T.Shows c.args.stage.now in
    let new = g.T.Shows.world c.write.new.shelf in
    let slot = c.args.slot in
    let same = c.in_ok-make.ensures.looks.kept told in
    let spelled = c.in_ok-make.ensures.made told commits.sure in
    subst (λ (w : World). AtEach w.events new.events (EachOutcome slot (MayLeave l stages slot w.events (file_of w slot)))) same
    (c.write.ensures.stopped (record {
      tells = told;
      sure = subst IsSure (sym same) commits.sure;
      words = subst (λ (w : World). HasWords l c.args.self.now.words.now (file_of w slot)) (sym same) (c.requires.of told commits.sure).words;
      spelled = subst (λ (w : World). AreSpelled l stages (file_of w slot) c.as_slice.result.now) (sym same)
          (subst (λ (bs : List ℕ). AreSpelled l stages (file_of old.world slot) bs) (sym c.as_slice.ensures.value) spelled);
      can = subst (λ (w : World). CanCommit l stages (file_of w slot)) (sym same) commits.can;
    }) told)

pub returns-clause-done : goal.returns-clause-done
returns-clause-done g c = λ commits.
    let l = c.args.self.now.layout.now in
    let stages : Stages = record { entries = c.args.self.now.entries.now; words = c.args.moved.now } in
    let old = seen g.T.Shows c.args.stage.now in
    let new = seen g.T.Shows c.write.new.shelf in
    let slot = c.args.slot in
    let told = commits.tells in
    let same = c.in_ok-make.ensures.looks.kept told in
    let spelled = c.in_ok-make.ensures.made told commits.sure in
    subst (λ (w : World). OnOk c.write.result (StopLeaves slot (IsBlended l stages (file_of w slot)) new)) same
    (c.write.ensures.done (record {
      tells = told;
      sure = subst IsSure (sym same) commits.sure;
      words = subst (λ (w : World). HasWords l c.args.self.now.words.now (file_of w slot)) (sym same) (c.requires.of told commits.sure).words;
      spelled = subst (λ (w : World). AreSpelled l stages (file_of w slot) c.as_slice.result.now) (sym same)
          (subst (λ (bs : List ℕ). AreSpelled l stages (file_of old.world slot) bs) (sym c.as_slice.ensures.value) spelled);
      can = subst (λ (w : World). CanCommit l stages (file_of w slot)) (sym same) commits.can;
    }))

pub returns-clause-now : goal.returns-clause-now
returns-clause-now g c = λ commits.
    let l = c.args.self.now.layout.now in
    let stages : Stages = record { entries = c.args.self.now.entries.now; words = c.args.moved.now } in
    let old = seen g.T.Shows c.args.stage.now in
    let new = seen g.T.Shows c.write.new.shelf in
    let slot = c.args.slot in
    let told = commits.tells in
    let same = c.in_ok-make.ensures.looks.kept told in
    let spelled = c.in_ok-make.ensures.made told commits.sure in
    subst (λ (w : World). OnOk c.write.result (IsCommittedFrom l stages (file_of w slot) (file_of new.world slot))) same
    (c.write.ensures.now (record {
      tells = told;
      sure = subst IsSure (sym same) commits.sure;
      words = subst (λ (w : World). HasWords l c.args.self.now.words.now (file_of w slot)) (sym same) (c.requires.of told commits.sure).words;
      spelled = subst (λ (w : World). AreSpelled l stages (file_of w slot) c.as_slice.result.now) (sym same)
          (subst (λ (bs : List ℕ). AreSpelled l stages (file_of old.world slot) bs) (sym c.as_slice.ensures.value) spelled);
      can = subst (λ (w : World). CanCommit l stages (file_of w slot)) (sym same) commits.can;
    }))
