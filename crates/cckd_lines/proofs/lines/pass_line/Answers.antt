use Rattle.std.specs.Prelude.{T}
use Rattle.std.proofs.Common.{Option, IfSome, MatchOption, ℕ, ◌+◌, ◌∙◌, refl, subst}
use Rattle.cckd_lines.specs.declared.lines.Place.{Place}
use Rattle.cckd_script.specs.Lines.{HasNoFeed}
use Rattle.cckd_lines.specs.Lines.{IsFirstFeed, IsPlace, Grows, TakesMore, held, pending}
use Rattle.cckd_lines.proofs.FillLemmas.{passes_on, passes_feed, passes_end}
use Rattle.cckd_lines.proofs.lines.pass_line.Goals as goal

pub returns-in-Some-feed_behind-clause-passes : goal.returns-in-Some-feed_behind-clause-passes
returns-in-Some-feed_behind-clause-passes g c = λ told.
    let room = c.take_more.new.room in
    let taken = c.in-Some.taken in
    let text = pending room taken in
    passes_feed (T g.T.Shows.tells) (g.T.Shows.world c.args.stage.now) (g.T.Shows.world c.loop-taken.stage)
    (g.T.Shows.world c.take_more.new.stage) _ _ (g.T.Shows.faults c.take_more.new.stage) c.args.place c.loop-taken.place
    (record c.loop-taken.place { start = 0; end = 0 })
    taken c.loop-taken.room room c.loop-taken.invariant.0 refl refl refl
    (subst (λ (o : Option Place). IfSome o (IsPlace room)) c.in-Some.is c.in_ok-taken.ensures.place)
    (subst (λ (o : Option Place). IfSome o (Grows (record c.loop-taken.place { start = 0; end = 0 }))) c.in-Some.is c.in_ok-taken.ensures.grows)
    (λ t. subst (λ (o : Option Place). IfSome o (λ after. TakesMore
    (held c.loop-taken.room (record c.loop-taken.place { start = 0; end = 0 }) (g.T.Shows.world c.loop-taken.stage).script)
    (held room after (g.T.Shows.world c.take_more.new.stage).script))) c.in-Some.is (c.in_ok-taken.ensures.takes t))
    (record taken { start = taken.start + c.in-Some-feed_behind.at + 1 }) c.in-Some-feed_behind.at
    (subst (λ (o : Option ℕ). MatchOption o (HasNoFeed text) (IsFirstFeed text)) c.in-Some-feed_behind.is
    c.feed_behind.ensures)
    refl refl refl told

pub returns-then-place-clause-passes : goal.returns-then-place-clause-passes
returns-then-place-clause-passes g c = λ told.
    let room = c.take_more.new.room in
    let taken = c.in-Some.taken in
    let text = pending room taken in
    passes_end (T g.T.Shows.tells) (g.T.Shows.world c.args.stage.now) (g.T.Shows.world c.loop-taken.stage)
    (g.T.Shows.world c.take_more.new.stage) _ _ (g.T.Shows.faults c.take_more.new.stage) c.args.place c.loop-taken.place
    (record c.loop-taken.place { start = 0; end = 0 })
    taken c.loop-taken.room room c.loop-taken.invariant.0 refl refl refl
    (subst (λ (o : Option Place). IfSome o (IsPlace room)) c.in-Some.is c.in_ok-taken.ensures.place)
    (subst (λ (o : Option Place). IfSome o (Grows (record c.loop-taken.place { start = 0; end = 0 }))) c.in-Some.is c.in_ok-taken.ensures.grows)
    (λ t. subst (λ (o : Option Place). IfSome o (λ after. TakesMore
    (held c.loop-taken.room (record c.loop-taken.place { start = 0; end = 0 }) (g.T.Shows.world c.loop-taken.stage).script)
    (held room after (g.T.Shows.world c.take_more.new.stage).script))) c.in-Some.is (c.in_ok-taken.ensures.takes t))
    (record taken { start = taken.end })
    (subst (λ (o : Option ℕ). MatchOption o (HasNoFeed text) (IsFirstFeed text)) c.in_default-feed_behind.is
    c.feed_behind.ensures)
    c.if-place.true refl refl refl refl told

pub loop-taken-preserved : goal.loop-taken-preserved
loop-taken-preserved g c =
    let room = c.take_more.new.room in
    let taken = c.in-Some.taken in
    let text = pending room taken in (
      passes_on (T g.T.Shows.tells) (g.T.Shows.world c.args.stage.now) (g.T.Shows.world c.loop-taken.stage)
          (g.T.Shows.world c.take_more.new.stage) _ _ (g.T.Shows.faults c.take_more.new.stage) c.args.place c.loop-taken.place
          (record c.loop-taken.place { start = 0; end = 0 })
          taken c.loop-taken.room room c.loop-taken.invariant.0 refl refl refl
          (subst (λ (o : Option Place). IfSome o (IsPlace room)) c.in-Some.is c.in_ok-taken.ensures.place)
          (subst (λ (o : Option Place). IfSome o (Grows (record c.loop-taken.place { start = 0; end = 0 }))) c.in-Some.is c.in_ok-taken.ensures.grows)
          (λ t. subst (λ (o : Option Place). IfSome o (λ after. TakesMore
          (held c.loop-taken.room (record c.loop-taken.place { start = 0; end = 0 }) (g.T.Shows.world c.loop-taken.stage).script)
          (held room after (g.T.Shows.world c.take_more.new.stage).script))) c.in-Some.is (c.in_ok-taken.ensures.takes t))
          (subst (λ (o : Option ℕ). MatchOption o (HasNoFeed text) (IsFirstFeed text)) c.in_default-feed_behind.is
          c.feed_behind.ensures)
          c.if-place.false
          c.in_ok-taken.ensures.only c.in_ok-taken.ensures.fails.still,
      c.in_ok-taken.ensures.room ∙ c.loop-taken.invariant.1,
    )
