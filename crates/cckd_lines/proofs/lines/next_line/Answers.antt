use Rattle.std.proofs.Common.{◌≡◌, ◌<◌, ◌-◌, length, drop, Option, IfNone, MatchOption, ℕ, ◌∙◌, sym, ap, subst, arith}
use Rattle.std.proofs.lemmas.Bool.{false≢true}
use Rattle.cckd_lines.specs.declared.lines.Place.{Place}
use Rattle.cckd_script.specs.Lines.{HasNoFeed}
use Rattle.cckd_lines.specs.Lines.{IsFirstFeed, IsNext, BreaksOff, line_next, held, pending}
use Rattle.cckd_lines.proofs.FindLemmas.{finds_line, finds_last, finds_limit, finds_passed, breaks_off, breaks_off_later, if_ok_map, on_err_map, on_err}
use Rattle.cckd_lines.proofs.lines.next_line.Goals as goal
use Rattle.cckd_lines.proofs.lines.next_line.Goals.{else-place-via-then-place+else-len-eq0, else-place-via-else-place}

pub returns-in-Some-clause-next : goal.returns-in-Some-clause-next
returns-in-Some-clause-next g c = λ told.
    let place = c.loop-at.place in
    let room = c.loop-at.room in
    let at = c.in-Some.at in
    let text = pending room place in
    let feed = subst (λ (o : Option ℕ). MatchOption o (HasNoFeed text) (IsFirstFeed text)) c.in-Some.is
    c.feed_behind.ensures in
    let found = finds_line _ _ _ _ _ _ _ _ _ c.loop-at.invariant.0 at feed told in
    let start = (g.T.Shows.world c.args.stage.now).script in
    let left = (g.T.Shows.world c.loop-at.stage).script in
    let begun = held c.args.room.now c.args.place start in
    subst (IsNext begun (held room c.cut_off.result.1 left))
    (sym c.cut_off.ensures.next)
    (subst (λ (p : Place). IsNext begun (held room p left) (line_next place.start at))
    (sym c.cut_off.ensures.place) found)

pub returns-then-place-2-clause-next : goal.returns-then-place-2-clause-next
returns-then-place-2-clause-next g c = λ told.
    let place = c.loop-at.place in
    let room = c.loop-at.room in
    let text = pending room place in
    let none = subst (λ (o : Option ℕ). MatchOption o (HasNoFeed text) (IsFirstFeed text)) c.in_default.is
    c.feed_behind.ensures in
    let some_there : 0 < place.end - place.start = elim c.else-place.branch [
      | else-place-via-then-place+else-len-eq0 w ↦ omega (arith, w.if-len-eq0.false)
      | else-place-via-else-place w ↦ absurd (false≢true (sym w.if-place.false ∙ c.if-place-2.true))
    ] in
    let found = finds_last _ _ _ _ _ _ _ _ _ c.loop-at.invariant.0 none c.if-place-2.true some_there told in
    let start = (g.T.Shows.world c.args.stage.now).script in
    let left = (g.T.Shows.world c.loop-at.stage).script in
    let begun = held c.args.room.now c.args.place start in
    let cut = c.cut_off-then-place-2 in
    subst (IsNext begun (held room cut.result.1 left))
    (sym cut.ensures.next)
    (subst (λ (p : Place). IsNext begun (held room p left) (line_next place.start (place.end - place.start)))
    (sym cut.ensures.place) found)

pub returns-then-len-gt-LINE_LIMIT-clause-next : goal.returns-then-len-gt-LINE_LIMIT-clause-next
returns-then-len-gt-LINE_LIMIT-clause-next g c = λ told.
    let place = c.loop-at.place in
    let text = pending c.loop-at.room place in
    let none = subst (λ (o : Option ℕ). MatchOption o (HasNoFeed text) (IsFirstFeed text)) c.in_default.is
    c.feed_behind.ensures in
    if_ok_map _ _ c.pass_line.result (c.pass_line.ensures.passes told)
    (λ found passes. finds_passed _ _ _ _ _ _ _ _ _ c.loop-at.invariant.0 _ (g.T.Shows.world c.pass_line.new.stage) found.1 found.0 none c.if-len-gt-LINE_LIMIT.true passes told)

pub returns-then-len-gt-LINE_LIMIT-clause-broken : goal.returns-then-len-gt-LINE_LIMIT-clause-broken
returns-then-len-gt-LINE_LIMIT-clause-broken g c = λ told.
    let place = c.loop-at.place in
    let text = pending c.loop-at.room place in
    let none = subst (λ (o : Option ℕ). MatchOption o (HasNoFeed text) (IsFirstFeed text)) c.in_default.is
    c.feed_behind.ensures in
    on_err_map (BreaksOff c.loop-at.place.left (g.T.Shows.world c.loop-at.stage).script (g.T.Shows.world c.pass_line.new.stage).script) _ c.pass_line.result (c.pass_line.ensures.broken told)
    (λ broken. breaks_off_later _ _ _ _ _ _ _ _ _ c.loop-at.invariant.0 (g.T.Shows.world c.pass_line.new.stage) none (λ _. broken) told)

pub returns-in_err-taken-clause-broken : goal.returns-in_err-taken-clause-broken
returns-in_err-taken-clause-broken g c = λ told.
    let place = c.loop-at.place in
    let text = pending c.loop-at.room place in
    let none = subst (λ (o : Option ℕ). MatchOption o (HasNoFeed text) (IsFirstFeed text)) c.in_default.is
    c.feed_behind.ensures in
    on_err _ _ (breaks_off _ _ _ _ _ _ _ _ _ c.loop-at.invariant.0 (g.T.Shows.world c.take_more.new.stage) none (c.in_err-taken.ensures.kept) told)

pub returns-in_default-2-clause-next : goal.returns-in_default-2-clause-next
returns-in_default-2-clause-next g c = λ told.
    let place = c.loop-at.place in
    let text = pending c.loop-at.room place in
    let none = subst (λ (o : Option ℕ). MatchOption o (HasNoFeed text) (IsFirstFeed text)) c.in_default.is
    c.feed_behind.ensures in
    finds_limit _ _ _ _ _ _ _ _ _ c.loop-at.invariant.0 c.take_more.new.room (g.T.Shows.world c.take_more.new.stage)
    (record c.moved_to_front-place.result { start = c.moved_to_front-place.result.end }) none
    (sym (ap (λ (p : Place). p.left) c.moved_to_front-place.ensures.end)
    ∙ subst (λ (o : Option Place). IfNone o (c.moved_to_front-place.result.left ≡ 0)) c.in_default-2.is c.in_ok-taken.ensures.past)
    (λ t. subst (λ (o : Option Place). IfNone o (0 < length (g.T.Shows.world c.loop-at.stage).script)) c.in_default-2.is (c.in_ok-taken.ensures.some t))
    (λ t. subst (λ (o : Option Place). IfNone o ((g.T.Shows.world c.take_more.new.stage).script ≡ drop 1 (g.T.Shows.world c.loop-at.stage).script)) c.in_default-2.is (c.in_ok-taken.ensures.one t))
    (omega arith) told
