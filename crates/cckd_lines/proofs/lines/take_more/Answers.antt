use Rattle.std.proofs.Common.{true, ◌+◌, ◌-◌, refl, ap, arith, ◌∙◌, sym, ◌≡◌, ℕ, drop}
use Rattle.std.proofs.lemmas.Bool.{false≢true}
use Rattle.cckd_shelf.specs.World.{World}
use Rattle.cckd_lines.proofs.FillLemmas.{took, front_stays}
use Rattle.cckd_lines.proofs.lines.take_more.Goals as goal

pub returns-then-count-eq0-clause-takes : goal.returns-then-count-eq0-clause-takes
returns-then-count-eq0-clause-takes g c = λ told.
    let script = (g.T.Shows.world c.args.stage.now).script in
    let none = c.if-count-eq0.true in
    let rest : (g.T.Shows.world c.take.new.self).script ≡ drop c.in_ok-count.count script =
    ap (λ (w : World). w.script) (c.in_ok-count.ensures.left told) in
    took c.args.room.now c.take.new.into c.args.place _ script _ c.in_ok-count.count _ c.requires.place
    (omega (arith, c.in_ok-count.ensures.fits)) (c.in_ok-count.ensures.next told).bytes_are
    rest refl (omega arith)
    (λ _. rest ∙ ap (λ (n : ℕ). drop n script) none ∙ (c.in_ok-count.ensures.next told).end none)

pub returns-clause-takes : goal.returns-clause-takes
returns-clause-takes g c = λ told.
    let script = (g.T.Shows.world c.args.stage.now).script in
    let rest : (g.T.Shows.world c.take.new.self).script ≡ drop c.in_ok-count.count script =
    ap (λ (w : World). w.script) (c.in_ok-count.ensures.left told) in
    took c.args.room.now c.take.new.into c.args.place _ script _ c.in_ok-count.count _ c.requires.place
    (omega (arith, c.in_ok-count.ensures.fits)) (c.in_ok-count.ensures.next told).bytes_are
    rest refl refl (λ ended. absurd (false≢true (sym c.requires.going_on ∙ ended)))

pub returns-then-count-eq0-clause-front : goal.returns-then-count-eq0-clause-front
returns-then-count-eq0-clause-front g c =
    front_stays c.args.room.now c.take.new.into c.args.place (record c.args.place { ended = true }) c.in_ok-count.count _ c.requires.place
    (omega (arith, c.in_ok-count.ensures.fits)) refl (omega (arith, c.if-count-eq0.true))

pub returns-clause-front : goal.returns-clause-front
returns-clause-front g c =
    front_stays c.args.room.now c.take.new.into c.args.place
    (record c.args.place { end = c.args.place.end + c.in_ok-count.count; left = c.args.place.left - c.in_ok-count.count }) c.in_ok-count.count _ c.requires.place
    (omega (arith, c.in_ok-count.ensures.fits)) refl refl
