use Rattle.std.proofs.Common.{◌≡◌, Some, sym, ◌∙◌, subst}
use mathlib.Core.Option as maybe
use Rattle.cckd_turn.specs.Passes.{Closes}
use Rattle.cckd_turn.proofs.CloseLemmas.{ends}
use Rattle.cckd_turn.proofs.table.TurnTable.close.Goals as goal

pub unreachable-requires : goal.unreachable-requires
unreachable-requires g c =
    let final = c.close_with-closed.ensures.values.2 in
    let last = ends g.V.Stands.stands g.V.Stands.by c.args.self final.0 c.gather-seat.result.id c.gather-seat.result.me.0 c.args.passes.items final.1.0 final.1.1 c.gather-seat.ensures.all c.requires in
    c.in_default.not-Some last.0 (maybe.some-injective _ _ (sym c.take.ensures.value ∙ final.4 0 (Some last.0) last.1))

pub returns : goal.returns
returns g c =
    let final = c.close_with-closed.ensures.values.2 in
    let last = ends g.V.Stands.stands g.V.Stands.by c.args.self final.0 c.gather-seat.result.id c.gather-seat.result.me.0 c.args.passes.items final.1.0 final.1.1 c.gather-seat.ensures.all c.requires in
    let took : c.take.result ≡ Some last.0 = maybe.some-injective _ _ (sym c.take.ensures.value ∙ final.4 0 (Some last.0) last.1) in
    let same : last.0 ≡ c.in-Some.value = cc (took, c.in-Some.is) in
    subst (Closes g.V.Stands.stands g.V.Stands.by c.args.passes.items) same last.2
