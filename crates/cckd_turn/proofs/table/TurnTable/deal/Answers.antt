use Rattle.std.proofs.Common.{◌≡◌, suc, ◌+◌, ◌-◌, ⊎_elim, Some, arith, sym, ap, ◌∙◌, subst}
use Rattle.std.specs.Prelude.{slice_get}
use Rattle.cckd_turn.specs.Views.{dealt}
use Rattle.cckd_turn.specs.Passes.{IsNew}
use Rattle.cckd_turn.proofs.DealLemmas.{deals}
use Rattle.cckd_turn.proofs.PassLemmas.{dealing, dealer_goes_on, enough_left, get_after_push, made_new, last_dealt}
use Rattle.cckd_turn.proofs.table.TurnTable.deal.Goals as goal

pub split_seat-other-requires : goal.split_seat-other-requires
split_seat-other-requires g c =
    let words = c.args.self.now.words in
    let i = c.loop-number.invariant in (
      i.table,
      omega arith,
      deals g.V.Stands.stands g.V.Stands.by c.args.self.now.table.shared.key _ c.loop-number.seat.me.0 (ap (λ m. m.0.state) i.me) (enough_left c.args.terms _ _ _ (ap (λ m. m.0) i.me)),
    )

pub loop-number-preserved : goal.loop-number-preserved
loop-number-preserved g c =
    let i = c.loop-number.invariant in
    let s = c.split_seat-other.ensures in
    let pushed = c.push_reserved.ensures in
    let number = c.loop-number.number in
    let others = c.args.terms.callers - 1 - (number + 1) in
    let more : c.args.terms.callers - 1 - number ≡ suc others = omega arith in
    let me = ap (λ m. m.0) i.me ∙ ap (dealing c.args.terms number) more in
    record {
      table = s.0 ∙ i.table;
      me = dealer_goes_on c.args.terms number others _ _ _ me (ap (λ m. m.1) i.me) s.2;
      count = omega arith;
      room = omega arith;
      new = λ k p at. ⊎_elim
          (λ was. i.new k p was)
          (λ t. subst (IsNew c.args.self.now k) t.1 (made_new c.args.self.now c.args.terms k number c.new.result c.split_seat-other.result.me.0 c.requires.terms (omega arith)
          c.new.ensures.seat.0 (c.new.ensures.seat.1 ∙ (s.3 ∙ i.table)) (ap (λ m. m.0) s.4 ∙ ap dealt me) c.new.ensures.fields.0 c.new.ensures.fields.1 c.new.ensures.fields.2))
          (get_after_push c.loop-number.passes.items c.new.result p k (subst (λ xs. slice_get xs k ≡ Some p) pushed.items at));
    }

pub returns : goal.returns
returns g c =
    let i = c.loop-number.invariant in
    let pushed = c.push_reserved-2.ensures in
    let last = c.args.terms.callers - 1 in
    let none : last - c.loop-number.number ≡ 0 = omega arith in
    let end : c.loop-number.number ≡ last = omega arith in
    let some = c.args.self.now.callers in
    let is = ap (λ t. t.callers) c.requires.terms in
    record {
      callers_are = sym (ap (λ t. t.callers) c.requires.terms);
      each_is = sym (ap (λ t. t.each) c.requires.terms);
      count = omega arith;
      new = λ k p at. ⊎_elim
          (λ was. i.new k p was)
          (λ t. subst (IsNew c.args.self.now k) t.1 (made_new c.args.self.now c.args.terms k last c.new-2.result c.loop-number.seat.me.0 c.requires.terms (omega arith)
          c.new-2.ensures.seat.0 (c.new-2.ensures.seat.1 ∙ i.table) (last_dealt c.args.terms _ _ _ (ap (λ m. m.0) i.me) none) c.new-2.ensures.fields.0 c.new-2.ensures.fields.1 c.new-2.ensures.fields.2))
          (get_after_push c.loop-number.passes.items c.new-2.result p k (subst (λ xs. slice_get xs k ≡ Some p) pushed.items at));
    }
