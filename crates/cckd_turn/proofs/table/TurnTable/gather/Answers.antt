use Rattle.std.proofs.Common.{◌≡◌, inl, inr, ⊎_elim, Some, arith, ap, ◌∙◌, sym, subst}
use Rattle.std.specs.Prelude.{slice_get}
use Rattle.cckd_turn.specs.Passes.{IsResting}
use Rattle.cckd_turn.specs.Gathered.{HasTakenIn}
use Rattle.cckd_turn.proofs.DealLemmas.{joins}
use Rattle.cckd_turn.proofs.PassLemmas.{get_after_push, last_of_all, others_of_all}
use Rattle.cckd_turn.proofs.CloseLemmas.{first_taken_in, still_taken_in, newly_taken_in}
use Rattle.cckd_turn.proofs.table.TurnTable.gather.Goals as goal

pub loop-pass-init : goal.loop-pass-init
loop-pass-init g c =
    let items = c.in-Some.ensures.items in
    let rest = c.pop.new.self.items in
    let first = c.in-Some.first in
    let r = last_of_all (IsResting c.args.self.now) c.args.passes.items rest first items c.requires.resting in
    let seat = c.rise-seat.ensures.seat in
    record {
      table = seat.0 ∙ r.table;
      idle = ap (λ m. m.0.state) seat.1 ∙ r.idle;
      resting = others_of_all (IsResting c.args.self.now) c.args.passes.items rest first items c.requires.resting;
      each = λ k p at. ⊎_elim
          (λ was. inl (k, was))
          (λ t. inr (subst (λ q. HasTakenIn q c.rise-seat.result.me.0) t.1 (first_taken_in first c.rise-seat.result.me.0 (ap (λ m. m.0) seat.1) r.name)))
          (get_after_push rest first p k (subst (λ xs. slice_get xs k ≡ Some p) items at));
    }

pub rise-requires : goal.rise-requires
rise-requires g c =
    (last_of_all (IsResting c.args.self.now) c.loop-pass.passes.items c.pop-in-loop-pass.new.self.items c.in-Some-pop.pass c.in-Some-pop.ensures.items c.loop-pass.invariant.resting).here

pub join_seat-requires : goal.join_seat-requires
join_seat-requires g c =
    let words = c.args.self.now.words in
    let i = c.loop-pass.invariant in
    let r = last_of_all (IsResting c.args.self.now) c.loop-pass.passes.items c.pop-in-loop-pass.new.self.items c.in-Some-pop.pass c.in-Some-pop.ensures.items i.resting in
    let other = c.rise.ensures.seat in (
      i.table,
      other.0 ∙ r.table,
      ap (λ m. m.1) other.1,
      omega arith,
      joins g.V.Stands.stands g.V.Stands.by c.args.self.now.table.shared.key _ c.loop-pass.seat.me.0 _ c.rise.result.me.0 i.idle (ap (λ m. m.0.state) other.1 ∙ r.idle),
    )

pub loop-pass-preserved : goal.loop-pass-preserved
loop-pass-preserved g c =
    let i = c.loop-pass.invariant in
    let items = c.in-Some-pop.ensures.items in
    let rest = c.pop-in-loop-pass.new.self.items in
    let pass = c.in-Some-pop.pass in
    let r = last_of_all (IsResting c.args.self.now) c.loop-pass.passes.items rest pass items i.resting in
    let other = c.rise.ensures.seat in
    let j = c.join_seat.ensures in
    let view = ap (λ m. m.0) j.2 in
    record {
      table = j.0 ∙ i.table;
      idle = ap (λ m. m.0.state) j.2 ∙ i.idle;
      resting = others_of_all (IsResting c.args.self.now) c.loop-pass.passes.items rest pass items i.resting;
      each = λ k p at. ⊎_elim
          (λ here. ⊎_elim
          (λ was. inl (here.0, was))
          (λ t. inr (subst (λ q. HasTakenIn q c.join_seat.new.seat.me.0) t.1 (subst (HasTakenIn pass) (sym view) (newly_taken_in pass c.loop-pass.seat.me.0 c.rise.result.me.0 (ap (λ m. m.0) other.1) r.name))))
          (get_after_push rest pass p here.0 (subst (λ xs. slice_get xs here.0 ≡ Some p) items here.1)))
          (λ taken. inr (subst (HasTakenIn p) (sym view) (still_taken_in p c.loop-pass.seat.me.0 c.rise.result.me.0 taken)))
          (i.each k p at);
    }
