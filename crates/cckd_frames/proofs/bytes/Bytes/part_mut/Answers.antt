use Rattle.std.proofs.Common.{◌≡◌, ◌+◌, ◌≤◌, ℕ, List, length, take, drop, refl, sym, ap, ◌∙◌, subst}
use Rattle.cckd_frames.specs.Frames.{refilled}
use Rattle.cckd_frames.specs.Store.{Stored, over, with_part}
use Rattle.cckd_frames.proofs.ByteLemmas.{refilled-same, length-over}
use Rattle.cckd_frames.proofs.bytes.Bytes.part_mut.Goals as goal

pub part_mut-requires : goal.part_mut-requires
part_mut-requires c = (sym c.self.invariant.0, subst (λ (s : Stored). c.args.at + c.args.len ≤ length s.bytes) (sym c.self.view_is) c.requires)

pub returns : goal.returns
returns c =
    let i = c.self.inside in let at = c.args.at in let n = c.args.len in let xs = i.row.items in
    let inside = subst (λ (s : Stored). at + n ≤ length s.bytes) (sym c.self.view_is) c.requires in (
      (
        refl,
        λ w. subst (λ (s : Stored). record { at = i.first.ptr; room = i.row.room; bytes = refilled xs (over at n xs w) } ≡ with_part at n s w) c.self.view_is
            (ap (λ (l : List ℕ). record { at = i.first.ptr; room = i.row.room; bytes = l }) (refilled-same xs (over at n xs w) (length-over at n xs w inside))),
      ),
      record { writes_back = tt; value = c.part_mut.ensures.value ∙ ap (λ (s : Stored). take n (drop at s.bytes)) c.self.view_is },
    )
