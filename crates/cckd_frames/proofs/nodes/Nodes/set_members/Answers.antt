use Rattle.std.proofs.Common.{refl, lit<}
use Rattle.cckd_frames.proofs.Placing.{is_item, stored, writes}
use Rattle.cckd_frames.proofs.nodes.Nodes.set_members.Goals as goal

pub item_mut-requires : goal.item_mut-requires
item_mut-requires c = let i = c.self.inside in is_item i.first.ptr i.row c.args.self.now c.self.view_is c.self.invariant c.args.at.ptr c.requires

pub invariant_of-self : goal.invariant_of-self
invariant_of-self c =
    let i = c.self.inside in
    stored i.first.ptr i.row c.args.self.now c.self.view_is c.self.invariant c.args.at.ptr c.requires c.item_mut.result.now c.item_mut.ensures.value c.item_mut.result.now.key c.args.members c.item_mut.result.now.len c.item_mut.result.now.mark

pub returns-clause-words : goal.returns-clause-words
returns-clause-words c =
    let i = c.self.inside in
    writes i.first.ptr i.row c.args.self.now c.self.view_is c.self.invariant c.args.at.ptr c.requires c.item_mut.result.now c.item_mut.ensures.value _ 5 c.args.members (lit< tt) refl
