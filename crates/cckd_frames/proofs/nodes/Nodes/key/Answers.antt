use Rattle.std.proofs.Common.{lit<}
use Rattle.cckd_frames.proofs.Placing.{is_item, reads}
use Rattle.cckd_frames.proofs.nodes.Nodes.key.Goals as goal

pub item-requires : goal.item-requires
item-requires c = let i = c.self.inside in is_item i.first.ptr i.row c.args.self.now c.self.view_is c.self.invariant c.args.at.ptr c.requires

pub returns : goal.returns
returns c = let i = c.self.inside in reads i.first.ptr i.row c.args.self.now c.self.view_is c.self.invariant c.args.at.ptr c.requires c.item.result.now c.item.ensures 4 (lit< tt)
