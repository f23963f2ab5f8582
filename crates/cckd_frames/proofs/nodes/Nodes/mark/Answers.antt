use Rattle.cckd_frames.proofs.Placing.{is_item, reads_mark}
use Rattle.cckd_frames.proofs.nodes.Nodes.mark.Goals as goal

pub item-requires : goal.item-requires
item-requires c = let i = c.self.inside in is_item i.first.ptr i.row c.args.self.now c.self.view_is c.self.invariant c.args.at.ptr c.requires

pub returns : goal.returns
returns c = let i = c.self.inside in reads_mark i.first.ptr i.row c.args.self.now c.self.view_is c.self.invariant c.args.at.ptr c.requires c.item.result.now c.item.ensures
