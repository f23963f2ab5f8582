use Rattle.std.proofs.Common.{sym, ap, ◌∙◌, subst}
use Rattle.cckd_frames.specs.declared.node.NodePtr.{NodePtr}
use Rattle.cckd_frames.specs.Placed.{IsNode, number_of}
use Rattle.cckd_frames.proofs.Placing.{is_item, link_node, link_reads}
use Rattle.cckd_frames.proofs.nodes.Nodes.link.Goals as goal

pub item-requires : goal.item-requires
item-requires c = let i = c.self.inside in is_item i.first.ptr i.row c.args.self.now c.self.view_is c.self.invariant c.args.at.ptr c.requires

pub returns-clause-node : goal.returns-clause-node
returns-clause-node c =
    let i = c.self.inside in
    subst (λ (q : NodePtr). IsNode c.args.self.now q.ptr) (sym c.link.ensures) (link_node i.first.ptr i.row c.args.self.now c.self.view_is c.self.invariant c.args.at.ptr c.requires c.item.result.now c.item.ensures c.args.way)

pub returns-clause-value : goal.returns-clause-value
returns-clause-value c =
    let i = c.self.inside in
    ap (λ (q : NodePtr). number_of c.args.self.now q.ptr) c.link.ensures ∙ link_reads i.first.ptr i.row c.args.self.now c.self.view_is c.self.invariant c.args.at.ptr c.requires c.item.result.now c.item.ensures c.args.way
