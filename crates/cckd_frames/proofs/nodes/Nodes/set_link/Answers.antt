use Rattle.std.proofs.Common.{sym, ap, ◌∙◌, subst, set}
use Rattle.cckd_frames.specs.RowLends.{with_item}
use Rattle.cckd_frames.specs.declared.node.Node.{Node}
use Rattle.cckd_frames.specs.Items.{place_of}
use Rattle.cckd_frames.specs.Placed.{IsStored, words_of}
use Rattle.cckd_frames.proofs.Placing.{is_item, stored_link, writes_link}
use Rattle.cckd_frames.proofs.nodes.Nodes.set_link.Goals as goal

pub item_mut-requires : goal.item_mut-requires
item_mut-requires c = let i = c.self.inside in is_item i.first.ptr i.row c.args.self.now c.self.view_is c.self.invariant c.args.at.ptr c.requires.nodes.0

pub invariant_of-self : goal.invariant_of-self
invariant_of-self c =
    let i = c.self.inside in
    subst (λ (n : Node). IsStored i.first.ptr (with_item i.row (place_of 56 (i.row.at) c.args.at.ptr) n)) (sym c.set_link.ensures)
    (stored_link i.first.ptr i.row c.args.self.now c.self.view_is c.self.invariant c.args.at.ptr c.requires.nodes.0 c.item_mut.result.now c.item_mut.ensures.value c.args.way c.args.to c.requires.nodes.1)

pub returns-clause-words : goal.returns-clause-words
returns-clause-words c =
    let i = c.self.inside in
    ap (λ (n : Node). words_of i.first.ptr (set i.row.items (place_of 56 (i.row.at) c.args.at.ptr) n)) c.set_link.ensures
    ∙ writes_link i.first.ptr i.row c.args.self.now c.self.view_is c.self.invariant c.args.at.ptr c.requires.nodes.0 c.item_mut.result.now c.item_mut.ensures.value c.args.way c.args.to c.requires.nodes.1
