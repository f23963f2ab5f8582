-- The links of a node in memory.
use Rattle.std.specs.Prelude.{ℕ, None}
use Rattle.cckd_frames.specs.declared.node.Node.{Node}
use Rattle.cckd_frames.specs.declared.node.NodePtr.{NodePtr}
use Rattle.cckd_frames.specs.declared.node.Way.{Way}
use Rattle.cckd_frames.specs.declared.node.Way.TheVariants.{Older, Newer, After, Before}

-- where the link of this kind points
abbrev pub link_of : Way → Node → NodePtr
link_of Older n = n.older
link_of Newer n = n.newer
link_of After n = n.after
link_of Before n = n.before

-- the node with this link of this kind
abbrev pub with_link : Way → NodePtr → Node → Node
with_link Older to n = record { older = to; newer = n.newer; after = n.after; before = n.before; key = n.key; members = n.members; len = n.len; mark = n.mark; number = n.number }
with_link Newer to n = record { older = n.older; newer = to; after = n.after; before = n.before; key = n.key; members = n.members; len = n.len; mark = n.mark; number = n.number }
with_link After to n = record { older = n.older; newer = n.newer; after = to; before = n.before; key = n.key; members = n.members; len = n.len; mark = n.mark; number = n.number }
with_link Before to n = record { older = n.older; newer = n.newer; after = n.after; before = to; key = n.key; members = n.members; len = n.len; mark = n.mark; number = n.number }

-- a node that is linked to one alone
abbrev pub fresh : NodePtr → ℕ → Node
fresh to k = record { older = to; newer = to; after = to; before = to; key = 0; members = 0; len = 0; mark = None; number = k }
