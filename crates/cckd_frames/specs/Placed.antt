-- The nodes in memory, and the words that they stand for.
use Rattle.std.specs.Prelude.{◌≡◌, ℕ, ◌*◌, ◌<◌, List, [], ◌∷◌, ◌++◌, length, get_or}
use denote.RawPtr.{Ptr, InBlock, ◌+ₚ◌}
use Rattle.cckd_frames.specs.declared.block.Row.{Row}
use Rattle.cckd_frames.specs.declared.node.Node.{Node}
use Rattle.cckd_frames.specs.declared.node.NodePtr.{NodePtr}
use Rattle.cckd_frames.specs.declared.node.Way.{Way}
use Rattle.cckd_frames.specs.declared.node.Way.TheVariants.{Older, Newer, After, Before}
use Rattle.cckd_frames.specs.Items.{place_of}
use Rattle.cckd_frames.specs.Links.{link_of, fresh}
use Rattle.cckd_frames.specs.Nodes.{older_column, newer_column, after_column, before_column, flag_of, mark_word}

-- where the nodes begin, and the words of all of them
pub record Placed : Type 0 where
  pub first : Ptr
  pub words : List ℕ

-- the number of the node at a pointer. A node takes 56 bytes
abbrev pub number_of : Placed → Ptr → ℕ
number_of t p = place_of 56 t.first p

-- a node lies at p
abbrev pub IsNode : Placed → Ptr → Type 0
IsNode t p = (p ≡ t.first +ₚ number_of t p * 56) × (9 * number_of t p < length t.words)

-- the word in which a link stands
abbrev pub column_of : Way → ℕ
column_of Older = older_column
column_of Newer = newer_column
column_of After = after_column
column_of Before = before_column

-- the nine words of a node, where a link is the number of the node that it points to
abbrev pub node_words : Ptr → Node → List ℕ
node_words first n =
    place_of 56 first n.older.ptr ∷ place_of 56 first n.newer.ptr ∷ place_of 56 first n.after.ptr ∷ place_of 56 first n.before.ptr
    ∷ n.key ∷ n.members ∷ n.len ∷ flag_of n.mark ∷ mark_word n.mark ∷ []

-- the words of all nodes, one node after another
abbrev pub words_of : Ptr → List Node → List ℕ
words_of first [] = []
words_of first (n ∷ ns) = node_words first n ++ words_of first ns

-- a pointer to one of n nodes
abbrev pub PointsIn : Ptr → ℕ → Ptr → Type 0
PointsIn first n p = (p ≡ first +ₚ place_of 56 first p * 56) × (place_of 56 first p < n)

-- each link of each node points to a node, and each node knows its number
pub record IsLinked (first : Ptr) (ns : List Node) : Type 0 where
  pub block : InBlock first
  pub links : (w : Way) (k : ℕ) (d : Node) → k < length ns → PointsIn first (length ns) (link_of w (get_or ns k d)).ptr
  pub numbers : (k : ℕ) (d : Node) → k < length ns → (get_or ns k d).number ≡ k

-- the nodes of the row begin at the pointer, and are linked, and there is room for no more
pub record IsStored (first : Ptr) (r : Row Node) : Type 0 where
  pub begins : first ≡ r.at
  pub full : r.room ≡ length r.items
  pub linked : IsLinked first r.items

-- the first n nodes are linked to one alone, and numbered
abbrev pub AreNumbered : NodePtr → ℕ → List Node → Type 0
AreNumbered to n ns = (k : ℕ) (d : Node) → k < n → get_or ns k d ≡ fresh to k
