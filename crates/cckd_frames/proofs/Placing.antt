-- A node is read or written through a pointer, and the words follow.
use Rattle.std.proofs.Common.{◌≡◌, inl, inr, ℕ, zero, suc, ◌+◌, ◌-◌, ◌*◌, ◌<◌, List, [], ◌∷◌, ◌++◌, length, get_or, set, refl, sym, ap, ◌∙◌, subst, arith, lit<, length-set, length-append, Option}
use Rattle.std.proofs.lemmas.List.{get_or-set_same, get_or-set_other, get_or_append_left, get_or-append-add, set-append_left, set-append_right}
use denote.RawPtr.{Ptr, ◌+ₚ◌}
use Rattle.cckd_frames.specs.declared.block.Row.{Row}
use Rattle.cckd_frames.specs.declared.node.Node.{Node}
use Rattle.cckd_frames.specs.declared.node.NodePtr.{NodePtr}
use Rattle.cckd_frames.specs.declared.node.Way.{Way}
use Rattle.cckd_frames.specs.declared.node.Way.TheVariants.{Older, Newer, After, Before}
use Rattle.cckd_frames.specs.Items.{place_of, IsItem}
use Rattle.cckd_frames.specs.Links.{link_of, with_link}
use Rattle.cckd_frames.specs.RowLends.{with_item}
use Rattle.cckd_frames.specs.Nodes.{word, with_word, flag_of, mark_word}
use Rattle.cckd_frames.specs.Table.{mark_of, marked}
use Rattle.cckd_frames.proofs.RingLemmas.{same_or_not}
use Rattle.cckd_frames.proofs.Writes.{mark_back}
use Rattle.cckd_frames.specs.Placed.{Placed, number_of, IsNode, column_of, node_words, words_of, PointsIn, IsLinked, IsStored}

pub length-words : (f : Ptr) (ns : List Node) → length (words_of f ns) ≡ 9 * length ns
length-words f [] = refl
length-words f (n ∷ ns) = omega (arith, length-append (node_words f n) (words_of f ns), length-words f ns)

word_at : (f : Ptr) (ns : List Node) (k c : ℕ) (d : Node) → k < length ns → c < 9 → get_or (words_of f ns) (9 * k + c) 0 ≡ get_or (node_words f (get_or ns k d)) c 0
word_at f [] k c d h lt = absurd (omega arith)
word_at f (n ∷ ns) zero c d h lt =
    let e : 9 * 0 + c ≡ c = omega arith in
    ap (λ i. get_or (node_words f n ++ words_of f ns) i 0) e ∙ get_or_append_left (node_words f n) (words_of f ns) 0 c lt
word_at f (n ∷ ns) (suc k) c d h lt =
    let e : 9 * suc k + c ≡ 9 + (9 * k + c) = omega arith in
    ap (λ i. get_or (node_words f n ++ words_of f ns) i 0) e ∙ (get_or-append-add (node_words f n) (words_of f ns) (9 * k + c) 0 ∙ word_at f ns k c d (omega arith) lt)

words_set : (f : Ptr) (ns : List Node) (k c v : ℕ) (d n' : Node) → k < length ns → c < 9 → node_words f n' ≡ set (node_words f (get_or ns k d)) c v
    → words_of f (set ns k n') ≡ set (words_of f ns) (9 * k + c) v
words_set f [] k c v d n' h lt e = absurd (omega arith)
words_set f (n ∷ ns) zero c v d n' h lt e =
    let at : 9 * 0 + c ≡ c = omega arith in
    ap (λ (l : List ℕ). l ++ words_of f ns) e ∙ sym (ap (λ i. set (node_words f n ++ words_of f ns) i v) at ∙ set-append_left (node_words f n) (words_of f ns) c v lt)
words_set f (n ∷ ns) (suc k) c v d n' h lt e =
    let at : 9 * suc k + c - 9 ≡ 9 * k + c = omega arith in
    ap (λ (l : List ℕ). node_words f n ++ l) (words_set f ns k c v d n' (omega arith) lt e)
    ∙ sym (set-append_right (node_words f n) (words_of f ns) 9 (9 * suc k + c) v refl (omega arith) ∙ ap (λ i. node_words f n ++ set (words_of f ns) i v) at)

-- the same of two words
words_set_two : (f : Ptr) (ns : List Node) (k c e u v : ℕ) (d n' : Node) → k < length ns → c < 9 → e < 9 → node_words f n' ≡ set (set (node_words f (get_or ns k d)) c u) e v
    → words_of f (set ns k n') ≡ set (set (words_of f ns) (9 * k + c) u) (9 * k + e) v
words_set_two f [] k c e u v d n' h lt le q = absurd (omega arith)
words_set_two f (n ∷ ns) zero c e u v d n' h lt le q =
    let at : 9 * 0 + c ≡ c = omega arith in let to : 9 * 0 + e ≡ e = omega arith in
    let size = length-set (node_words f n) c u in
    ap (λ (l : List ℕ). l ++ words_of f ns) q
    ∙ sym ((λ j. set (set (node_words f n ++ words_of f ns) (at j) u) (to j) v)
    ∙ (ap (λ (l : List ℕ). set l e v) (set-append_left (node_words f n) (words_of f ns) c u lt) ∙ set-append_left (set (node_words f n) c u) (words_of f ns) e v (omega arith)))
words_set_two f (n ∷ ns) (suc k) c e u v d n' h lt le q =
    let at : 9 * suc k + c - 9 ≡ 9 * k + c = omega arith in let to : 9 * suc k + e - 9 ≡ 9 * k + e = omega arith in
    ap (λ (l : List ℕ). node_words f n ++ l) (words_set_two f ns k c e u v d n' (omega arith) lt le q)
    ∙ sym (ap (λ (l : List ℕ). set l (9 * suc k + e) v) (set-append_right (node_words f n) (words_of f ns) 9 (9 * suc k + c) u refl (omega arith) ∙ ap (λ i. node_words f n ++ set (words_of f ns) i u) at)
    ∙ (set-append_right (node_words f n) (set (words_of f ns) (9 * k + c) u) 9 (9 * suc k + e) v refl (omega arith) ∙ ap (λ i. node_words f n ++ set (set (words_of f ns) (9 * k + c) u) i v) to))

linked_set : (f : Ptr) (ns : List Node) (k : ℕ) (n : Node) → k < length ns → ((w : Way) → PointsIn f (length ns) (link_of w n).ptr) → n.number ≡ k → IsLinked f ns → IsLinked f (set ns k n)
linked_set f ns k n h points number l =
    let same : length (set ns k n) ≡ length ns = length-set ns k n in record {
      block = l.block;
      links = λ w j d lt. subst (λ (m : ℕ). PointsIn f m (link_of w (get_or (set ns k n) j d)).ptr) (sym same) (elim (same_or_not j k) [
        | inl e ↦ subst (λ (x : Node). PointsIn f (length ns) (link_of w x).ptr) (sym (ap (λ i. get_or (set ns k n) i d) e ∙ get_or-set_same ns k n d h)) (points w)
        | inr ne ↦ subst (λ (x : Node). PointsIn f (length ns) (link_of w x).ptr) (sym (get_or-set_other ns k j n d ne)) (l.links w j d (omega arith))
      ]);
      numbers = λ j d lt. elim (same_or_not j k) [
        | inl e ↦ ap (λ (x : Node). x.number) (ap (λ i. get_or (set ns k n) i d) e ∙ get_or-set_same ns k n d h) ∙ (number ∙ sym e)
        | inr ne ↦ ap (λ (x : Node). x.number) (get_or-set_other ns k j n d ne) ∙ l.numbers j d (omega arith)
      ];
    }

column_small : (w : Way) → column_of w < 9
column_small Older = lit< tt
column_small Newer = lit< tt
column_small After = lit< tt
column_small Before = lit< tt

link_word : (w : Way) (f : Ptr) (n : Node) → get_or (node_words f n) (column_of w) 0 ≡ place_of 56 f (link_of w n).ptr
link_word Older f n = refl
link_word Newer f n = refl
link_word After f n = refl
link_word Before f n = refl

relinked_words : (w : Way) (f : Ptr) (to : NodePtr) (n : Node) → node_words f (with_link w to n) ≡ set (node_words f n) (column_of w) (place_of 56 f to.ptr)
relinked_words Older f to n = refl
relinked_words Newer f to n = refl
relinked_words After f to n = refl
relinked_words Before f to n = refl

relinked_links : (P : Ptr → Type 0) (w : Way) (to : NodePtr) (n : Node) → P to.ptr → ((u : Way) → P (link_of u n).ptr) → (u : Way) → P (link_of u (with_link w to n)).ptr
relinked_links P Older to n p q Older = p
relinked_links P Older to n p q Newer = q Newer
relinked_links P Older to n p q After = q After
relinked_links P Older to n p q Before = q Before
relinked_links P Newer to n p q Older = q Older
relinked_links P Newer to n p q Newer = p
relinked_links P Newer to n p q After = q After
relinked_links P Newer to n p q Before = q Before
relinked_links P After to n p q Older = q Older
relinked_links P After to n p q Newer = q Newer
relinked_links P After to n p q After = p
relinked_links P After to n p q Before = q Before
relinked_links P Before to n p q Older = q Older
relinked_links P Before to n p q Newer = q Newer
relinked_links P Before to n p q After = q After
relinked_links P Before to n p q Before = p

relinked_number : (w : Way) (to : NodePtr) (n : Node) → (with_link w to n).number ≡ n.number
relinked_number Older to n = refl
relinked_number Newer to n = refl
relinked_number After to n = refl
relinked_number Before to n = refl

-- a node with other data, which keeps its links and its number
abbrev pub with_data : Node → ℕ → ℕ → ℕ → Option ℕ → Node
with_data n key members len mark = record { older = n.older; newer = n.newer; after = n.after; before = n.before; key = key; members = members; len = len; mark = mark; number = n.number }

data_links : (n : Node) (key members len : ℕ) (mark : Option ℕ) (w : Way) → link_of w (with_data n key members len mark) ≡ link_of w n
data_links n key members len mark Older = refl
data_links n key members len mark Newer = refl
data_links n key members len mark After = refl
data_links n key members len mark Before = refl

-- what contracts see of the nodes of a vector
abbrev pub placed : Ptr → Row Node → Placed
placed f r = record { first = f; words = words_of f r.items }

module _ (f : Ptr) (r : Row Node) (t : Placed) (e : placed f r ≡ t) (s : IsStored f r) where
  -- a pointer to a node, among the items of the vector
  inside : (p : Ptr) → IsNode t p → (p ≡ f +ₚ place_of 56 f p * 56) × (place_of 56 f p < length r.items)
  inside p node =
      let here : IsNode (placed f r) p = subst (λ (u : Placed). IsNode u p) (sym e) node in
      (here.0, (let a = here.1 in let l = length-words f r.items in omega arith))

  pub is_node : (p : Ptr) → PointsIn f (length r.items) p → IsNode t p
  is_node p at = subst (λ (u : Placed). IsNode u p) e (at.0, (let a = at.1 in let l = length-words f r.items in omega arith))

  pub number_is : (p : Ptr) → place_of 56 f p ≡ number_of t p
  number_is p = ap (λ (u : Placed). number_of u p) e

  pub is_item : (p : Ptr) → IsNode t p → IsItem 56 r.at (length r.items) p
  is_item p node = subst (λ (a : Ptr). IsItem 56 a (length r.items) p) s.begins (inside p node)

  -- the node that the pointer gives
  module _ (p : Ptr) (node : IsNode t p) (n : Node) (got : n ≡ get_or r.items (place_of 56 (r.at) p) n) where
    k : ℕ
    k = place_of 56 f p

    here : n ≡ get_or r.items (place_of 56 f p) n
    here = got ∙ ap (λ (a : Ptr). get_or r.items (place_of 56 a p) n) (sym s.begins)

    pub reads : (c : ℕ) → c < 9 → get_or (node_words f n) c 0 ≡ word t.words c (number_of t p)
    reads c lt =
        sym (ap (λ (u : Placed). word u.words c (number_of u p)) (sym e)
        ∙ (word_at f r.items (place_of 56 f p) c n (inside p node).1 lt ∙ ap (λ (x : Node). get_or (node_words f x) c 0) (sym here)))

    points : (w : Way) → PointsIn f (length r.items) (link_of w n).ptr
    points w = subst (λ (x : Node). PointsIn f (length r.items) (link_of w x).ptr) (sym here) (s.linked.links w (place_of 56 f p) n (inside p node).1)

    pub number_read : n.number ≡ number_of t p
    number_read = ap (λ (x : Node). x.number) here ∙ (s.linked.numbers (place_of 56 f p) n (inside p node).1 ∙ number_is p)

    pub link_node : (w : Way) → IsNode t (link_of w n).ptr
    link_node w = is_node (link_of w n).ptr (points w)

    pub link_reads : (w : Way) → number_of t (link_of w n).ptr ≡ word t.words (column_of w) (number_of t p)
    link_reads w = sym (number_is (link_of w n).ptr) ∙ (sym (link_word w f n) ∙ reads (column_of w) (column_small w))

    -- another node in its place, with links to nodes and the same number
    stored_with : (m : Node) → ((w : Way) → PointsIn f (length r.items) (link_of w m).ptr) → m.number ≡ n.number → IsStored f (with_item r (place_of 56 (r.at) p) m)
    stored_with m links number = record {
      begins = s.begins;
      full = s.full ∙ sym (length-set r.items (place_of 56 r.at p) m);
      linked = subst (λ (a : Ptr). IsLinked f (set r.items (place_of 56 a p) m)) s.begins
          (linked_set f r.items (place_of 56 f p) m (inside p node).1 links (number ∙ (number_read ∙ sym (number_is p))) s.linked);
    }

    -- the same, where the node keeps its links
    pub stored : (key members len : ℕ) (mark : Option ℕ) → IsStored f (with_item r (place_of 56 (r.at) p) (with_data n key members len mark))
    stored key members len mark = stored_with (with_data n key members len mark) (λ w. subst (λ (q : NodePtr). PointsIn f (length r.items) q.ptr) (sym (data_links n key members len mark w)) (points w)) refl

    pub writes : (m : Node) (c x : ℕ) → c < 9 → node_words f m ≡ set (node_words f n) c x
        → words_of f (set r.items (place_of 56 (r.at) p) m) ≡ with_word t.words c (number_of t p) x
    writes m c x lt new =
        ap (λ (a : Ptr). words_of f (set r.items (place_of 56 a p) m)) (sym s.begins)
        ∙ (words_set f r.items (place_of 56 f p) c x n m (inside p node).1 lt (new ∙ ap (λ (y : Node). set (node_words f y) c x) here)
        ∙ ap (λ (u : Placed). with_word u.words c (number_of u p) x) e)

    pub reads_mark : n.mark ≡ mark_of (word t.words 7 (number_of t p)) (word t.words 8 (number_of t p))
    reads_mark = sym (mark_back n.mark) ∙ (λ j. mark_of (reads 7 (lit< tt) j) (reads 8 (lit< tt) j))

    pub writes_mark : (mark : Option ℕ) → words_of f (set r.items (place_of 56 (r.at) p) (with_data n n.key n.members n.len mark)) ≡ marked (number_of t p) mark t.words
    writes_mark mark =
        let m = with_data n n.key n.members n.len mark in
        ap (λ (a : Ptr). words_of f (set r.items (place_of 56 a p) m)) (sym s.begins)
        ∙ (words_set_two f r.items (place_of 56 f p) 7 8 (flag_of mark) (mark_word mark) n m (inside p node).1 (lit< tt) (lit< tt) (ap (λ (y : Node). set (set (node_words f y) 7 (flag_of mark)) 8 (mark_word mark)) here)
        ∙ ap (λ (u : Placed). marked (number_of u p) mark u.words) e)

    module _ (w : Way) (to : NodePtr) (target : IsNode t to.ptr) where
      pub stored_link : IsStored f (with_item r (place_of 56 (r.at) p) (with_link w to n))
      stored_link = stored_with (with_link w to n) (relinked_links (λ (q : Ptr). PointsIn f (length r.items) q) w to n (inside to.ptr target) points) (relinked_number w to n)

      pub writes_link : words_of f (set r.items (place_of 56 (r.at) p) (with_link w to n)) ≡ with_word t.words (column_of w) (number_of t p) (number_of t to.ptr)
      writes_link =
          writes (with_link w to n) (column_of w) (place_of 56 f to.ptr) (column_small w) (relinked_words w f to n)
          ∙ ap (λ i. with_word t.words (column_of w) (number_of t p) i) (number_is to.ptr)
