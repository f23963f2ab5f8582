-- What loops over staged things make of the pieces, one by one.
use Rattle.std.proofs.Common.{◌≡◌, ◌⊎◌, ℕ, ◌+◌, ◌<◌, ◌==◌, Bool, true, false, cond, List, [], ◌∷◌, ◌++◌, length, map, take, Option, Some, None, is_some, get_or, refl, sym, ◌∙◌, ap, subst, arith}
use Rattle.std.proofs.lemmas.Bool.{cond_both}
use Rattle.cckd_base.specs.declared.space.Extent.{Extent}
use Rattle.cckd_base.specs.Entry.{see_parent}
use Rattle.cckd_base.specs.Survey.{table_space}
use Rattle.cckd_space.specs.declared.piece.Piece.{Piece}
use Rattle.cckd_space.specs.Pieces.{first, replaced, is_used_at, left, retired}
use Rattle.cckd_space.specs.Plan.{Plan, Becomes}
use Rattle.cckd_tables.specs.declared.staged.StagedEntry.{StagedEntry}
use Rattle.cckd_tables.specs.declared.staged.StagedWord.{StagedWord}
use Rattle.cckd_tables.proofs.WordLoopLemmas.{one_more}
use Rattle.cckd_layer.specs.Current.{stored_space}
use Rattle.cckd_layer.specs.Acts.{left_at, settled_one, settled_all, names_nothing, entry_spaces, word_spaces, committed_pieces}
use Rattle.cckd_layer.proofs.SpaceLemmas.{names_none}
use Rattle.cckd_layer.proofs.SettledLemmas.{settled_append}

replaced_none : (test : Piece → Bool) (news : Piece → List Piece) (ps : List Piece) → first test ps ≡ None → replaced test news ps ≡ ps
replaced_none test news [] e = refl
replaced_none test news (p ∷ ps) e = by (test p) refl (replaced_none test news ps) e
  where
    by : (b : Bool) → test p ≡ b → (first test ps ≡ None → replaced test news ps ≡ ps) → cond b (Some p) (first test ps) ≡ None → replaced test news (p ∷ ps) ≡ p ∷ ps
    by true t rest k = absurd cc
    by false t rest k = rw t (ap (λ qs. p ∷ qs) (rest k))

none_is : (o : Option Piece) → is_some o ≡ false → o ≡ None
none_is None h = refl
none_is (Some p) h = absurd cc

-- no Used piece stands there
pub left_missing : (plan : Plan) (pos : ℕ) (o : Option Piece) → is_some o ≡ false → o ≡ first (is_used_at pos) plan.pieces → Becomes plan plan (left_at pos plan.pieces) plan.size
left_missing plan pos o h e =
    let none : first (is_used_at pos) plan.pieces ≡ None = sym e ∙ none_is o h in
    let all = replaced (is_used_at pos) (λ p. left p ∷ []) plan.pieces in
    let same : all ≡ plan.pieces = replaced_none (is_used_at pos) (λ p. left p ∷ []) plan.pieces none in
    let is : left_at pos plan.pieces ≡ plan.pieces = cond_both (pos == 0) plan.pieces (cond (pos == see_parent) plan.pieces all) (λ (qs : List Piece). qs ≡ plan.pieces) (λ _. refl)
    (λ _. cond_both (pos == see_parent) plan.pieces all (λ (qs : List Piece). qs ≡ plan.pieces) (λ _. refl) (λ _. same)) in
    subst (λ (qs : List Piece). Becomes plan plan qs plan.size) (sym is) (record { made = refl; sized = refl; limit = refl; spare = refl })

pub becomes_nothing : (plan : Plan) → Becomes plan plan plan.pieces plan.size
becomes_nothing plan = record { made = refl; sized = refl; limit = refl; spare = refl }

-- two changes in a row
pub becomes_then : (a b c : Plan) (xs ys : List Extent) → Becomes a b (settled_all xs a.pieces) a.size → Becomes b c (settled_all ys b.pieces) b.size → Becomes a c (settled_all (xs ++ ys) a.pieces) a.size
becomes_then a b c xs ys f g =
    let now : c.pieces ≡ settled_all (xs ++ ys) a.pieces = g.made ∙ (ap (settled_all ys) f.made ∙ sym (settled_append xs ys a.pieces)) in
    record {
      made = now;
      sized = g.sized ∙ f.sized;
      limit = g.limit ∙ f.limit;
      spare =
          let first = f.spare in
          let second = g.spare in
          let p = ap length f.made in
          let q = ap length g.made in
          let r = ap length now in
          omega (arith, first, second, p, q, r);
    }

words_append : (xs ys : List StagedWord) → word_spaces (xs ++ ys) ≡ word_spaces xs ++ word_spaces ys
words_append [] ys = refl
words_append (x ∷ xs) ys = ap (λ rest. table_space x.group x.pos ∷ rest) (words_append xs ys)

pub words_next : (a b c : Plan) (ws : List StagedWord) (i : ℕ) (d : StagedWord) → i < length ws → Becomes a b (settled_all (word_spaces (take i ws)) a.pieces) a.size
    → Becomes b c (settled_one (table_space (get_or ws i d).group (get_or ws i d).pos) b.pieces) b.size → Becomes a c (settled_all (word_spaces (take (i + 1) ws)) a.pieces) a.size
words_next a b c ws i d low f g =
    let w = get_or ws i d in
    let is : word_spaces (take (i + 1) ws) ≡ word_spaces (take i ws) ++ table_space w.group w.pos ∷ [] = ap word_spaces (one_more ws i d low) ∙ words_append (take i ws) (w ∷ []) in
    subst (λ (xs : List Extent). Becomes a c (settled_all xs a.pieces) a.size) (sym is) (becomes_then a b c (word_spaces (take i ws)) (table_space w.group w.pos ∷ []) f g)

nothing_append : (pos : ℕ) (x : Extent) (xs ys : List Extent) → names_nothing pos (x ∷ xs ++ ys) (xs ++ ys) ≡ names_nothing pos (x ∷ xs) xs ++ ys
nothing_append pos x xs ys =
    cond_both (pos == 0) xs (cond (pos == see_parent) xs (x ∷ xs)) (λ (zs : List Extent). names_nothing pos (x ∷ xs ++ ys) (xs ++ ys) ≡ zs ++ ys)
    (λ e. by_zero e) (λ e. cond_both (pos == see_parent) xs (x ∷ xs) (λ (zs : List Extent). names_nothing pos (x ∷ xs ++ ys) (xs ++ ys) ≡ zs ++ ys) (λ f. by_parent e f) (λ f. by_place e f))
  where
    by_zero : (pos == 0) ≡ true → names_nothing pos (x ∷ xs ++ ys) (xs ++ ys) ≡ xs ++ ys
    by_zero e = rw e refl

    by_parent : (pos == 0) ≡ false → (pos == see_parent) ≡ true → names_nothing pos (x ∷ xs ++ ys) (xs ++ ys) ≡ xs ++ ys
    by_parent e f = rw e (rw f refl)

    by_place : (pos == 0) ≡ false → (pos == see_parent) ≡ false → names_nothing pos (x ∷ xs ++ ys) (xs ++ ys) ≡ x ∷ xs ++ ys
    by_place e f = rw e (rw f refl)

entries_append : (xs ys : List StagedEntry) → entry_spaces (xs ++ ys) ≡ entry_spaces xs ++ entry_spaces ys
entries_append [] ys = refl
entries_append (s ∷ xs) ys =
    ap (λ (rest : List Extent). names_nothing s.entry.pos (stored_space s.track s.entry ∷ rest) rest) (entries_append xs ys)
    ∙ nothing_append s.entry.pos (stored_space s.track s.entry) (entry_spaces xs) (entry_spaces ys)

pub entry_none : (a : Plan) (e : StagedEntry) → (e.entry.pos ≡ 0) ⊎ (e.entry.pos ≡ see_parent) → Becomes a a (settled_all (entry_spaces (e ∷ [])) a.pieces) a.size
entry_none a e none =
    subst (λ (xs : List Extent). Becomes a a (settled_all xs a.pieces) a.size) (sym (names_none e.entry.pos (stored_space e.track e.entry ∷ []) [] none)) (becomes_nothing a)

-- one entry more
pub entries_next : (a b c : Plan) (es : List StagedEntry) (i : ℕ) (d : StagedEntry) → i < length es → Becomes a b (settled_all (entry_spaces (take i es)) a.pieces) a.size
    → Becomes b c (settled_all (entry_spaces (get_or es i d ∷ [])) b.pieces) b.size → Becomes a c (settled_all (entry_spaces (take (i + 1) es)) a.pieces) a.size
entries_next a b c es i d low f g =
    let e = get_or es i d in
    let is : entry_spaces (take (i + 1) es) ≡ entry_spaces (take i es) ++ entry_spaces (e ∷ []) = ap entry_spaces (one_more es i d low) ∙ entries_append (take i es) (e ∷ []) in
    subst (λ (xs : List Extent). Becomes a c (settled_all xs a.pieces) a.size) (sym is) (becomes_then a b c (entry_spaces (take i es)) (entry_spaces (e ∷ [])) f g)

-- entries, then words, and then what leaves
pub staged_settled : (a b c d : Plan) (es : List StagedEntry) (ws : List StagedWord) → Becomes a b (settled_all (entry_spaces es) a.pieces) a.size → Becomes b c (settled_all (word_spaces ws) b.pieces) b.size
    → Becomes c d (map retired c.pieces) c.size → Becomes a d (committed_pieces (record { entries = es; words = ws }) a.pieces) a.size
staged_settled a b c d es ws f g h =
    let both = becomes_then a b c (entry_spaces es) (word_spaces ws) f g in
    record {
      made = h.made ∙ ap (map retired) both.made;
      sized = h.sized ∙ both.sized;
      limit = h.limit ∙ both.limit;
      spare =
          let first = both.spare in
          let second = h.spare in
          let p = ap length both.made in
          let q = ap length h.made in
          let r = ap length (ap (map retired) both.made) in
          omega (arith, first, second, p, q, r);
    }
