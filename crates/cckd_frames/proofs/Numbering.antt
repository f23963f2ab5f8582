-- The nodes of a new block.
use Rattle.std.proofs.Common.{◌≡◌, ℕ, suc, ◌+◌, ◌-◌, ◌*◌, ◌/◌, ◌<◌, List, [], ◌∷◌, ◌++◌, length, get_or, replicate, refl, ap, ◌∙◌, arith}
use Rattle.std.proofs.lemmas.List.{replicate-append-replicate}
use denote.RawPtr.{Ptr, block_ptr, null_ptr, ◌+ₚ◌}
use Rattle.cckd_frames.specs.declared.node.Node.{Node}
use Rattle.cckd_frames.specs.declared.node.NodePtr.{NodePtr}
use Rattle.cckd_frames.specs.Items.{place_of}
use Rattle.cckd_frames.specs.Links.{fresh}
use Rattle.cckd_frames.specs.Placed.{node_words, words_of, AreNumbered}

-- the first item is that of number 0
pub start_is : (p : Ptr) → place_of 56 p p ≡ 0
start_is (block_ptr b o) = let e : o - o ≡ 0 = omega arith in ap (λ k. k / 56) e
start_is null_ptr = refl

start_at : (p : Ptr) → p ≡ p +ₚ 0 * 56
start_at (block_ptr b o) = ap (λ k. block_ptr b k) (let e : o ≡ o + 0 = omega arith in e)
start_at null_ptr = refl

pub words_anew : (to : NodePtr) (ns : List Node) (j : ℕ) → ((k : ℕ) (d : Node) → k < length ns → get_or ns k d ≡ fresh to (j + k)) → words_of to.ptr ns ≡ replicate (9 * length ns) 0
words_anew to [] j a = refl
words_anew to (n ∷ ns) j a =
    let z : place_of 56 to.ptr to.ptr ≡ 0 = start_is to.ptr in
    let head : n ≡ fresh to j = a 0 n (omega arith) ∙ ap (λ i. fresh to i) (let e : j + 0 ≡ j = omega arith in e) in
    let nine : node_words to.ptr (fresh to j) ≡ replicate 9 0 = λ i. z i ∷ z i ∷ z i ∷ z i ∷ 0 ∷ 0 ∷ 0 ∷ 0 ∷ 0 ∷ [] in
    let rest : words_of to.ptr ns ≡ replicate (9 * length ns) 0 = words_anew to ns (j + 1) (λ k d lt. a (suc k) d (omega arith) ∙ ap (λ i. fresh to i) (let e : j + suc k ≡ j + 1 + k = omega arith in e)) in
    (λ i. (ap (λ (x : Node). node_words to.ptr x) head ∙ nine) i ++ rest i)
    ∙ (replicate-append-replicate 9 (9 * length ns) 0 ∙ ap (λ m. replicate m 0) (let e : 9 + 9 * length ns ≡ 9 * suc (length ns) = omega arith in e))

pub words_numbered : (to : NodePtr) (ns : List Node) (size : ℕ) → length ns ≡ size → AreNumbered to size ns → words_of to.ptr ns ≡ replicate (9 * size) 0
words_numbered to ns size l a =
    words_anew to ns 0 (λ k d lt. a k d (omega arith) ∙ ap (λ i. fresh to i) (let z : k ≡ 0 + k = omega arith in z)) ∙ ap (λ m. replicate (9 * m) 0) l
