-- What is said of a frame but its links, where only links or the words of another are written.
use Rattle.std.proofs.Common.{◌≡◌, ◌≢◌, ℕ, ◌+◌, ◌-◌, ◌*◌, ◌<◌, List, length, take, drop, ◌∙◌, arith, lit<, length-set}
use Rattle.cckd_frames.specs.Nodes.{word, with_word, unlinked, linked}
use Rattle.cckd_frames.specs.Table.{bucket_of, brought, given_up, taken, blanked, mark_of, entry_at}
use Rattle.cckd_frames.proofs.RingLemmas.{AreColumns, word-set_node, word-set_column, word-set_here, unlinked_column, linked_column}

-- the words of frame y stay where only those of frame x and links are written
pub record KeepsContent (ws vs : List ℕ) (y : ℕ) : Type 0 where
  pub key : word vs 4 y ≡ word ws 4 y
  pub len : word vs 6 y ≡ word ws 6 y
  pub is_marked : word vs 7 y ≡ word ws 7 y
  pub mark : word vs 8 y ≡ word ws 8 y

pub entry_kept : (frame_len : ℕ) (ws vs bs : List ℕ) (y : ℕ) → KeepsContent ws vs y → entry_at frame_len vs bs y ≡ entry_at frame_len ws bs y
entry_kept frame_len ws vs bs y k =
    λ i. record { frame = y; key = k.key i; mark = mark_of (k.is_marked i) (k.mark i); body = take (k.len i) (drop (y * frame_len) bs) }

pub keeps_trans : (ws vs us : List ℕ) (y : ℕ) → KeepsContent ws vs y → KeepsContent vs us y → KeepsContent ws us y
keeps_trans ws vs us y a b = record { key = b.key ∙ a.key; len = b.len ∙ a.len; is_marked = b.is_marked ∙ a.is_marked; mark = b.mark ∙ a.mark }

pub unlinked_content : (c d x y : ℕ) (ws : List ℕ) → c < 4 → d < 4 → c ≢ d → KeepsContent ws (unlinked c d x ws) y
unlinked_content c d x y ws hc hd ne =
    let cs : AreColumns c d = record { first = omega arith; second = omega arith; differ = ne } in record {
      key = unlinked_column c d x 4 y ws cs (lit< tt) (omega arith) (omega arith);
      len = unlinked_column c d x 6 y ws cs (lit< tt) (omega arith) (omega arith);
      is_marked = unlinked_column c d x 7 y ws cs (lit< tt) (omega arith) (omega arith);
      mark = unlinked_column c d x 8 y ws cs (lit< tt) (omega arith) (omega arith);
    }

pub linked_content : (c d a x y : ℕ) (ws : List ℕ) → c < 4 → d < 4 → c ≢ d → KeepsContent ws (linked c d a x ws) y
linked_content c d a x y ws hc hd ne =
    let cs : AreColumns c d = record { first = omega arith; second = omega arith; differ = ne } in record {
      key = linked_column c d a x 4 y ws cs (lit< tt) (omega arith) (omega arith);
      len = linked_column c d a x 6 y ws cs (lit< tt) (omega arith) (omega arith);
      is_marked = linked_column c d a x 7 y ws cs (lit< tt) (omega arith) (omega arith);
      mark = linked_column c d a x 8 y ws cs (lit< tt) (omega arith) (omega arith);
    }

pub counted_content : (b v y : ℕ) (ws : List ℕ) → KeepsContent ws (with_word ws 5 b v) y
counted_content b v y ws = record {
  key = word-set_column ws 4 5 y b v (lit< tt) (lit< tt) (omega arith);
  len = word-set_column ws 6 5 y b v (lit< tt) (lit< tt) (omega arith);
  is_marked = word-set_column ws 7 5 y b v (lit< tt) (lit< tt) (omega arith);
  mark = word-set_column ws 8 5 y b v (lit< tt) (lit< tt) (omega arith);
}

pub brought_content : (count x y : ℕ) (ws : List ℕ) → KeepsContent ws (brought count x ws) y
brought_content count x y ws =
    keeps_trans ws (unlinked 0 1 x ws) (brought count x ws) y (unlinked_content 0 1 x y ws (lit< tt) (lit< tt) (omega arith)) (linked_content 0 1 (2 * count) x y (unlinked 0 1 x ws) (lit< tt) (lit< tt) (omega arith))

pub given_up_content : (count x y : ℕ) (ws : List ℕ) → KeepsContent ws (given_up count x ws) y
given_up_content count x y ws =
    let v1 = unlinked 0 1 x ws in let v2 = unlinked 2 3 x v1 in let b = bucket_of count (word ws 4 x) in
    keeps_trans ws v1 (given_up count x ws) y (unlinked_content 0 1 x y ws (lit< tt) (lit< tt) (omega arith))
    (keeps_trans v1 v2 (given_up count x ws) y (unlinked_content 2 3 x y v1 (lit< tt) (lit< tt) (omega arith)) (counted_content b (word v2 5 b - 1) y v2))

-- the words of the new frame, and those of the others
module _ (count x key : ℕ) (ws : List ℕ) where
  pub placed_content : (y : ℕ) → KeepsContent (blanked x key ws) (taken count x key ws) y
  placed_content y =
      let v0 = blanked x key ws in let v1 = linked 0 1 (2 * count) x v0 in let v2 = linked 2 3 (bucket_of count key) x v1 in
      keeps_trans v0 v1 (taken count x key ws) y (linked_content 0 1 (2 * count) x y v0 (lit< tt) (lit< tt) (omega arith))
      (keeps_trans v1 v2 (taken count x key ws) y (linked_content 2 3 (bucket_of count key) x y v1 (lit< tt) (lit< tt) (omega arith)) (counted_content (bucket_of count key) (word v2 5 (bucket_of count key) + 1) y v2))

  pub blanked_other : (y : ℕ) → y ≢ x → KeepsContent ws (blanked x key ws) y
  blanked_other y ne =
      let v1 = with_word ws 4 x key in let v2 = with_word v1 6 x 0 in let v3 = with_word v2 7 x 0 in
      let go : (c : ℕ) → c < 9 → word (blanked x key ws) c y ≡ word ws c y = λ c hc. word-set_node v3 c 8 y x 0 hc (lit< tt) ne ∙ word-set_node v2 c 7 y x 0 hc (lit< tt) ne ∙ (word-set_node v1 c 6 y x 0 hc (lit< tt) ne ∙ word-set_node ws c 4 y x key hc (lit< tt) ne) in
      record { key = go 4 (lit< tt); len = go 6 (lit< tt); is_marked = go 7 (lit< tt); mark = go 8 (lit< tt) }

  pub blanked_link : (c k : ℕ) → c < 9 → c ≢ 4 → c ≢ 6 → c ≢ 7 → c ≢ 8 → word (blanked x key ws) c k ≡ word ws c k
  blanked_link c k hc n4 n6 n7 n8 =
      let v1 = with_word ws 4 x key in let v2 = with_word v1 6 x 0 in let v3 = with_word v2 7 x 0 in
      word-set_column v3 c 8 k x 0 hc (lit< tt) n8 ∙ word-set_column v2 c 7 k x 0 hc (lit< tt) n7 ∙ (word-set_column v1 c 6 k x 0 hc (lit< tt) n6 ∙ word-set_column ws c 4 k x key hc (lit< tt) n4)

  pub length-blanked : length (blanked x key ws) ≡ length ws
  length-blanked =
      let v1 = with_word ws 4 x key in let v2 = with_word v1 6 x 0 in let v3 = with_word v2 7 x 0 in
      length-set v3 (9 * x + 8) 0 ∙ length-set v2 (9 * x + 7) 0 ∙ (length-set v1 (9 * x + 6) 0 ∙ length-set ws (9 * x + 4) key)

  module _ (size : 9 * x + 8 < length ws) where
    pub blanked_key : word (blanked x key ws) 4 x ≡ key
    blanked_key =
        let u1 = with_word ws 4 x key in let u2 = with_word u1 6 x 0 in let u3 = with_word u2 7 x 0 in
        word-set_column u3 4 8 x x 0 (lit< tt) (lit< tt) (omega arith) ∙ word-set_column u2 4 7 x x 0 (lit< tt) (lit< tt) (omega arith) ∙ (word-set_column u1 4 6 x x 0 (lit< tt) (lit< tt) (omega arith) ∙ word-set_here ws 4 x key (omega arith))

    pub blanked_len : word (blanked x key ws) 6 x ≡ 0
    blanked_len =
        let u1 = with_word ws 4 x key in let u2 = with_word u1 6 x 0 in let u3 = with_word u2 7 x 0 in
        let l : length u1 ≡ length ws = length-set ws (9 * x + 4) key in
        word-set_column u3 6 8 x x 0 (lit< tt) (lit< tt) (omega arith) ∙ word-set_column u2 6 7 x x 0 (lit< tt) (lit< tt) (omega arith) ∙ word-set_here u1 6 x 0 (omega arith)

    pub blanked_mark : word (blanked x key ws) 7 x ≡ 0
    blanked_mark =
        let u1 = with_word ws 4 x key in let u2 = with_word u1 6 x 0 in let u3 = with_word u2 7 x 0 in
        let l : length u1 ≡ length ws = length-set ws (9 * x + 4) key in let m : length u2 ≡ length u1 = length-set u1 (9 * x + 6) 0 in
        word-set_column u3 7 8 x x 0 (lit< tt) (lit< tt) (omega arith) ∙ word-set_here u2 7 x 0 (omega arith)
