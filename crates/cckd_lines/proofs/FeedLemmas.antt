-- Line feeds in a text, and what was taken behind what is pending.
use Rattle.std.proofs.Common.{◌≡◌, ◌≢◌, ℕ, suc, ◌+◌, ◌<◌, ◌≤◌, Bool, true, false, cond, not, one-add, List, [], ◌∷◌, ◌++◌, length, take, drop, position, get_or, Option, Some, None, MatchOption, refl, sym, ◌∙◌, ap, subst, arith, append_assoc, ⊎_elim}
use Rattle.std.specs.List.{position_or_len}
use Rattle.std.proofs.lemmas.Bool.{cases_lt, lt-ltb, le-ltb, eq-eqb, false≢true}
use Rattle.std.proofs.lemmas.Bool.Decides.{nat_tests}
use Rattle.std.proofs.lemmas.List.{take-append-le, take-append-drop, length-take-le, length-drop, drop-take, drop-drop, drop-append-le}
use Rattle.std.proofs.lemmas.List.Sums.{split_at_first, passes_at_first}
use Rattle.std.proofs.Math.Seq.{take-add, take-append-add}
use borrow.Rule.Slice.PartMut.{put_mid, post_of}
use Rattle.cckd_script.specs.Lines.{HasNoFeed}
use Rattle.cckd_script.proofs.LineLemmas.{no_feed-append}
use Rattle.cckd_lines.specs.Lines.{is_feed, IsFirstFeed}

-- a byte that ends no line isn't a line feed
no_feed_here : (b : ℕ) → is_feed b ≡ false → b ≢ 10
no_feed_here b e is = false≢true (sym e ∙ eq-eqb b 10 is)

none_before_step : (p : Bool) (b n : ℕ) (rest : List ℕ) → is_feed b ≡ p → HasNoFeed (take n rest)
    → HasNoFeed (take (cond (not p) (1 + n) 0) (b ∷ rest))
none_before_step true b n rest e h = tt
none_before_step false b n rest e h = rw one-add (no_feed_here b e, h)

-- no line feed stands before the first one
none_before : (text : List ℕ) → HasNoFeed (take (position_or_len is_feed text) text)
none_before [] = tt
none_before (b ∷ rest) = none_before_step (is_feed b) b (position_or_len is_feed rest) rest refl (none_before rest)

none_at_all_step : (p : Bool) (b : ℕ) (rest : List ℕ) → is_feed b ≡ p
    → suc (length rest) ≤ cond (not p) (1 + position_or_len is_feed rest) 0
    → (length rest ≤ position_or_len is_feed rest → HasNoFeed rest) → HasNoFeed (b ∷ rest)
none_at_all_step true b rest e h more = absurd (omega arith)
none_at_all_step false b rest e h more = (no_feed_here b e, more (omega arith))

-- where the first would stand past the end there is none
none_at_all : (text : List ℕ) → length text ≤ position_or_len is_feed text → HasNoFeed text
none_at_all [] _ = tt
none_at_all (b ∷ rest) h = none_at_all_step (is_feed b) b rest refl h (none_at_all rest)

-- what a first place says
pub feed_found : (text : List ℕ) (found : Option ℕ)
    → found ≡ position is_feed text → MatchOption found (HasNoFeed text) (IsFirstFeed text)
feed_found text found e = ⊎_elim
    (λ (less : position_or_len is_feed text < length text).
    let n = position_or_len is_feed text in
    let split : text ≡ take n text ++ (get_or text n 10 ∷ drop (n + 1) text) = split_at_first is_feed text 10 less in
    let passes : is_feed (get_or text n 10) ≡ true = passes_at_first is_feed text 10 less in
    let feed : get_or text n 10 ≡ 10 = grind (arith, nat_tests) in
    subst (λ (o : Option ℕ). MatchOption o (HasNoFeed text) (IsFirstFeed text))
    (sym (e ∙ ap (λ (b : Bool). cond b (Some n) None) (lt-ltb n (length text) less)))
    (record {
      within = less;
      before = none_before text;
      split = split ∙ ap (λ (b : ℕ). take n text ++ (b ∷ drop (n + 1) text)) feed;
    }))
    (λ (more : length text ≤ position_or_len is_feed text).
    let n = position_or_len is_feed text in
    subst (λ (o : Option ℕ). MatchOption o (HasNoFeed text) (IsFirstFeed text))
    (sym (e ∙ ap (λ (b : Bool). cond b (Some n) None) (le-ltb n (length text) more)))
    (none_at_all text more))
    (cases_lt (position_or_len is_feed text) (length text))

-- the same of a text whose front was searched before
pub no_feed_behind : (text : List ℕ) (seen : ℕ) → HasNoFeed (take seen text) → HasNoFeed (drop seen text) → HasNoFeed text
no_feed_behind text seen front behind =
    subst HasNoFeed (take-append-drop seen text) (no_feed-append (take seen text) (drop seen text) front behind)

pub feed_behind : (text : List ℕ) (seen at : ℕ) → seen ≤ length text → HasNoFeed (take seen text) → IsFirstFeed (drop seen text) at
    → IsFirstFeed text (seen + at)
feed_behind text seen at within front feed =
    let front_is : take (seen + at) text ≡ take seen text ++ take at (drop seen text) = take-add seen at text in
    record {
      within = omega (arith, within, feed.within, length-drop seen text);
      before = subst HasNoFeed (sym front_is) (no_feed-append (take seen text) (take at (drop seen text)) front feed.before);
      split =
          sym (take-append-drop seen text) ∙ ap (λ (s : List ℕ). take seen text ++ s) feed.split
          ∙ sym (append_assoc (take seen text) (take at (drop seen text)) (10 ∷ drop (at + 1) (drop seen text)))
          ∙ ap (λ (s : List ℕ). s ++ 10 ∷ drop (at + 1) (drop seen text)) (sym front_is)
          ∙ ap (λ (s : List ℕ). take (seen + at) text ++ 10 ∷ s)
          (drop-drop (at + 1) seen text ∙ ap (λ (n : ℕ). drop n text) (omega arith));
    }

-- what stands at the front after a piece was written behind it
put_front : (n m k : ℕ) (into piece : List ℕ) → n ≤ length into → m ≤ length piece
    → take (n + m) (put_mid n k into piece) ≡ take n into ++ take m piece
put_front n m k into piece within fits =
    let front_length : length (take n into) ≡ n = length-take-le n into within in
    ap (λ i. take (i + m) (take n into ++ (piece ++ post_of n k into))) (sym front_length)
    ∙ take-append-add (take n into) (piece ++ post_of n k into) m
    ∙ ap (λ (s : List ℕ). take n into ++ s) (take-append-le m piece (post_of n k into) fits)

-- what is pending after a piece was written behind it
pub put_behind : (start p m k : ℕ) (room piece : List ℕ) → start + p ≤ length room → m ≤ length piece
    → take (p + m) (drop start (put_mid (start + p) k room piece)) ≡ take p (drop start room) ++ take m piece
put_behind start p m k room piece within fits =
    let long : start ≤ length (take (start + p) room) = omega (arith, length-take-le (start + p) room within) in
    sym (drop-take start (p + m) (put_mid (start + p) k room piece))
    ∙ ap (drop start) (ap (λ n. take n (put_mid (start + p) k room piece)) (omega arith) ∙ put_front (start + p) m k room piece within fits)
    ∙ drop-append-le start (take (start + p) room) (take m piece) long
    ∙ ap (λ (s : List ℕ). s ++ take m piece) (drop-take start p room)
