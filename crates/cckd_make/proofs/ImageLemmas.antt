-- A whole new image from its parts.
use Rattle.std.proofs.Common.{◌≡◌, ℕ, ◌+◌, ◌≤◌, List, ◌++◌, length, take, drop, replicate, sym, ◌∙◌, ap, arith, append_assoc, length-append}
use Rattle.std.proofs.lemmas.List.{take_all, take_at, drop_at, take-append-drop, drop-replicate, length-drop, length-replicate}
use Rattle.cckd_base.specs.declared.geometry.Layout.{Layout}
use Rattle.cckd_base.specs.Put.{IsPut}
use Rattle.cckd_base.proofs.PutLemmas.{put_in_front}
use Rattle.cckd_shelf.specs.Seen.{Seen, Makes}
use Rattle.cckd_make.specs.Making.{after_laying}
use Rattle.cckd_image.specs.Image.{header_bytes}
use Rattle.cckd_image.specs.Fresh.{new_header}
use Rattle.cckd_make.specs.NewImage.{made_layout, new_words, new_image}

-- bytes put over the front of a list of one byte
pub put_over : (second buffer items : List ℕ) (len end n fill : ℕ) → length second ≡ 512 → items ≡ replicate (512 + n) fill → len ≡ 512 + n
    → IsPut 0 end second items buffer → take len (buffer ++ drop (length buffer) items) ≡ second ++ replicate n fill
put_over second buffer items len end n fill long same count put =
    let front = put_in_front end second items buffer put in
    let behind : drop end items ≡ replicate n fill =
    ap (drop end) same ∙ drop-replicate end (512 + n) fill ∙ ap (λ (k : ℕ). replicate k fill) (omega (arith, put.ends, long)) in
    let whole = front ∙ ap (λ (s : List ℕ). second ++ s) behind in
    let full : length buffer ≡ len = omega (arith, ap length whole, length-append second (replicate n fill), length-replicate {A = ℕ} n fill, long, count) in
    take_at buffer (drop (length buffer) items) len full ∙ whole

-- both headers and the words
pub whole : (l : Layout) (first second rest : List ℕ) → first ++ second ≡ header_bytes (new_header (made_layout l)) → rest ≡ second ++ new_words l
    → first ++ rest ≡ new_image l
unfolding new_image
whole l first second rest e f =
    ap (λ (s : List ℕ). first ++ s) f ∙ sym (append_assoc first second (new_words l)) ∙ ap (λ (s : List ℕ). s ++ new_words l) e

-- the headers, cut in two
pub halves : (both : List ℕ) → length both ≤ 1024 → take 512 both ++ take 512 (drop 512 both) ≡ both
halves both long =
    ap (λ (s : List ℕ). take 512 both ++ s) (take_all 512 (drop 512 both) (omega (arith, long, length-drop 512 both))) ∙ take-append-drop 512 both

pub first_of : (first rest image : List ℕ) → length first ≡ 512 → first ++ rest ≡ image → first ≡ take 512 image
first_of first rest image long e = sym (take_at first rest 512 long) ∙ ap (take 512) e

pub rest_of : (first rest image : List ℕ) → length first ≡ 512 → first ++ rest ≡ image → rest ≡ drop 512 image
rest_of first rest image long e = sym (drop_at first rest 512 long) ∙ ap (drop 512) e

-- laid as its first sector and the bytes behind it
pub laid_image : (slot : ℕ) (first rest image : List ℕ) (old new : Seen) → length first ≡ 512 → first ++ rest ≡ image
    → Makes (after_laying slot first rest) old new → Makes (after_laying slot (take 512 image) (drop 512 image)) old new
laid_image slot first rest image old new long e made = λ told.
    made told ∙ (λ i. after_laying slot (first_of first rest image long e i) (rest_of first rest image long e i) old.world)
