-- The bytes of a write, with their rounding zeros.
use Rattle.std.proofs.Common.{◌≡◌, ◌⊎◌, ◌+◌, ◌-◌, max, ℕ, List, [], ◌++◌, length, take, drop, replicate, Some, Result, Ok, Err, OnOk, OnErr, inl, inr, refl, sym, ◌∙◌, ap, subst, arith, append-nil}
use Rattle.std.proofs.lemmas.List.{take-append-le, take-take, length-append, length-replicate}
use Rattle.std.proofs.Math.ListN.{drop_of_length-le}
use Rattle.std.proofs.Math.Seq.{take-length}
use Rattle.cckd_shelf.specs.Files.{overlaid}
use Rattle.cckd_shelf.specs.World.{World, file_of, after_write, after_torn, after_sync}
use Rattle.cckd_shelf.specs.Seen.{Seen, Tells, Stays, Makes, MayMake}
use Rattle.cckd_shelf.specs.declared.fault.Failed.{Failed}
use Rattle.cckd_shelf.proofs.OutcomeLemmas.{length_overlaid, overlaid_within_range}
use Rattle.cckd_shelf.proofs.WorldLemmas.{now_wrote}
use Rattle.cckd_base.specs.declared.space.Extent.{Extent}
use Rattle.cckd_base.specs.Numbers.{bytes_at}
use Rattle.cckd_space.specs.Pieces.{aligned_up}
use Rattle.cckd_layer.specs.Mounted.{LayerState}
use Rattle.cckd_layer.specs.Storing.{padded, IsPutTo, IsOneWrite}
use Rattle.cckd_layer.specs.Writes.{AgreesWith, claimed_view}
use Rattle.cckd_layer.proofs.StandLemmas.{stands_sits}

-- a vector whose bytes were all written over
pub filled_items : (len : ℕ) (items buffer : List ℕ) → length items ≡ length buffer → len ≡ length buffer → take len (buffer ++ drop (length buffer) items) ≡ buffer
filled_items len items buffer same long =
    let rest : drop (length buffer) items ≡ [] = drop_of_length-le items (omega (arith, same)) in
    ap (λ (n : ℕ). take n (buffer ++ drop (length buffer) items)) long
    ∙ (ap (λ (l : List ℕ). take (length buffer) (buffer ++ l)) rest
    ∙ (ap (take (length buffer)) (append-nil buffer) ∙ take-length buffer))

-- how many bytes are written
pub padded_length : (bytes : List ℕ) → length (padded bytes) ≡ aligned_up (length bytes)
padded_length bytes =
    let n = length bytes in
    let zeros = length-replicate {A = ℕ} (aligned_up n - n) 0 in
    let both = length-append bytes (replicate (aligned_up n - n) 0) in
    omega (arith, zeros, both)

-- they begin with those that are stored
pub padded_front : (bytes : List ℕ) → take (length bytes) (padded bytes) ≡ bytes
padded_front bytes = take-append-le (length bytes) bytes (replicate (aligned_up (length bytes) - length bytes) 0) (omega arith) ∙ take-length bytes

-- a second header that is written leaves the file's length
pub mark_length : (claims : List Extent) (s : LayerState) (w new : World) (bytes : List ℕ) → length bytes ≡ 512 → new ≡ after_sync s.slot (after_write s.slot 512 bytes w) → AgreesWith claims s w
    → length (file_of new s.slot) ≡ length (file_of w s.slot)
mark_length claims s w new bytes long made a =
    let was = file_of w s.slot in
    let now : file_of new s.slot ≡ overlaid was 512 bytes = ap (λ (x : World). file_of x s.slot) made ∙ now_wrote s.slot 512 bytes w (after_write s.slot 512 bytes w) refl in
    let area = (stands_sits (claimed_view claims s) s.slot w a.stands).whole.image.area in
    ap (λ (l : List ℕ). length l) now ∙ omega (arith, length_overlaid was 512 bytes, long, area)

-- bytes that were put to their place
pub put_to : (slot pos : ℕ) (bytes : List ℕ) (w new : World) → new ≡ after_write slot pos (padded bytes) w → IsPutTo (Some pos) bytes (file_of w slot) (file_of new slot)
put_to slot pos bytes w new made =
    let was = file_of w slot in
    let now : file_of new slot ≡ overlaid was pos (padded bytes) = now_wrote slot pos (padded bytes) w new made in
    let n = length bytes in
    let all = padded_length bytes in
    let within : take n (take (length (padded bytes)) (drop pos (overlaid was pos (padded bytes)))) ≡ take n (padded bytes) = ap (take n) (overlaid_within_range was pos (padded bytes)) in (
      ap (λ (f : List ℕ). bytes_at f pos n) now ∙ (sym (take-take n (length (padded bytes)) (drop pos (overlaid was pos (padded bytes))) (omega (arith, all))) ∙ (within ∙ padded_front bytes)),
      ap (λ (f : List ℕ). length f) now ∙ omega (arith, length_overlaid was pos (padded bytes), all),
    )

-- the same once the file was marked
pub put_after : (slot other pos : ℕ) (bytes : List ℕ) (w mid new : World) → other ≡ slot → new ≡ after_write other pos (padded bytes) mid → length (file_of mid slot) ≡ length (file_of w slot)
    → IsPutTo (Some pos) bytes (file_of w slot) (file_of new slot)
put_after slot other pos bytes w mid new same made long =
    let k : IsPutTo (Some pos) bytes (file_of mid slot) (file_of new slot) =
    subst (λ (n : ℕ). IsPutTo (Some pos) bytes (file_of mid n) (file_of new n)) same (put_to other pos bytes mid new made) in
    (k.0, k.1 ∙ ap (λ (n : ℕ). max n (pos + aligned_up (length bytes))) long)

-- a write, in whole or torn, is one write at most
pub one_write : (slot pos : ℕ) (bytes : List ℕ) (old new : Seen) (r : Result (Unit {0}) Failed) → OnOk r (Makes (after_write slot pos bytes) old new) → OnErr r (MayMake (after_torn slot pos bytes) old new) → IsOneWrite slot bytes old new
one_write slot pos bytes old new (Ok done) written torn told = inr (pos, inl (written told))
one_write slot pos bytes old new (Err failed) written torn told = elim (torn told) [ inl half ↦ inr (pos, inr half) | inr stays ↦ inl stays ]

-- so it is where nothing was done before
pub one_after : (slot other : ℕ) (bytes : List ℕ) (old mid new : Seen) → (Tells old → Tells mid) → other ≡ slot → Stays old mid → IsOneWrite other bytes mid new → IsOneWrite slot bytes old new
one_after slot other bytes old mid new tells same stays one told =
    subst (λ (w : World). (new.world ≡ w) ⊎ ((pos : ℕ) × ((new.world ≡ after_write slot pos bytes w) ⊎ (new.world ≡ after_torn slot pos bytes w)))) (stays told)
    (subst (λ (n : ℕ). (new.world ≡ mid.world) ⊎ ((pos : ℕ) × ((new.world ≡ after_write n pos bytes mid.world) ⊎ (new.world ≡ after_torn n pos bytes mid.world)))) same (one (tells told)))
