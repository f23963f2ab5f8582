-- What callers know of the entries once they have written to the bytes that `bytes_mut` lent, and once a mark or a length is set.
use Rattle.std.proofs.Common.{◌≡◌, ◌≢◌, inl, inr, ℕ, zero, suc, ◌<◌, ◌≤◌, List, [], ◌∷◌, length, map, Option, None, Some, IsNone, All, true≢false, false, refl, sym, ap, ◌∙◌, subst, arith}
use Rattle.std.proofs.lemmas.Bool.Decides.{eqb_tells}
use Rattle.std.specs.List.{IsDistinct, AllByRecursion, length_refill}
use Rattle.std.specs.Bool.{nat_eq}
use Rattle.cckd_frames.specs.Frames.{Entry, Kept, IsKept, IsUsed, keys, frames, entry_in, entry_of, without, promoted, blank, holding, changed, resized, refilled, with_entries, with_mark, with_len, with_body, with_writes}

-- what a change keeps of each entry, it keeps of the list
pub changed_keeps : {X : Type 0} (part : Entry → X) (frame : ℕ) (change : Entry → Entry) → ((e : Entry) → part (change e) ≡ part e)
    → (es : List Entry) → map part (changed frame change es) ≡ map part es
changed_keeps part frame change same [] = refl
changed_keeps part frame change same (e ∷ es) =
    let rest = changed_keeps part frame change same es in
    elim (eqb_tells e.frame frame) [
      | inl here ↦ rw here.0 (let head = same e in λ i. head i ∷ rest i)
      | inr other ↦ rw other.0 (ap (λ l. part e ∷ l) rest)
    ]

-- a frame in use is one of the frames of the list
used_by_frames : (f : ℕ) (es vs : List Entry) → frames vs ≡ frames es → IsUsed f es → IsUsed f vs
used_by_frames f [] [] same used = used
used_by_frames f [] (v ∷ vs) same used = absurd cc
used_by_frames f (e ∷ es) [] same used = absurd cc
used_by_frames f (e ∷ es) (v ∷ vs) same used =
    let head : v.frame ≡ e.frame = cc in let rest : frames vs ≡ frames es = cc in
    elim (eqb_tells e.frame f) [
      | inl here ↦ (let at : v.frame ≡ f = head ∙ here.1 in
          elim (eqb_tells v.frame f) [ inl t ↦ rw t.0 refl | inr t ↦ absurd (t.1 at) ])
      | inr other ↦ (let used2 : IsUsed f es = (let h = rw other.0 at used in h) in
          elim (eqb_tells v.frame f) [ inl t ↦ absurd (other.1 (sym head ∙ t.1)) | inr t ↦ rw t.0 (used_by_frames f es vs rest used2) ])
    ]

-- a bound of all lengths is one of all entries, and back
bound_of_each : (n : ℕ) (es : List Entry) → All (λ e. length e.body ≤ n) es → All (λ k. k ≤ n) (map (λ e. length e.body) es)
bound_of_each n [] fits k d low = absurd (omega arith)
bound_of_each n (e ∷ es) fits zero d low = fits zero e (omega arith)
bound_of_each n (e ∷ es) fits (suc k) d low = bound_of_each n es (λ j c lt. fits (suc j) c (omega arith)) k d (omega arith)

each_of_bound : (n : ℕ) (es : List Entry) → All (λ k. k ≤ n) (map (λ e. length e.body) es) → All (λ e. length e.body ≤ n) es
each_of_bound n [] fits k d low = absurd (omega arith)
each_of_bound n (e ∷ es) fits zero d low = fits zero 0 (omega arith)
each_of_bound n (e ∷ es) fits (suc k) d low = each_of_bound n es (λ j c lt. fits (suc j) c (omega arith)) k d (omega arith)

length_of_all : {X : Type 0} (part : Entry → X) (es : List Entry) → length (map part es) ≡ length es
length_of_all part [] = refl
length_of_all part (e ∷ es) = ap (λ n. suc n) (length_of_all part es)

module _ (frame : ℕ) (body : List ℕ) where
  abbrev written : Entry → Entry
  written e = record { frame = e.frame; key = e.key; mark = e.mark; body = refilled e.body body }

  -- the frames, keys and marks stay
  pub frames_written : (es : List Entry) → frames (with_writes frame body es) ≡ frames es
  frames_written es = changed_keeps (λ e. e.frame) frame written (λ e. refl) es

  pub keys_written : (es : List Entry) → keys (with_writes frame body es) ≡ keys es
  keys_written es = changed_keeps (λ e. e.key) frame written (λ e. refl) es

  pub marks_written : (es : List Entry) → map (λ e. e.mark) (with_writes frame body es) ≡ map (λ e. e.mark) es
  marks_written es = changed_keeps (λ e. e.mark) frame written (λ e. refl) es

  -- and how many bytes each entry has
  pub lengths_written : (es : List Entry) → map (λ e. length e.body) (with_writes frame body es) ≡ map (λ e. length e.body) es
  lengths_written es = changed_keeps (λ e. length e.body) frame written (λ e. sym (length_refill (length e.body) e.body body refl)) es

  -- each frame that was in use is so still
  pub used_written : (f : ℕ) (es : List Entry) → IsUsed f es → IsUsed f (with_writes frame body es)
  used_written f es used = used_by_frames f es (with_writes frame body es) (frames_written es) used

  -- and what holds of each `Frames` still does
  pub kept_written : (k : Kept) → IsKept k → IsKept (with_entries k (with_writes frame body k.entries))
  kept_written k kept =
      let es = k.entries in let vs = with_writes frame body es in record {
        some_frames = kept.some_frames;
        most_frames = kept.most_frames;
        some_room = kept.some_room;
        most_room = kept.most_room;
        bounded = (let few = kept.bounded in let old = length_of_all (λ e. e.frame) es in let new = length_of_all (λ e. e.frame) vs in
            let same = ap (λ (l : List ℕ). length l) (frames_written es) in omega arith);
        numbered = subst (λ (l : List ℕ). All (λ f. f < k.count) l) (sym (frames_written es)) kept.numbered;
        one_frame_each = subst (λ (l : List ℕ). IsDistinct nat_eq l) (sym (frames_written es)) kept.one_frame_each;
        one_key_each = subst (λ (l : List ℕ). IsDistinct nat_eq l) (sym (keys_written es)) kept.one_key_each;
        fitting = each_of_bound k.frame_len vs (subst (λ (l : List ℕ). All (λ n. n ≤ k.frame_len) l) (sym (lengths_written es)) (bound_of_each k.frame_len es kept.fitting));
      }

-- the frames and keys stay where a mark or a length is set
pub frames_marked : (frame : ℕ) (mark : Option ℕ) (es : List Entry) → frames (with_mark frame mark es) ≡ frames es
frames_marked frame mark es = changed_keeps (λ e. e.frame) frame (λ e. record { frame = e.frame; key = e.key; mark = mark; body = e.body }) (λ e. refl) es

pub keys_marked : (frame : ℕ) (mark : Option ℕ) (es : List Entry) → keys (with_mark frame mark es) ≡ keys es
keys_marked frame mark es = changed_keeps (λ e. e.key) frame (λ e. record { frame = e.frame; key = e.key; mark = mark; body = e.body }) (λ e. refl) es

pub frames_resized : (frame n : ℕ) (es : List Entry) → frames (with_len frame n es) ≡ frames es
frames_resized frame n es = changed_keeps (λ e. e.frame) frame (λ e. record { frame = e.frame; key = e.key; mark = e.mark; body = resized n e.body }) (λ e. refl) es

pub keys_resized : (frame n : ℕ) (es : List Entry) → keys (with_len frame n es) ≡ keys es
keys_resized frame n es = changed_keeps (λ e. e.key) frame (λ e. record { frame = e.frame; key = e.key; mark = e.mark; body = resized n e.body }) (λ e. refl) es

-- a change in one frame leaves the entries of all others as they are
pub others_stay : (frame other : ℕ) (change : Entry → Entry) → ((e : Entry) → (change e).frame ≡ e.frame) → other ≢ frame
    → (es : List Entry) → entry_in other (changed frame change es) ≡ entry_in other es
others_stay frame other change same ne [] = refl
others_stay frame other change same ne (e ∷ es) =
    let rest = others_stay frame other change same ne es in
    elim (eqb_tells e.frame frame) [
      | inl here ↦ (
          let old : e.frame ≢ other = λ at. ne (sym at ∙ here.1) in let new : (change e).frame ≢ other = λ at. old (sym (same e) ∙ at) in
          rw here.0 (elim (eqb_tells e.frame other) [
            | inl t ↦ absurd (old t.1)
            | inr t ↦ elim (eqb_tells (change e).frame other) [ inl u ↦ absurd (new u.1) | inr u ↦ rw (t.0, u.0) rest ]
          ]))
      | inr there ↦ rw there.0 (elim (eqb_tells e.frame other) [ inl t ↦ rw t.0 refl | inr t ↦ rw t.0 rest ])
    ]

pub others_written : (frame other : ℕ) (body : List ℕ) → other ≢ frame → (es : List Entry) → entry_in other (with_writes frame body es) ≡ entry_in other es
others_written frame other body ne es = others_stay frame other (λ e. record { frame = e.frame; key = e.key; mark = e.mark; body = refilled e.body body }) (λ e. refl) ne es

pub others_marked : (frame other : ℕ) (mark : Option ℕ) → other ≢ frame → (es : List Entry) → entry_in other (with_mark frame mark es) ≡ entry_in other es
others_marked frame other mark ne es = others_stay frame other (λ e. record { frame = e.frame; key = e.key; mark = mark; body = e.body }) (λ e. refl) ne es

pub others_resized : (frame other n : ℕ) → other ≢ frame → (es : List Entry) → entry_in other (with_len frame n es) ≡ entry_in other es
others_resized frame other n ne es = others_stay frame other (λ e. record { frame = e.frame; key = e.key; mark = e.mark; body = resized n e.body }) (λ e. refl) ne es

-- where no entry lies in the frame, nothing changes
pub nothing_changed : (frame : ℕ) (change : Entry → Entry) (es : List Entry) → IsNone (entry_in frame es) → changed frame change es ≡ es
nothing_changed frame change [] none = refl
nothing_changed frame change (e ∷ es) none =
    elim (eqb_tells e.frame frame) [
      | inl here ↦ absurd (let h : IsNone (Some e) = (let g = rw here.0 at none in g) in cc h)
      | inr there ↦ rw there.0 (ap (λ (l : List Entry). e ∷ l) (nothing_changed frame change es (let g = rw there.0 at none in g)))
    ]

-- the entry of a key says its key
pub key_of_entry : (key : ℕ) (es : List Entry) (e : Entry) → entry_of key es ≡ Some e → e.key ≡ key
key_of_entry key [] e is = absurd (cc is)
key_of_entry key (x ∷ xs) e is =
    elim (eqb_tells x.key key) [
      | inl here ↦ (let g = rw here.0 at is in let same : x ≡ e = cc g in ap (λ (u : Entry). u.key) (sym same) ∙ here.1)
      | inr there ↦ key_of_entry key xs e (let g = rw there.0 at is in g)
    ]

-- the entries of other keys are all there where one is left out
pub without_keeps : (key other : ℕ) → other ≢ key → (es : List Entry) → entry_of other (without key es) ≡ entry_of other es
without_keeps key other ne [] = refl
without_keeps key other ne (e ∷ es) =
    let rest = without_keeps key other ne es in
    elim (eqb_tells e.key key) [
      | inl here ↦ rw here.0 (elim (eqb_tells e.key other) [ inl t ↦ absurd (ne (sym t.1 ∙ here.1)) | inr t ↦ rw t.0 rest ])
      | inr there ↦ rw there.0 (elim (eqb_tells e.key other) [ inl t ↦ rw t.0 refl | inr t ↦ rw t.0 rest ])
    ]

-- each key has the entry that it had, once one of them comes first
pub promoted_keeps : (key other : ℕ) (es : List Entry) → entry_of other (promoted key es) ≡ entry_of other es
promoted_keeps key other es = by_entry (entry_of key es) refl where
  by_entry : (o : Option Entry) → entry_of key es ≡ o → entry_of other (promoted key es) ≡ entry_of other es
  by_entry None is = rw (is, promoted) refl
  by_entry (Some e) is =
      let mine = key_of_entry key es e is in
      rw (is, promoted) (elim (eqb_tells e.key other) [
        | inl t ↦ rw t.0 (let same : key ≡ other = sym mine ∙ t.1 in sym (subst (λ k. entry_of k es ≡ Some e) same is))
        | inr t ↦ rw t.0 (without_keeps key other (λ same. t.1 (mine ∙ sym same)) es)
      ])

none_equal_in : (frame : ℕ) (es : List Entry) → AllByRecursion (λ f. nat_eq frame f ≡ false) (frames es) → IsNone (entry_in frame es)
none_equal_in frame [] apart = refl
none_equal_in frame (e ∷ es) apart =
    elim (eqb_tells e.frame frame) [
      | inl t ↦ elim (eqb_tells frame e.frame) [ inl u ↦ absurd (true≢false (sym u.0 ∙ apart.0)) | inr u ↦ absurd (u.1 (sym t.1)) ]
      | inr t ↦ rw t.0 (none_equal_in frame es apart.1)
    ]

-- other bytes in the first entry change no other entry
pub first_copied : (k : Kept) (frame key : ℕ) (body : List ℕ) (es : List Entry) → IsKept (with_entries k (blank frame key ∷ es)) → with_body frame body (blank frame key ∷ es) ≡ holding frame key body ∷ es
unfolding IsDistinct
first_copied k frame key body es kept =
    let apart = kept.one_frame_each in
    elim (eqb_tells frame frame) [
      | inl t ↦ rw t.0 (ap (λ (l : List Entry). holding frame key body ∷ l) (nothing_changed frame (λ e. record { frame = e.frame; key = e.key; mark = e.mark; body = body }) es (none_equal_in frame es apart.0)))
      | inr t ↦ absurd (t.1 refl)
    ]
