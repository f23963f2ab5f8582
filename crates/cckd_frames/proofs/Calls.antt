-- What a caller sees after each call.
use Rattle.std.proofs.Common.{◌≡◌, ◌≢◌, inl, inr, ℕ, ◌+◌, ◌-◌, ◌*◌, ◌<◌, ◌≤◌, List, ◌∷◌, take, None, Some, IsNone, slice_get, min, refl, sym, ap, ◌∙◌, subst, arith}
use Rattle.std.specs.declared.alloc.Global.{Global}
use denote.RawPtr.{Ptr}
use Rattle.cckd_frames.specs.declared.block.Deed.{Deed}
use Rattle.cckd_frames.specs.declared.node.Node.{Node}
use Rattle.cckd_frames.specs.Whole.{IsWhole}
use Rattle.cckd_frames.specs.Frames.{Entry, Kept, IsKept, keys, entry_of, entry_in, IsUsed, promoted, blank, with_entries}
use Rattle.cckd_frames.specs.Nodes.{word, trail}
use Rattle.cckd_frames.specs.Store.{filled}
use Rattle.cckd_frames.specs.Table.{IsSound, bucket_of, node_with, nth_after, brought, taken, chosen, cleared, entry_at, entries_of}
use Rattle.cckd_frames.proofs.Entries.{key-get, key-get-past, last_get}
use Rattle.cckd_frames.proofs.Trails.{trail-get, length-trail}
use Rattle.cckd_frames.proofs.States.{entries_are, in_use, entry_found, looked_up, entries_brought, entries_taken}
use Rattle.cckd_frames.proofs.Writes.{no_such_key, sound_kept, entries_filled}

-- what callers see of the parts
abbrev pub seen : ℕ → ℕ → ℕ → List ℕ → List ℕ → Kept
seen count frame_len used ws bs = record { count = count; frame_len = frame_len; entries = entries_of count frame_len used ws bs }

-- the block stays the same
pub moved : {f g at : Ptr} {room : ℕ} {d : Deed Node Global} {alloc : Global} (count frame_len : ℕ) → g ≡ f → IsWhole count frame_len f at room d alloc → IsWhole count frame_len g at room d alloc
moved {at = at} {room = room} {d = d} {alloc = alloc} count frame_len e = subst (λ p. IsWhole count frame_len p at room d alloc) (sym e)

-- and more of its bytes are made
pub reached : {f g at to : Ptr} {room size : ℕ} {d : Deed Node Global} {alloc : Global} (count frame_len : ℕ) → g ≡ f → to ≡ at → size ≡ room
    → IsWhole count frame_len f at room d alloc → IsWhole count frame_len g to size d alloc
reached {g = g} {at = at} {to = to} {room = room} {d = d} {alloc = alloc} count frame_len e place same w =
    let a = moved count frame_len e w in
    let b = subst (λ p. IsWhole count frame_len g p room d alloc) (sym place) a in
    subst (λ n. IsWhole count frame_len g to n d alloc) (sym same) b

module _ (count frame_len used : ℕ) (ws bs : List ℕ) (s : IsSound count frame_len used ws bs) where
  -- more bytes are made, of which callers see nothing
  pub seen_reached : (n : ℕ) (cs : List ℕ) → cs ≡ filled n bs → (k : Kept) → seen count frame_len used ws bs ≡ k → seen count frame_len used ws cs ≡ k
  seen_reached n cs e k is =
      ap (λ (l : List ℕ). seen count frame_len used ws l) e
      ∙ (ap (λ (es : List Entry). with_entries (seen count frame_len used ws bs) es) (entries_filled count frame_len used ws bs s n) ∙ is)

  -- a node that a look-up gives
  pub found_at : (key x : ℕ) → node_with ws key (trail ws 2 (bucket_of count key) (word ws 5 (bucket_of count key))) ≡ Some x → (x < used) × (word ws 4 x ≡ key)
  found_at key x e =
      elim (looked_up count frame_len used ws bs s key) [
        | inl r ↦ absurd (let no_node = r.0 in cc)
        | inr r ↦ (let same : r.0 ≡ x = (let node = r.1 in cc) in (subst (λ y. y < used) same r.2, subst (λ y. word ws 4 y ≡ key) same r.3))
      ]

  pub none_at : (key : ℕ) → node_with ws key (trail ws 2 (bucket_of count key) (word ws 5 (bucket_of count key))) ≡ None → entry_of key (entries_of count frame_len used ws bs) ≡ None
  none_at key e =
      elim (looked_up count frame_len used ws bs s key) [
        | inl r ↦ r.1
        | inr r ↦ absurd (let node = r.1 in cc)
      ]

  pub in_count : (x : ℕ) → x < used → x < count
  in_count x h = s.index.within x h

  pub used_here : (k : Kept) → seen count frame_len used ws bs ≡ k → (x : ℕ) → IsUsed x k.entries → x < used
  used_here k e x u = in_use count frame_len used ws bs s x (subst (λ (q : Kept). IsUsed x q.entries) (sym e) u)

  pub kept_here : (k : Kept) → seen count frame_len used ws bs ≡ k → IsKept k
  kept_here k e = subst IsKept e (sound_kept count frame_len used ws bs s)

  -- the entry of a frame in use
  pub entry_here : (k : Kept) → seen count frame_len used ws bs ≡ k → (x : ℕ) → x < used → entry_in x k.entries ≡ Some (entry_at frame_len ws bs x)
  entry_here k e x h = subst (λ (q : Kept). entry_in x q.entries ≡ Some (entry_at frame_len ws bs x)) e (entry_found count frame_len used ws bs s x h)

  pub last_key : used ≡ count → slice_get (keys (entries_of count frame_len used ws bs)) (count - 1) ≡ Some (word ws 4 (word ws 1 (2 * count)))
  last_key full =
      let some = s.some_frames in let f = entry_at frame_len ws bs in
      ap (λ (l : List Entry). slice_get (keys l) (count - 1)) (entries_are count frame_len used ws bs s)
      ∙ key-get f s.order.0 (count - 1) (word ws 1 (2 * count)) (last_get 0 1 ws (2 * count) s.order.0 (2 * count) (count - 1) s.order.1.path (let e = s.order.2 in omega arith))

  pub no_last_key : used ≢ count → slice_get (keys (entries_of count frame_len used ws bs)) (count - 1) ≡ None
  no_last_key few =
      let some = s.some_frames in let most = s.bounded in let f = entry_at frame_len ws bs in
      ap (λ (l : List Entry). slice_get (keys l) (count - 1)) (entries_are count frame_len used ws bs s)
      ∙ key-get-past f s.order.0 (count - 1) (let e = s.order.2 in omega arith)

  pub key_here : (place : ℕ) → place < used → slice_get (keys (entries_of count frame_len used ws bs)) place ≡ Some (word ws 4 (nth_after ws 0 (2 * count) (place + 1)))
  key_here place h = key-get (entry_at frame_len ws bs) (trail ws 0 (2 * count) used) place (nth_after ws 0 (2 * count) (place + 1)) (trail-get ws 0 (2 * count) used place h)

  pub no_key_here : (place : ℕ) → used ≤ place → slice_get (keys (entries_of count frame_len used ws bs)) place ≡ None
  no_key_here place h = key-get-past (entry_at frame_len ws bs) (trail ws 0 (2 * count) used) place (let l = length-trail ws 0 (2 * count) used in omega arith)

  -- `find`, `take_last`, and `forget_all`
  pub seen_brought : (k : Kept) → seen count frame_len used ws bs ≡ k → (key x : ℕ) (vs : List ℕ) → vs ≡ brought count x ws → x < used → word ws 4 x ≡ key
      → seen count frame_len used vs bs ≡ with_entries k (promoted key k.entries)
  seen_brought k e key x vs v h w =
      subst (λ (q : Kept). seen count frame_len used vs bs ≡ with_entries q (promoted key q.entries)) e
      (ap (λ (l : List ℕ). seen count frame_len used l bs) v
      ∙ ap (λ (es : List Entry). with_entries (seen count frame_len used ws bs) es) (entries_brought count frame_len used ws bs s key x h w))

  pub seen_taken : (k : Kept) → seen count frame_len used ws bs ≡ k → (key x n : ℕ) (vs : List ℕ) → x ≡ chosen count used ws → n ≡ min count (used + 1) → vs ≡ taken count x key (cleared count used ws)
      → IsNone (entry_of key k.entries) → seen count frame_len n vs bs ≡ with_entries k (blank x key ∷ take (k.count - 1) k.entries)
  seen_taken k e key x n vs at m v none =
      let fresh = no_such_key count frame_len used ws bs s key (subst (λ (q : Kept). IsNone (entry_of key q.entries)) (sym e) none) in
      subst (λ (q : Kept). seen count frame_len n vs bs ≡ with_entries q (blank x key ∷ take (q.count - 1) q.entries)) e
      ((λ i. seen count frame_len (m i) ((v ∙ ap (λ y. taken count y key (cleared count used ws)) at) i) bs)
      ∙ (ap (λ (es : List Entry). with_entries (seen count frame_len used ws bs) es)
      (entries_taken count frame_len used ws bs s key fresh ∙ ap (λ y. blank y key ∷ take (count - 1) (entries_of count frame_len used ws bs)) (sym at))))

  -- a frame that is in use, seen by callers
  pub seen_used : (x : ℕ) → x < used → IsUsed x (entries_of count frame_len used ws bs)
  seen_used x h = rw (entry_found count frame_len used ws bs s x h) refl

  pub seen_frame : (k : Kept) → seen count frame_len used ws bs ≡ k → (x : ℕ) → x < used → IsUsed x k.entries
  seen_frame k e x h = subst (λ (q : Kept). IsUsed x q.entries) e (seen_used x h)

  pub seen_none : (k : Kept) → seen count frame_len used ws bs ≡ k → (key : ℕ) → entry_of key (entries_of count frame_len used ws bs) ≡ None → IsNone (entry_of key k.entries)
  seen_none k e key none = subst (λ (q : Kept). IsNone (entry_of key q.entries)) e (rw none refl)
