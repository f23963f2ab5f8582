-- What a commit leaves: whole files that hold what they held or what was staged, and a layer that stands.
use Rattle.std.proofs.Common.{◌≡◌, ◌⊎◌, ℕ, ◌+◌, ◌/◌, ◌%◌, ◌<◌, ◌≤◌, List, length, map, Option, Some, None, IsSome, refl, sym, ◌∙◌, ap, subst, inl, inr, arith}
use Rattle.cckd_shelf.specs.World.{World, IsSure, file_of}
use Rattle.cckd_shelf.specs.Outcomes.{EachOutcome}
use Rattle.cckd_shelf.proofs.OutcomeLemmas.{now_is_outcome}
use Rattle.cckd_base.specs.declared.geometry.Layout.{Layout}
use Rattle.cckd_base.specs.declared.entry.L2Entry.{L2Entry}
use Rattle.cckd_base.specs.declared.space.Extent.{Extent}
use Rattle.cckd_base.specs.Geometry.{track_count, area_of, IsLayout}
use Rattle.cckd_base.specs.Header.{headers_of, header_options}
use Rattle.cckd_base.specs.Entry.{word_at, entry_at, bytes_by_entry}
use Rattle.cckd_base.specs.Survey.{table_space}
use Rattle.cckd_base.specs.Image.{IsPlace}
use Rattle.cckd_base.proofs.HeaderLemmas.{headed_layout, headed_short}
use Rattle.cckd_base.proofs.PlaceLemmas.{table_inside, stored_inside, bytes_stay}
use Rattle.cckd_space.specs.Pieces.{Has, IsLaid, retired, used_piece, reserved_piece}
use Rattle.cckd_space.specs.Plan.{Plan, Becomes}
use Rattle.cckd_space.proofs.CallerLemmas.{has_map}
use Rattle.cckd_space.proofs.PlaceLemmas.{has_within}
use Rattle.cckd_tables.specs.Staging.{Stages, IsStaged, IsMoved, entry_for, place_for, new_entry, new_word}
use Rattle.cckd_tables.specs.Blend.{Blend, IsCommitted}
use Rattle.cckd_tables.specs.Commit.{IsSynced, IsBlended, IsCommittedFrom, MayLeave}
use Rattle.cckd_tables.specs.Cells.{IsReady}
use Rattle.cckd_tables.proofs.StagedLemmas.{some_or_none, new_entry_at, new_entry_plain, new_word_at, new_word_plain, entry_case, word_case, same_entry, same_word}
use Rattle.cckd_tables.proofs.BlendLemmas.{pick, blend_image, blend_old_bytes, blend_new_bytes}
use Rattle.cckd_tables.proofs.CommitLemmas.{ready_of}
use Rattle.cckd_layer.specs.Held.{NullBytes, Tracks, Later, IsLater, LiesWithin, Keeps, Holds, held, held_in}
use Rattle.cckd_layer.specs.Sits.{identifiers_for, IsWhole, IsMarked, IsHeld, Rests, Sits}
use Rattle.cckd_layer.specs.Current.{stored_space, IsInUse, IsReplaced, IsNew, IsAmong, IsPlaced, placed_piece, Accounts, Current}
use Rattle.cckd_layer.specs.Acts.{settled_all, spaces_of, committed_pieces}
use Rattle.cckd_layer.specs.Stands.{AreRising, nothing_staged, LayerView, Stands}
use Rattle.cckd_layer.proofs.AccountLemmas.{accounts_same, accounts_retired}
use Rattle.cckd_layer.proofs.SpanLemmas.{KeepsHeld, keeps_twice, held_retired, EndsBy, ends_retired, spans_by, spans_grown}
use Rattle.cckd_layer.proofs.HeadLemmas.{headers_kept, headed_kept}
use Rattle.cckd_layer.proofs.FillLemmas.{StaysWhole, stays_keeps}
use Rattle.cckd_layer.proofs.StageLemmas.{some_moved, new_owner, among_owner}
use Rattle.cckd_layer.proofs.NearLemmas.{near_whole, new_placed, all_found}
use Rattle.cckd_layer.proofs.SpaceLemmas.{spaces_once, spaces_new, new_spaces}
use Rattle.cckd_layer.proofs.SettledLemmas.{IsFilled, AreSettled, all_settled}
use Rattle.cckd_layer.proofs.StandLemmas.{held_as, stands_sits}

-- the file at the sync of a commit, behind the file now
pub synced_whole : (l : Layout) (s : Stages) (claims : List Extent) (plan : Plan) (was mid : List ℕ) → AreRising s → Sits l plan.pieces was → Current l s claims plan was → IsSynced l s was mid → StaysWhole l was mid
synced_whole l s claims plan was mid rising sits c sync =
    near_whole l s claims (IsInUse l s was) (IsReplaced l s was) plan was mid rising.groups c.spans.laid c.spans.short c.accounts sits sync.near

-- a blend over it is whole, with the same headers
pub blend_whole : (l : Layout) (s : Stages) (mid file : List ℕ) → IsWhole l mid → IsReady l s mid → Blend l mid s file → IsWhole l file × (headers_of file ≡ headers_of mid)
blend_whole l s mid file whole ready b =
    let image = blend_image l mid s file whole.image ready.can_move b in
    let longer : length mid ≤ length file = omega (arith, b.size) in
    let headers = headers_kept mid file (omega (arith, whole.image.area)) longer
    (λ i low. b.still i (omega (arith, low, whole.image.area)) (record {
      words = λ g there moved. inl (omega (arith, low));
      entries = λ t there staged stays place.
          let k = table_inside l (length mid) (t / 256) (word_at l mid (t / 256)) (whole.image.words (t / 256) (omega (arith, ready.layout.groups, there))) place in
          inl (omega (arith, low, k.0));
    })) in
    (record { headed = headed_kept (identifiers_for l) l mid file headers longer (omega (arith, b.size, headed_short (identifiers_for l) l mid whole.headed)) whole.headed; image = image }, headers)

-- each track has what the file held, or what the layer held
pub blend_track : (null : NullBytes) (l : Layout) (s : Stages) (was mid file : List ℕ) → IsSynced l s was mid → StaysWhole l was mid → IsReady l s mid → Blend l mid s file → (t : ℕ) → t < track_count l.geo
    → (held_in null l file t ≡ held_in null l was t) ⊎ (held_in null l file t ≡ held null l s was t)
blend_track null l s was mid file sync x ready b t low = elim (b.entries t low) [
  | inl old ↦ inl (
      ap (bytes_by_entry null l file t) old
      ∙ (bytes_stay null l mid file t (entry_at l mid t) (λ place. blend_old_bytes l mid s file t ready b low place)
      ∙ x.stays.stored null t low))
  | inr new ↦ inr (blend_new null l s was mid file sync ready b t low new)
]
  where
    blend_new : (null : NullBytes) (l : Layout) (s : Stages) (was mid file : List ℕ) → IsSynced l s was mid → IsReady l s mid → Blend l mid s file → (t : ℕ) → t < track_count l.geo
        → entry_at l file t ≡ new_entry l s mid t → held_in null l file t ≡ held null l s was t
    blend_new null l s was mid file sync ready b t low new =
        ap (bytes_by_entry null l file t) new
        ∙ (bytes_stay null l mid file t (new_entry l s mid t) (λ place. blend_new_bytes l mid s file t ready b low place)
        ∙ (ap (bytes_by_entry null l mid t) (same_entry l s was mid t (sync.entries t low))
        ∙ bytes_stay null l was mid t (new_entry l s was t) (λ place. sync.bytes t low place)))

pub committed_track : (null : NullBytes) (l : Layout) (s : Stages) (was mid file : List ℕ) → IsSynced l s was mid → IsReady l s mid → IsCommitted l mid s file → (t : ℕ) → t < track_count l.geo
    → held_in null l file t ≡ held null l s was t
committed_track null l s was mid file sync ready done t low =
    ap (bytes_by_entry null l file t) (done.entries t low)
    ∙ (bytes_stay null l mid file t (new_entry l s mid t) (λ place. blend_new_bytes l mid s file t ready done.blend low place)
    ∙ (ap (bytes_by_entry null l mid t) (same_entry l s was mid t (sync.entries t low))
    ∙ bytes_stay null l was mid t (new_entry l s was t) (λ place. sync.bytes t low place)))

-- ---- at each operation

-- what a stop leaves in a commit keeps within what was hardened and written since, where the layer's map does
pub commit_keeps : (null : NullBytes) (d : Tracks) (later : List Later) (v : LayerView) (slot : ℕ) (w : World) → AreRising v.stages → Stands v slot w
    → LiesWithin (track_count v.layout.geo) d later (held null v.layout v.stages (file_of w slot)) → EachOutcome slot (Keeps null v.layout d later) w.events
    → (f : List ℕ) → MayLeave v.layout v.stages slot w.events (file_of w slot) f → Keeps null v.layout d later f
commit_keeps null d later v slot w rising h within each f left = elim left [
  | inl near ↦
      stays_keeps null v.layout d later near.0 f
      (near_whole v.layout v.stages v.claims (IsInUse v.layout v.stages (file_of w slot)) (IsReplaced v.layout v.stages (file_of w slot)) v.plan near.0 f rising.groups h.now.spans.laid h.now.spans.short h.now.accounts (h.each near.0 near.1) near.2)
      (each near.0 near.1)
  | inr blend ↦
      let l = v.layout in
      let was = file_of w slot in
      let sits = stands_sits v slot w h in
      let x = synced_whole l v.stages v.claims v.plan was blend.0 rising sits h.now blend.1 in
      let ready = ready_of l v.stages was blend.0 (headed_layout (identifiers_for l) l was sits.whole.headed) blend.1 in
      let now : Keeps null l d later was = each was (now_is_outcome w.events slot) in
      record {
        whole = (blend_whole l v.stages blend.0 f x.whole ready blend.2).0;
        lies = record {
          each = λ t low. elim (blend_track null l v.stages was blend.0 f blend.1 x ready blend.2 t low) [
            | inl old ↦ subst (λ (o : Option (List ℕ)). (o ≡ d t) ⊎ IsLater later t o) (sym old) (now.lies.each t low)
            | inr new ↦ subst (λ (o : Option (List ℕ)). (o ≡ d t) ⊎ IsLater later t o) (sym new) (within.each t low)
          ];
        };
      }
]

-- it says that it was opened, where each outcome did
pub commit_marked : (v : LayerView) (slot : ℕ) (w : World) → AreRising v.stages → Stands v slot w → EachOutcome slot IsMarked w.events → (f : List ℕ) → MayLeave v.layout v.stages slot w.events (file_of w slot) f → IsMarked f
commit_marked v slot w rising h each f left = elim left [
  | inl near ↦
      let x = near_whole v.layout v.stages v.claims (IsInUse v.layout v.stages (file_of w slot)) (IsReplaced v.layout v.stages (file_of w slot)) v.plan near.0 f rising.groups h.now.spans.laid h.now.spans.short h.now.accounts (h.each near.0 near.1) near.2 in
      let m = each near.0 near.1 in
      record { on = subst (λ (hs : List ℕ). header_options hs / 128 % 2 ≡ 1) (sym x.headers) m.on }
  | inr blend ↦
      let l = v.layout in
      let was = file_of w slot in
      let sits = stands_sits v slot w h in
      let x = synced_whole l v.stages v.claims v.plan was blend.0 rising sits h.now blend.1 in
      let ready = ready_of l v.stages was blend.0 (headed_layout (identifiers_for l) l was sits.whole.headed) blend.1 in
      let m = each was (now_is_outcome w.events slot) in
      record { on = subst (λ (hs : List ℕ). header_options hs / 128 % 2 ≡ 1) (sym ((blend_whole l v.stages blend.0 f x.whole ready blend.2).1 ∙ x.headers)) m.on }
]

-- ---- the layer behind a commit

none_at : (t : ℕ) → IsStaged t nothing_staged → ⊥
none_at t h = cc

none_moved_at : (g : ℕ) → IsMoved g nothing_staged → ⊥
none_moved_at g h = cc

-- what the committed file names is what was in use or new
module _ (l : Layout) (s : Stages) (was mid file : List ℕ) (layout : IsLayout l) (sync : IsSynced l s was mid) (done : IsCommitted l mid s file) where
  word_is : (g : ℕ) → g < l.groups → word_at l file g ≡ new_word l s was g
  word_is g low = done.words g low ∙ same_word l s was mid g (sync.words g low)

  entry_is : (t : ℕ) → t < track_count l.geo → entry_at l file t ≡ new_entry l s was t
  entry_is t low = done.entries t low ∙ same_entry l s was mid t (sync.entries t low)

  named_was : (x : Extent) → IsInUse l nothing_staged file x → IsInUse l s was x ⊎ IsNew s x
  named_was x h = elim h [
    | inl area ↦ inl (inl area)
    | inr (inl table) ↦
        let g = table.0 in
        let k = table.2 in
        elim (some_or_none (place_for g s.words)) [
          | inl p ↦
              let at : word_at l file g ≡ p.0 = word_is g k.low ∙ new_word_at l s was g p.0 p.1 in
              inr (inl (g, record { pos = p.0; named = p.1; is = k.is ∙ ap (table_space g) at }))
          | inr none ↦
              let not : IsMoved g s → ⊥ = λ m. none_of_it (place_for g s.words) none m in
              let at : word_at l file g ≡ word_at l was g = word_is g k.low ∙ new_word_plain l s was g not in
              inl (inr (inl (g, not, record { low = k.low; place = subst IsPlace at k.place; is = k.is ∙ ap (table_space g) at })))
        ]
    | inr (inr track) ↦
        let t = track.0 in
        let k = track.2 in
        elim (some_or_none (entry_for t s.entries)) [
          | inl e ↦
              let at : entry_at l file t ≡ e.0 = entry_is t k.low ∙ new_entry_at l s was t e.0 e.1 in
              inr (inr (t, record { entry = e.0; named = e.1; place = subst (λ (y : L2Entry). IsPlace y.pos) at k.place; is = k.is ∙ ap (stored_space t) at }))
          | inr none ↦
              let not : IsStaged t s → ⊥ = λ m. none_of_entry (entry_for t s.entries) none m in
              let at : entry_at l file t ≡ entry_at l was t = entry_is t k.low ∙ new_entry_plain l s was t none in
              inl (inr (inr (t, not, record { low = k.low; place = subst (λ (y : L2Entry). IsPlace y.pos) at k.place; is = k.is ∙ ap (stored_space t) at })))
        ]
  ]
    where
      none_of_it : (o : Option ℕ) → o ≡ None → IsSome o → ⊥
      none_of_it None e h = cc
      none_of_it (Some x) e h = absurd cc

      none_of_entry : (o : Option L2Entry) → o ≡ None → IsSome o → ⊥
      none_of_entry None e h = cc
      none_of_entry (Some x) e h = absurd cc

  was_named : ((g pos : ℕ) → place_for g s.words ≡ Some pos → (g < l.groups) × IsPlace pos) → ((t : ℕ) (e : L2Entry) → entry_for t s.entries ≡ Some e → t < track_count l.geo)
      → (x : Extent) → IsInUse l s was x ⊎ IsNew s x → IsInUse l nothing_staged file x
  was_named words entries x h = elim h [
    | inl (inl area) ↦ inl area
    | inl (inr (inl table)) ↦
        let g = table.0 in
        let k = table.2 in
        let at : word_at l file g ≡ word_at l was g = word_is g k.low ∙ new_word_plain l s was g table.1 in
        inr (inl (g, none_moved_at g, record { low = k.low; place = subst IsPlace (sym at) k.place; is = k.is ∙ ap (table_space g) (sym at) }))
    | inl (inr (inr track)) ↦
        let t = track.0 in
        let k = track.2 in
        let none : entry_for t s.entries ≡ None = none_there (entry_for t s.entries) track.1 in
        let at : entry_at l file t ≡ entry_at l was t = entry_is t k.low ∙ new_entry_plain l s was t none in
        inr (inr (t, none_at t, record { low = k.low; place = subst (λ (y : L2Entry). IsPlace y.pos) (sym at) k.place; is = k.is ∙ ap (stored_space t) (sym at) }))
    | inr (inl table) ↦
        let g = table.0 in
        let k = table.1 in
        let c = words g k.pos k.named in
        let at : word_at l file g ≡ k.pos = word_is g c.0 ∙ new_word_at l s was g k.pos k.named in
        inr (inl (g, none_moved_at g, record { low = c.0; place = subst IsPlace (sym at) c.1; is = k.is ∙ ap (table_space g) (sym at) }))
    | inr (inr track) ↦
        let t = track.0 in
        let k = track.1 in
        let low = entries t k.entry k.named in
        let at : entry_at l file t ≡ k.entry = entry_is t low ∙ new_entry_at l s was t k.entry k.named in
        inr (inr (t, none_at t, record { low = low; place = subst (λ (y : L2Entry). IsPlace y.pos) (sym at) k.place; is = k.is ∙ ap (stored_space t) (sym at) }))
  ]
    where
      none_there : (o : Option L2Entry) → (IsSome o → ⊥) → o ≡ None
      none_there None h = refl
      none_there (Some x) h = absurd (h refl)

-- ---- the pieces behind a commit: what was placed for something staged is Used, and what it replaces is Pending

new_filled : (l : Layout) (s : Stages) (claims : List Extent) (plan : Plan) (was : List ℕ) → Current l s claims plan was → (x : Extent) → IsNew s x → IsFilled x
new_filled l s claims plan was c x h = elim h [
  | inl table ↦ subst IsFilled (sym table.1.is) (record { some = omega arith; within = omega arith })
  | inr track ↦
      let k = c.entries track.0 track.1.entry track.1.named in
      let f = stored_inside l (length was) track.0 track.1.entry k.fits track.1.place in
      subst IsFilled (sym track.1.is) (record { some = omega (arith, f.some); within = f.holds })
]

new_within : (l : Layout) (s : Stages) (claims : List Extent) (plan : Plan) (was mid : List ℕ) → Current l s claims plan was → IsSynced l s was mid → (x : Extent) → IsNew s x → x.pos + x.size ≤ length mid
new_within l s claims plan was mid c sync x h = elim h [
  | inl table ↦
      let k = table.1 in
      let n = sync.has.within table.0 (some_moved table.0 k.pos s k.named) in
      let at = new_word_at l s was table.0 k.pos k.named in
      subst (λ (y : Extent). y.pos + y.size ≤ length mid) (sym k.is) (omega (arith, n, at))
  | inr track ↦
      let k = track.1 in
      let n = (c.entries track.0 k.entry k.named).snug k.place in
      subst (λ (y : Extent). y.pos + y.size ≤ length mid) (sym k.is) (omega (arith, n, sync.near.no_shorter))
]

settled_of : (l : Layout) (s : Stages) (claims : List Extent) (plan : Plan) (was mid : List ℕ) → AreRising s → Current l s claims plan was → IsSynced l s was mid
    → AreSettled (IsInUse l s was) (IsReplaced l s was) (IsPlaced s claims) (spaces_of s) (length mid) plan.pieces (settled_all (spaces_of s) plan.pieces) plan.size
settled_of l s claims plan was mid rising c sync =
    let new : (x : Extent) → IsAmong x (spaces_of s) → IsNew s x = spaces_new s rising.tracks rising.groups in
    all_settled (IsInUse l s was) (IsReplaced l s was) (IsPlaced s claims) (spaces_of s) (length mid) plan.pieces plan.size c.spans.laid (spaces_once s rising.tracks rising.groups)
    (λ x h. inl (new x h)) (λ x h. new_filled l s claims plan was c x (new x h)) (λ x h. new_within l s claims plan was mid c sync x (new x h))
    (record { each = λ p h k. let e = c.spans.inside p h k in omega (arith, e, sync.near.no_shorter) }) c.accounts

-- what is known of them
pub record AfterCommit (l : Layout) (s : Stages) (claims : List Extent) (was : List ℕ) (n : ℕ) (old new : Plan) : Type 0 where
  pub accounts : Accounts (λ x. IsInUse l s was x ⊎ IsNew s x) (λ x. ⊥) (λ x. IsAmong x claims) new.pieces
  pub keeps : KeepsHeld old.pieces new.pieces
  pub ends : EndsBy n new.pieces
  pub reserved : (pos m : ℕ) → Has (reserved_piece pos m) old.pieces → (pos + m ≤ n) ⊎ Has (reserved_piece pos m) new.pieces

pub after_commit : (l : Layout) (s : Stages) (claims : List Extent) (was mid : List ℕ) (old new : Plan) → AreRising s → Current l s claims old was → IsSynced l s was mid → new.pieces ≡ committed_pieces s old.pieces
    → AfterCommit l s claims was (length mid) old new
after_commit l s claims was mid old new rising c sync made =
    let st = settled_of l s claims old was mid rising c sync in
    let qs = settled_all (spaces_of s) old.pieces in
    let is_new : (x : Extent) → IsAmong x (spaces_of s) → IsNew s x = spaces_new s rising.tracks rising.groups in
    let a : Accounts (λ x. IsInUse l s was x ⊎ IsNew s x) (λ x. ⊥) (λ x. IsAmong x claims) (map retired qs) =
    accounts_same (λ x. IsInUse l s was x ⊎ IsAmong x (spaces_of s)) (λ x. ⊥) (λ x. IsPlaced s claims x × (IsAmong x (spaces_of s) → ⊥))
    (λ x. IsInUse l s was x ⊎ IsNew s x) (λ x. ⊥) (λ x. IsAmong x claims) (map retired qs)
    (λ x h. elim h [ inl u ↦ inl u | inr m ↦ inr (is_new x m) ]) (λ x h. elim h [ inl u ↦ inl u | inr m ↦ inr (new_spaces s x m) ])
    (λ x h. h) (λ x h. h)
    (λ x h. elim h.0 [ inl n ↦ absurd (h.1 (new_spaces s x n)) | inr m ↦ m ])
    (λ x h. (inr h, λ m. new_owner s x (is_new x m) (among_owner claims x c.claims_are h)))
    (accounts_retired (λ x. IsInUse l s was x ⊎ IsAmong x (spaces_of s)) (IsReplaced l s was) (λ x. IsPlaced s claims x × (IsAmong x (spaces_of s) → ⊥)) qs st.accounts) in
    record {
      accounts = subst (Accounts (λ x. IsInUse l s was x ⊎ IsNew s x) (λ x. ⊥) (λ x. IsAmong x claims)) (sym made) a;
      keeps = subst (KeepsHeld old.pieces) (sym made) (keeps_twice old.pieces qs (map retired qs) st.keeps (held_retired qs));
      ends = subst (EndsBy (length mid)) (sym made) (ends_retired (length mid) qs st.ends);
      reserved = λ pos m h. elim (st.reserved pos m h) [
        | inl inside ↦ inl inside
        | inr there ↦ inr (subst (Has (reserved_piece pos m)) (sym made) (has_map retired qs (reserved_piece pos m) there))
      ];
    }

no_new : (x : Extent) → IsNew nothing_staged x → ⊥
no_new x h = elim h [
  | inl table ↦ let e = table.1.named in cc
  | inr track ↦ let e = track.1.named in cc
]

pub current_committed : (l : Layout) (s : Stages) (claims : List Extent) (was mid file : List ℕ) (old new : Plan) → AreRising s → IsLayout l → Current l s claims old was → IsSynced l s was mid → IsCommitted l mid s file
    → Becomes old new (committed_pieces s old.pieces) old.size → IsLaid 0 new.pieces new.size → Current l nothing_staged claims new file
current_committed l s claims was mid file old new rising layout c sync done b laid =
    let k = after_commit l s claims was mid old new rising c sync b.made in
    let same : length file ≡ length mid = done.blend.size in
    let most : length mid ≤ old.size =
    sync.near.no_longer old.size c.spans.covers (all_found (λ w. w.pos + 2048 ≤ old.size) s.words rising.groups
    (λ w named. has_within 0 old.pieces old.size (placed_piece (table_space w.group w.pos)) c.spans.laid (c.accounts.reserved.there (table_space w.group w.pos) (new_placed s claims w.group w.pos named)))) in
    let grown = spans_grown old was file (omega (arith, sync.near.no_shorter, same)) (omega (arith, most, same)) c.spans in
    record {
      spans = spans_by old new file laid b.sized b.limit (subst (λ (n : ℕ). EndsBy n new.pieces) (sym same) k.ends)
          (λ pos m h. elim (k.reserved pos m h) [ inl inside ↦ inl (omega (arith, inside, same)) | inr there ↦ inr there ]) grown;
      accounts = accounts_same (λ x. IsInUse l s was x ⊎ IsNew s x) (λ x. ⊥) (λ x. IsAmong x claims) (IsInUse l nothing_staged file) (IsReplaced l nothing_staged file) (IsPlaced nothing_staged claims) new.pieces
          (was_named l s was mid file layout sync done (λ g pos named. let w = c.words g pos named in (w.low, w.place)) (λ t e named. (c.entries t e named).low))
          (named_was l s was mid file layout sync done)
          (λ x none. absurd none) (λ x h. elim h [ inl table ↦ none_moved_at table.0 table.1 | inr track ↦ none_at track.0 track.1 ])
          (λ x m. inr m) (λ x h. elim h [ inl new ↦ absurd (no_new x new) | inr m ↦ m ])
          k.accounts;
      claims_are = c.claims_are;
      entries = λ t e h. absurd (cc h);
      words = λ g pos h. absurd (cc h);
      lacks = λ g moved. absurd (none_moved_at g moved);
    }

-- each file that a stop then leaves rests in the pieces
pub blend_rests : (l : Layout) (s : Stages) (claims : List Extent) (was mid file : List ℕ) (old new : Plan) → Rests l old.pieces was → IsSynced l s was mid → AfterCommit l s claims was (length mid) old new → Blend l mid s file
    → Rests l new.pieces file
blend_rests l s claims was mid file old new r sync k b =
    let used : (x : Extent) → IsNew s x → IsHeld new.pieces x.pos x.size = λ x n. held_as new.pieces (used_piece x) (k.accounts.used.there x (inr n)) refl in
    record {
      area = k.keeps.each 0 (area_of l.groups) r.area;
      tables = λ g low.
          let P : ℕ → Type 0 = λ w. IsPlace w → IsHeld new.pieces w 2048 in
          let old_one : P (word_at l was g) = λ place. k.keeps.each (word_at l was g) 2048 (r.tables g low place) in
          pick P (word_at l mid g) (new_word l s mid g) (word_at l file g) (b.words g low) (subst P (sym (sync.words g low)) old_one)
          (subst P (sym (same_word l s was mid g (sync.words g low)))
          (word_case l s was g P (λ p named place. used (table_space g p) (inl (g, record { pos = p; named = named; is = refl }))) old_one));
      tracks = λ t low.
          let P : L2Entry → Type 0 = λ e. IsPlace e.pos → IsHeld new.pieces e.pos e.size in
          let old_one : P (entry_at l was t) = λ place. k.keeps.each (entry_at l was t).pos (entry_at l was t).size (r.tracks t low place) in
          pick P (entry_at l mid t) (new_entry l s mid t) (entry_at l file t) (b.entries t low) (subst P (sym (sync.entries t low)) old_one)
          (subst P (sym (same_entry l s was mid t (sync.entries t low)))
          (entry_case l s was t P (λ e named place. used (stored_space t e) (inr (t, record { entry = e; named = named; place = place; is = refl }))) old_one));
    }

-- A layer stands behind a commit that isn't synced.
pub stands_committed : (v : LayerView) (new : Plan) (slot : ℕ) (w after : World) → AreRising v.stages → Stands v slot w → IsSure after
    → EachOutcome slot (IsBlended v.layout v.stages (file_of w slot)) after.events → IsCommittedFrom v.layout v.stages (file_of w slot) (file_of after slot)
    → Becomes v.plan new (committed_pieces v.stages v.plan.pieces) v.plan.size → IsLaid 0 new.pieces new.size
    → Stands (record v { stages = nothing_staged; plan = new }) slot after
stands_committed v new slot w after rising h sure each now b laid =
    let l = v.layout in
    let was = file_of w slot in
    let sits = stands_sits v slot w h in
    let layout = headed_layout (identifiers_for l) l was sits.whole.headed in
    record {
      sure = sure;
      now = current_committed l v.stages v.claims was now.0 (file_of after slot) v.plan new rising layout h.now now.1 now.2 b laid;
      each = λ f o.
          let k = each f o in
          let x = synced_whole l v.stages v.claims v.plan was k.0 rising sits h.now k.1 in
          let ready = ready_of l v.stages was k.0 layout k.1 in
          record {
            whole = (blend_whole l v.stages k.0 f x.whole ready k.2).0;
            rests = blend_rests l v.stages v.claims was k.0 f v.plan new sits.rests k.1 (after_commit l v.stages v.claims was k.0 v.plan new rising h.now k.1 b.made) k.2;
          };
      marked = λ m f o. commit_marked v slot w rising h (h.marked m) f (inr (each f o));
    }

-- the committed file holds the layer's map
pub committed_holds : (null : NullBytes) (v : LayerView) (slot : ℕ) (w : World) (file : List ℕ) → AreRising v.stages → Stands v slot w → IsCommittedFrom v.layout v.stages (file_of w slot) file
    → Holds null v.layout (held null v.layout v.stages (file_of w slot)) file
committed_holds null v slot w file rising h now =
    let l = v.layout in
    let was = file_of w slot in
    let sits = stands_sits v slot w h in
    let x = synced_whole l v.stages v.claims v.plan was now.0 rising sits h.now now.1 in
    let ready = ready_of l v.stages was now.0 (headed_layout (identifiers_for l) l was sits.whole.headed) now.1 in
    record {
      whole = (blend_whole l v.stages now.0 file x.whole ready now.2.blend).0;
      same = record { each = committed_track null l v.stages was now.0 file now.1 ready now.2 };
    }
