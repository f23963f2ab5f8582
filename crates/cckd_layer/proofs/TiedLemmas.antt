-- A layer that was mounted from a sound file, whose last space may pass the file's end.
use Rattle.std.proofs.Common.{◌≡◌, ℕ, ◌+◌, ◌-◌, ◌<◌, ◌≤◌, min, Bool, true, false, List, [], ◌∷◌, length, Option, Some, None, IsSome, unwrap_or, cond, refl, sym, ◌∙◌, ap, subst, inl, inr, arith}
use Rattle.std.specs.Option.{option_or}
use Rattle.std.specs.Prelude.{Result, Ok, Err, IfOk}
use Rattle.std.proofs.lemmas.Bool.{cases_lt, le-leb, cond-true}
use Rattle.cckd_shelf.specs.World.{World, IsSure, file_of, after_sync}
use Rattle.cckd_shelf.specs.Outcomes.{EachOutcome}
use Rattle.cckd_shelf.specs.Seen.{Seen}
use Rattle.cckd_shelf.proofs.OutcomeLemmas.{sync_leaves_now}
use Rattle.cckd_base.specs.declared.geometry.Layout.{Layout}
use Rattle.cckd_base.specs.declared.entry.L2Entry.{L2Entry}
use Rattle.cckd_base.specs.declared.open_fault.OpenFault.{OpenFault}
use Rattle.cckd_base.specs.declared.space.Extent.{Extent}
use Rattle.cckd_base.specs.declared.space.Owner.TheVariants.{Nobody, Header, Table, Track}
use Rattle.cckd_base.specs.Geometry.{track_count, format_limit, IsLayout}
use Rattle.cckd_base.specs.Entry.{entry_at}
use Rattle.cckd_base.specs.Survey.{track_space, used_spaces}
use Rattle.cckd_base.specs.Image.{IsPlace, IsSnug, IsSound}
use Rattle.cckd_base.proofs.HeaderLemmas.{headed_layout, headed_short}
use Rattle.cckd_base.proofs.ImageLemmas.{named_used, used_named, entry_fits}
use Rattle.cckd_base.proofs.PlaceLemmas.{stored_inside}
use Rattle.cckd_image.specs.declared.roles.Roles.{Roles}
use Rattle.cckd_image.specs.Image.{identifiers_of}
use Rattle.cckd_space.specs.declared.piece.Kind.{Kind}
use Rattle.cckd_space.specs.declared.piece.Kind.TheVariants.{Used, Free, Reserved, Leaving, Pending}
use Rattle.cckd_space.specs.declared.piece.Piece.{Piece}
use Rattle.cckd_space.specs.Pieces.{Has, IsLaid, IsFormedAs, begins_by, last, piece_end, pieces_of, used_piece}
use Rattle.cckd_space.proofs.LaidLemmas.{laid_le}
use Rattle.cckd_tables.specs.Looking.{with_cached}
use Rattle.cckd_tables.specs.Staging.{Stages, IsStaged, entry_for, new_entry}
use Rattle.cckd_tables.specs.Tables.{TableView, CachedTable, AreOf}
use Rattle.cckd_layer.specs.Sits.{identifiers_for}
use Rattle.cckd_layer.specs.Marks.{FitsLayout}
use Rattle.cckd_layer.specs.Stands.{Stands, nothing_staged}
use Rattle.cckd_layer.specs.Mounted.{LayerState, CanRead, IsFresh, IsOf, with_tables}
use Rattle.cckd_layer.specs.Writes.{Agrees}
use Rattle.cckd_layer.specs.Loose.{Loose, Tied, TiedIn, IsLastTrack}
use Rattle.cckd_layer.proofs.CallerLemmas.{fits_said, agrees_reads}
use Rattle.cckd_layer.proofs.MountLemmas.{IsFound, mounted_stands, sound_reads}
use Rattle.cckd_layer.proofs.PieceLemmas.{used_there, used_from}
use Rattle.cckd_layer.proofs.RoleLemmas.{headed_for}

-- ---- from a mounting

-- a layer that was just mounted is as it was mounted
pub mount_loose : (roles : Roles) (slot limit : ℕ) (s : LayerState) (w new : World) → IsSure w → new ≡ after_sync slot w → limit ≤ format_limit
    → IsFresh slot limit s → IsOf roles (file_of w slot) s → Loose s new
mount_loose roles slot limit s w new sure made short fresh of =
    subst (Loose s) (sym made) (
    let at = sym fresh.slot_is in
    let l = s.tables.layout in
    record {
      sure = sure;
      sound = subst (λ (n : ℕ). IsSound (identifiers_for l) l (file_of w n)) at (record { headed = headed_for roles l (file_of w slot) of.sound.headed; clean = of.sound.clean });
      stages = fresh.stages;
      marked = fresh.marked;
      hardened = fresh.hardened;
      are = subst (λ (n : ℕ). AreOf s.tables (file_of w n)) at of.tables;
      fits = fits_said (identifiers_of roles) l (file_of w slot) s.header of.sound.headed of.header;
      pieces = subst (λ (n : ℕ). s.plan.pieces ≡ pieces_of 0 (used_spaces l (file_of w n)) (length (file_of w n))) at of.pieces;
      size = subst (λ (n : ℕ). s.plan.size ≡ length (file_of w n)) at of.size;
      laid = fresh.sound;
      limited = subst (λ (n : ℕ). n ≤ format_limit) (sym fresh.limit_is) short;
      alone = subst (λ (n : ℕ). EachOutcome n (λ file. file ≡ file_of w n) (after_sync slot w).events) at (sync_leaves_now slot w.events sure);
    })

-- the same of what a mounting answers
pub all_tied : (roles : Roles) (slot limit : ℕ) (r : Result LayerState OpenFault) (w new : World) → IsSure w → new ≡ after_sync slot w → limit ≤ format_limit
    → IfOk r (IsFresh slot limit) → IfOk r (IsOf roles (file_of w slot)) → IfOk r (λ s. Tied s new)
all_tied roles slot limit (Err why) w new sure made short fresh of = tt
all_tied roles slot limit (Ok s) w new sure made short fresh of = inr (mount_loose roles slot limit s w new sure made short fresh of)

-- ---- what a layer as it was mounted has

loose_layout : (s : LayerState) (w : World) → Loose s w → IsLayout s.tables.layout
loose_layout s w h = headed_layout (identifiers_for s.tables.layout) s.tables.layout (file_of w s.slot) h.sound.headed

-- where each space ends inside the file, it agrees with it
pub loose_agrees : (s : LayerState) (w : World) → Loose s w → IsSnug s.tables.layout (file_of w s.slot) → Agrees s w
loose_agrees s w h snug =
    let l = s.tables.layout in
    let file = file_of w s.slot in
    let laid : IsLaid 0 (pieces_of 0 (used_spaces l file) (length file)) (length file) =
    subst (λ (ps : List Piece). IsLaid 0 ps (length file)) h.pieces (subst (IsLaid 0 s.plan.pieces) h.size h.laid.laid) in
    let found : IsFound l file = record { headed = h.sound.headed; clean = h.sound.clean; snug = snug; laid = laid } in
    let plain = mounted_stands l file s.plan s.slot w found h.sure refl h.pieces h.size h.limited h.alone in
    record {
      stands = subst (λ (stages : Stages). Stands (record { layout = l; stages = stages; claims = []; plan = s.plan; marked = s.marked }) s.slot w) (sym h.stages)
          (subst (λ (m : Bool). Stands (record { layout = l; stages = nothing_staged; claims = []; plan = s.plan; marked = m }) s.slot w) (sym h.marked) plain);
      are = h.are;
      fits = h.fits;
      empty = λ hardened. h.stages;
      alone = λ hardened. h.alone;
    }

-- ---- the last piece

none_behind : (at : ℕ) (ps : List Piece) (end : ℕ) → IsLaid at ps end → end ≤ at → ps ≡ []
none_behind at [] end laid far = refl
none_behind at (p ∷ ps) end laid far = let k = laid_le (at + p.size) ps end laid.2 in absurd (omega (arith, k, laid.0.some, far))

-- the piece that ends with the file is the last one
ends_last : (p : Piece) (at : ℕ) (ps : List Piece) (end bound : ℕ) → IsLaid at ps end → Has p ps → piece_end p ≡ end → end ≤ bound → last (begins_by bound) ps ≡ Some p
ends_last p at [] end bound laid h e short = absurd h
ends_last p at (q ∷ qs) end bound laid h e short = elim h [
  | inl same ↦
      let n : q.pos + q.size ≡ p.pos + p.size = ap piece_end same in
      let none = none_behind (at + q.size) qs end laid.2 (omega (arith, n, e, laid.0.place)) in
      let low : q.pos ≤ bound = omega (arith, n, e, short) in
      ap (λ (xs : List Piece). option_or (last (begins_by bound) xs) (cond (begins_by bound q) (Some q) None)) none
      ∙ (cond-true (begins_by bound q) (Some q) None (le-leb q.pos bound low) ∙ ap (λ (x : Piece). Some x) same)
  | inr m ↦ ap (λ (o : Option Piece). option_or o (cond (begins_by bound q) (Some q) None)) (ends_last p (at + q.size) qs end bound laid.2 m e short)
]

-- and it is one of the pieces
last_has : (test : Piece → Bool) (ps : List Piece) (p : Piece) → last test ps ≡ Some p → Has p ps
last_has test [] p e = absurd (let f : None ≡ Some p = e in cc)
last_has test (q ∷ qs) p e = by (last test qs) (λ x k. last_has test qs x k) refl
  where
    chosen : (b : Bool) → cond b (Some q) None ≡ Some p → q ≡ p
    chosen true f = cc
    chosen false f = absurd cc

    by : (o : Option Piece) → ((x : Piece) → last test qs ≡ Some x → Has x qs) → last test qs ≡ o → Has p (q ∷ qs)
    by (Some x) rest k =
        let f : Some x ≡ Some p = sym (ap (λ (o : Option Piece). option_or o (cond (test q) (Some q) None)) k) ∙ e in
        inr (rest p (k ∙ f))
    by None rest k = inl (chosen (test q) (sym (ap (λ (o : Option Piece). option_or o (cond (test q) (Some q) None)) k) ∙ e))

laid_formed : (p : Piece) (at : ℕ) (ps : List Piece) (end : ℕ) → IsLaid at ps end → Has p ps → IsFormedAs p.kind p
laid_formed p at [] end laid h = absurd h
laid_formed p at (q ∷ qs) end laid h = elim h [
  | inl same ↦ subst (λ (x : Piece). IsFormedAs x.kind x) same laid.0.formed
  | inr m ↦ laid_formed p (at + q.size) qs end laid.2 m
]

-- only a Used piece is that of a track
owned_used : (p : Piece) (t : ℕ) → IsFormedAs p.kind p → p.owner ≡ Track t → p.kind ≡ Used
owned_used p t formed owner = by p.kind refl formed
  where
    by : (k : Kind) → p.kind ≡ k → IsFormedAs k p → p.kind ≡ Used
    by Used e f = e
    by Free e f = absurd (let x : Nobody ≡ Track t = sym f.1 ∙ owner in cc)
    by Reserved e f = absurd (let x : Nobody ≡ Track t = sym f.1 ∙ owner in cc)
    by Leaving e f = absurd (let x : Nobody ≡ Track t = sym f.1 ∙ owner in cc)
    by Pending e f = absurd (let x : Nobody ≡ Track t = sym f.1 ∙ owner in cc)

-- ---- the last piece of a file as it was mounted

-- a space that reaches the file's end has the last piece
past_last : (s : LayerState) (w : World) (t : ℕ) → Loose s w → t < track_count s.tables.layout.geo → IsPlace (entry_at s.tables.layout (file_of w s.slot) t).pos
    → length (file_of w s.slot) ≤ (entry_at s.tables.layout (file_of w s.slot) t).pos + (entry_at s.tables.layout (file_of w s.slot) t).size
    → last (begins_by 4294967295) s.plan.pieces ≡ Some (used_piece (track_space (length (file_of w s.slot)) t (entry_at s.tables.layout (file_of w s.slot) t)))
past_last s w t h low place past =
    let l = s.tables.layout in
    let file = file_of w s.slot in
    let e = entry_at l file t in
    let x = track_space (length file) t e in
    let layout = loose_layout s w h in
    let f = stored_inside l (length file) t e (entry_fits l file layout h.sound.clean t low) place in
    let there : Has (used_piece x) s.plan.pieces = subst (Has (used_piece x)) (sym h.pieces)
    (used_there x 0 (used_spaces l file) (length file) (named_used l file x layout h.sound.clean (inr (inr (t, low, place, refl))))) in
    let end : e.pos + min e.size (length file - e.pos) ≡ s.plan.size = omega (arith, f.within, past, h.size) in
    let short = headed_short (identifiers_for l) l file h.sound.headed in
    ends_last (used_piece x) 0 s.plan.pieces s.plan.size 4294967295 h.laid.laid there end (omega (arith, short, h.size))

-- the last piece of a track is that of its space
pub last_cut : (s : LayerState) (w : World) (t n : ℕ) → Loose s w → IsLastTrack s.plan.pieces t n
    → (t < track_count s.tables.layout.geo) × IsPlace (entry_at s.tables.layout (file_of w s.slot) t).pos × (n ≡ (track_space (length (file_of w s.slot)) t (entry_at s.tables.layout (file_of w s.slot) t)).size)
last_cut s w t n h is =
    let l = s.tables.layout in
    let file = file_of w s.slot in
    let has = last_has (begins_by 4294967295) s.plan.pieces is.piece is.last_is in
    let kind = owned_used is.piece t (laid_formed is.piece 0 s.plan.pieces s.plan.size h.laid.laid has) is.owner in
    let from = used_from is.piece 0 (used_spaces l file) (length file) (subst (Has is.piece) h.pieces has) kind in
    let owner : from.0.owner ≡ Track t = sym (ap (λ (p : Piece). p.owner) from.2) ∙ is.owner in
    let size : n ≡ from.0.size = sym is.size_is ∙ ap (λ (p : Piece). p.size) from.2 in
    elim (used_named l file h.sound.clean from.0 from.1) [
      | inl header ↦ absurd (let x : Header ≡ Track t = sym (ap (λ (e : Extent). e.owner) header) ∙ owner in cc)
      | inr (inl g) ↦ absurd (let x : Table g.0 ≡ Track t = sym (ap (λ (e : Extent). e.owner) g.3) ∙ owner in cc)
      | inr (inr u) ↦
          let x : Track u.0 ≡ Track t = sym (ap (λ (e : Extent). e.owner) u.3) ∙ owner in
          let same : u.0 ≡ t = cc in
          subst (λ (k : ℕ). (k < track_count l.geo) × IsPlace (entry_at l file k).pos × (n ≡ (track_space (length file) k (entry_at l file k)).size)) same
          (u.1, u.2, size ∙ ap (λ (e : Extent). e.size) u.3)
    ]

-- at most one space passes the end
pub one_past : (s : LayerState) (w : World) (t u : ℕ) → Loose s w → t < track_count s.tables.layout.geo → u < track_count s.tables.layout.geo
    → IsPlace (entry_at s.tables.layout (file_of w s.slot) t).pos → IsPlace (entry_at s.tables.layout (file_of w s.slot) u).pos
    → length (file_of w s.slot) ≤ (entry_at s.tables.layout (file_of w s.slot) t).pos + (entry_at s.tables.layout (file_of w s.slot) t).size
    → length (file_of w s.slot) ≤ (entry_at s.tables.layout (file_of w s.slot) u).pos + (entry_at s.tables.layout (file_of w s.slot) u).size → t ≡ u
one_past s w t u h low there place placed past passed =
    let l = s.tables.layout in
    let file = file_of w s.slot in
    let p : Piece = used_piece (track_space (length file) t (entry_at l file t)) in
    let q : Piece = used_piece (track_space (length file) u (entry_at l file u)) in
    let e : Some p ≡ Some q = sym (past_last s w t h low place past) ∙ past_last s w u h there placed passed in
    let f : p ≡ q = cc in
    let o : Track t ≡ Track u = ap (λ (x : Piece). x.owner) f in cc

-- each space ends inside the file, where the last one of a track has the size that its entry says
pub loose_snug : (s : LayerState) (w : World) → Loose s w
    → ((t n : ℕ) → IsLastTrack s.plan.pieces t n → t < track_count s.tables.layout.geo → (entry_at s.tables.layout (file_of w s.slot) t).size ≤ n) → IsSnug s.tables.layout (file_of w s.slot)
loose_snug s w h sized t low place =
    let l = s.tables.layout in
    let file = file_of w s.slot in
    let e = entry_at l file t in
    let x = track_space (length file) t e in
    let f = stored_inside l (length file) t e (entry_fits l file (loose_layout s w h) h.sound.clean t low) place in
    elim (cases_lt (length file) (e.pos + e.size)) [
      | inr inside ↦ inside
      | inl past ↦
          let most : e.size ≤ min e.size (length file - e.pos) = sized t x.size (record { piece = used_piece x; last_is = past_last s w t h low place (omega (arith, past)); owner = refl; size_is = refl }) low in
          absurd (omega (arith, most, past, f.within))
    ]

-- ---- a layer that agrees with its file

-- the entry of the last track says the size of the piece
pub agrees_last : (s : LayerState) (w : World) (t n : ℕ) → Agrees s w → IsLastTrack s.plan.pieces t n
    → (t < track_count s.tables.layout.geo) × ((new_entry s.tables.layout s.tables.stages (file_of w s.slot) t).size ≡ n)
agrees_last s w t n a is =
    let l = s.tables.layout in
    let file = file_of w s.slot in
    let has = last_has (begins_by 4294967295) s.plan.pieces is.piece is.last_is in
    let kind = owned_used is.piece t (laid_formed is.piece 0 s.plan.pieces s.plan.size a.stands.now.spans.laid has) is.owner in
    let from = a.stands.now.accounts.used.named is.piece has kind in
    let owner : from.0.owner ≡ Track t = sym (ap (λ (p : Piece). p.owner) from.2) ∙ is.owner in
    let size : from.0.size ≡ n = sym (ap (λ (p : Piece). p.size) from.2) ∙ is.size_is in
    elim from.1 [
      | inl header ↦ absurd (let x : Header ≡ Track t = sym (ap (λ (e : Extent). e.owner) header) ∙ owner in cc)
      | inr (inl g) ↦ absurd (let x : Table g.0 ≡ Track t = sym (ap (λ (e : Extent). e.owner) g.2.is) ∙ owner in cc)
      | inr (inr u) ↦
          let x : Track u.0 ≡ Track t = sym (ap (λ (e : Extent). e.owner) u.2.is) ∙ owner in
          let same : u.0 ≡ t = cc in
          let plain : new_entry l s.tables.stages file u.0 ≡ entry_at l file u.0 = unstaged s.tables.stages u.0 (entry_at l file u.0) u.1 in
          subst (λ (k : ℕ). (k < track_count l.geo) × ((new_entry l s.tables.stages file k).size ≡ n)) same
          (u.2.low, ap (λ (e : L2Entry). e.size) plain ∙ (sym (ap (λ (e : Extent). e.size) u.2.is) ∙ size))
    ]
  where
    unstaged : (st : Stages) (k : ℕ) (e : L2Entry) → (IsStaged k st → ⊥) → unwrap_or (entry_for k st.entries) e ≡ e
    unstaged st k e not = by (entry_for k st.entries) refl
      where
        by : (o : Option L2Entry) → entry_for k st.entries ≡ o → unwrap_or (entry_for k st.entries) e ≡ e
        by None is_none = ap (λ (o : Option L2Entry). unwrap_or o e) is_none
        by (Some x) some = absurd (not (subst (λ (o : Option L2Entry). IsSome o) (sym some) refl))

-- ---- what is looked up

-- a layer as it was mounted is so with other tables of its file
pub loose_with : (s : LayerState) (tables : TableView) (w : World) → tables.layout ≡ s.tables.layout → tables.stages ≡ s.tables.stages → AreOf tables (file_of w s.slot) → Loose s w → Loose (with_tables s tables) w
loose_with s tables w layout stages are h =
    let file = file_of w s.slot in
    let back = sym layout in
    record {
      sure = h.sure;
      sound = subst (λ (l : Layout). IsSound (identifiers_for l) l file) back h.sound;
      stages = stages ∙ h.stages;
      marked = h.marked;
      hardened = h.hardened;
      are = are;
      fits = subst (λ (l : Layout). FitsLayout l s.header.cckd) back h.fits;
      pieces = h.pieces ∙ ap (λ (l : Layout). pieces_of 0 (used_spaces l file) (length file)) back;
      size = h.size;
      laid = h.laid;
      limited = h.limited;
      alone = h.alone;
    }

-- a layer that is tied to its file stays so, whatever of its tables is cached
pub tied_cached : (s : LayerState) (cached : List CachedTable) (old new : Seen) → new.world ≡ old.world → AreOf (with_cached s.tables cached) (file_of old.world s.slot) → Tied s old.world
    → Tied (with_tables s (with_cached s.tables cached)) new.world
tied_cached s cached old new same are tied =
    let next = with_tables s (with_cached s.tables cached) in
    subst (Tied next) (sym same) (elim tied [
      | inl a ↦ inl (record { stands = a.stands; are = are; fits = a.fits; empty = a.empty; alone = a.alone })
      | inr h ↦ inr (loose_with s (with_cached s.tables cached) old.world refl refl are h)
    ])

-- a layer that is tied to its file can be read
pub tied_reads : (s : LayerState) (seen : Seen) → TiedIn s seen → CanRead s seen
tied_reads s seen tied told sure = elim (tied told sure) [
  | inl a ↦ agrees_reads s seen (λ t certain. a) told sure
  | inr h ↦ sound_reads s.tables (file_of seen.world s.slot) (loose_layout s seen.world h) h.sound.clean h.stages h.are
]
