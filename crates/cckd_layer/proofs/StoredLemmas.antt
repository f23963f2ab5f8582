-- A track whose bytes were put to their place can be staged, and the layer then has them.
use Rattle.std.proofs.Common.{◌≡◌, ◌+◌, ◌/◌, ◌<◌, ◌≤◌, min, max, ℕ, List, [], ◌∷◌, ◌++◌, length, true, Option, Some, None, IfSome, refl, sym, ◌∙◌, ap, subst, inl, arith}
use Rattle.std.specs.Option.{is_some}
use Rattle.std.proofs.lemmas.Bool.{cond-true, lt-ltb}
use Rattle.cckd_shelf.specs.World.{World, file_of}
use Rattle.cckd_shelf.specs.Seen.{Seen}
use Rattle.cckd_base.specs.declared.geometry.Layout.{Layout}
use Rattle.cckd_base.specs.declared.entry.L2Entry.{L2Entry}
use Rattle.cckd_base.specs.declared.space.Extent.{Extent}
use Rattle.cckd_base.specs.declared.misfit.Misfit.TheVariants.{BadEntry}
use Rattle.cckd_base.specs.Geometry.{track_count, area_of, is_null_format, IsNullFormat}
use Rattle.cckd_base.specs.Entry.{null_entry, bytes_by_entry}
use Rattle.cckd_base.specs.Numbers.{bytes_at}
use Rattle.cckd_base.specs.Image.{IsPlace}
use Rattle.cckd_base.specs.Misfit.{entry_misfit}
use Rattle.cckd_base.proofs.PlaceLemmas.{stored_can_be, placed_bytes}
use Rattle.cckd_space.specs.Pieces.{aligned_up}
use Rattle.cckd_tables.specs.Staging.{IsStaged}
use Rattle.cckd_tables.specs.Looking.{HasAlignedTable}
use Rattle.cckd_tables.specs.Tables.{TableView}
use Rattle.cckd_layer.specs.declared.writing.Stored.{Stored}
use Rattle.cckd_layer.specs.declared.writing.Stored.TheVariants as stored
use Rattle.cckd_layer.specs.Held.{NullBytes}
use Rattle.cckd_layer.specs.Current.{claim}
use Rattle.cckd_layer.specs.Mounted.{LayerState}
use Rattle.cckd_layer.specs.Writes.{AgreesWith, AgreesAgainWith, IsSameFile, claimed_view, claim_of, entry_now}
use Rattle.cckd_layer.specs.Storing.{need_of, entry_of_stored, IsStoredOf, IsPutTo, IsClaimed, CanPlace}
use Rattle.cckd_layer.proofs.ReservedLemmas.{free_of, inside_of}
use Rattle.cckd_layer.proofs.StandLemmas.{stands_sits}

-- a null entry of a format of the device can be
null_fits : (l : Layout) (n t f : ℕ) → IsNullFormat l.geo f → entry_misfit l n t (null_entry f) ≡ None
null_fits l n t f known = cond-true (is_null_format l.geo f) None (Some (BadEntry t (null_entry f))) (lt-ltb f 2 known)

-- a place that is claimed at the front names a space, behind the header area and inside the pieces
pub record IsGood (s : LayerState) (pos n : ℕ) : Type 0 where
  pub place : IsPlace pos
  pub behind : area_of s.tables.layout.groups ≤ pos

pub claimed_good : (pos n : ℕ) (rest : List Extent) (s : LayerState) (w : World) → 0 < n → AgreesWith (claim pos n ∷ rest) s w → IsGood s pos n
claimed_good pos n rest s w some a =
    let v = claimed_view (claim pos n ∷ rest) s in
    let free = free_of v s.slot w pos n some (inl refl) a.stands (file_of w s.slot) (stands_sits v s.slot w a.stands).rests in
    let end = inside_of v s.slot w pos n some (inl refl) a.stands in
    let short = a.stands.now.spans.short in
    record {
      place = (λ zero. absurd (omega (arith, zero, free.area)), λ parent. absurd (omega (arith, parent, end, short)));
      behind = free.area;
    }

-- what was known before the bytes were put, of a layer of the same file with the same tables
pub record IsPut (null : NullBytes) (m u : LayerState) (t old len0 : ℕ) (track table : Option ℕ) (st : Stored) (value : List ℕ) (b d : Seen) : Type 0 where
  pub same : IsSameFile m u
  pub tables : u.tables ≡ m.tables
  pub low : t < track_count m.tables.layout.geo
  pub stored : IsStoredOf null m.tables.layout.geo t value st
  pub some : 0 < length value
  pub short : length value ≤ 65528
  pub given : is_some track ≡ is_some (need_of st)
  pub again : AgreesAgainWith (claim_of (need_of st) track ++ claim_of (Some 2048) table) null m u b d
  pub put : IsPutTo track value (file_of b.world m.slot) (file_of d.world m.slot)
  pub new : is_some table ≡ true → HasAlignedTable m.tables (t / 256) → ⊥
  pub points : old ≡ (entry_now m b t).pos
  pub length_is : IsStaged t m.tables.stages → len0 ≡ length (file_of b.world m.slot)

-- the length that is noted, once bytes were put
abbrev pub noted : ℕ → L2Entry → ℕ
noted len0 e = max len0 (min (e.pos + e.size) 4294967295)

-- facts of the layer before, for the layer after
module _ (null : NullBytes) (m u : LayerState) (t old len0 : ℕ) (track table : Option ℕ) (st : Stored) (value : List ℕ) (b d : Seen) (p : IsPut null m u t old len0 track table st value b d) where
  low_now : t < track_count u.tables.layout.geo
  low_now = subst (λ (l : Layout). t < track_count l.geo) (sym p.same.layout) p.low

  new_now : is_some table ≡ true → HasAlignedTable u.tables (t / 256) → ⊥
  new_now some = subst (λ (v : TableView). HasAlignedTable v (t / 256) → ⊥) (sym p.tables) (p.new some)

  points_now : old ≡ (entry_now u d t).pos
  points_now = p.points ∙ sym (ap (λ (e : L2Entry). e.pos) (p.again.entries t p.low))

  staged_then : IsStaged t u.tables.stages → len0 ≡ length (file_of b.world m.slot)
  staged_then st = p.length_is (subst (λ (v : TableView). IsStaged t v.stages) p.tables st)

-- so a null track can be staged
null_place : (null : NullBytes) (m u : LayerState) (t old len0 f : ℕ) (table : Option ℕ) (value : List ℕ) (b d : Seen) → IsPut null m u t old len0 None table (stored.Null f) value b d
    → CanPlace [] u t old table (null_entry f) (noted len0 (null_entry f)) d
null_place null m u t old len0 f table value b d p =
    let st = stored.Null f in
    let area = (stands_sits (claimed_view (claim_of (Some 2048) table) u) u.slot d.world p.again.agrees.stands).whole.image.area in
    record {
      agrees = p.again.agrees;
      takes = record { space = λ place. absurd (place.0 refl); nothing = λ none. refl };
      low = low_now null m u t old len0 None table st value b d p;
      fits = null_fits u.tables.layout (length (file_of d.world u.slot)) t f p.stored.0;
      snug = λ place. absurd (place.0 refl);
      new = new_now null m u t old len0 None table st value b d p;
      points = points_now null m u t old len0 None table st value b d p;
      length_is = λ st2.
          let was = staged_then null m u t old len0 None table st value b d p st2 in
          let slot = ap (λ (n : ℕ). length (file_of d.world n)) p.same.slot in
          let known : f < 2 = p.stored.0 in
          omega (arith, was, slot, p.put, known, area);
    }

-- and so can one whose bytes were put
bytes_place : (null : NullBytes) (m u : LayerState) (t old len0 len size pos : ℕ) (table : Option ℕ) (value : List ℕ) (b d : Seen) → IsPut null m u t old len0 (Some pos) table (stored.Bytes len size) value b d
    → CanPlace (claim pos size ∷ []) u t old table (record { pos = pos; len = len; size = size }) (noted len0 (record { pos = pos; len = len; size = size })) d
bytes_place null m u t old len0 len size pos table value b d p =
    let st = stored.Bytes len size in
    let a = p.again.agrees in
    let k = claimed_good pos size (claim_of (Some 2048) table) u d.world (omega (arith, p.stored.1, p.some)) a in
    let v = claimed_view (claim pos size ∷ claim_of (Some 2048) table) u in
    let end = inside_of v u.slot d.world pos size (omega (arith, p.stored.1, p.some)) (inl refl) a.stands in
    let short = a.stands.now.spans.short in
    let slot = ap (λ (n : ℕ). length (file_of d.world n)) p.same.slot in
    let within : pos + size ≤ length (file_of d.world u.slot) = omega (arith, slot, p.put.1, p.stored.1) in
    record {
      agrees = a;
      takes = record { space = λ place. refl; nothing = λ none. absurd (none k.place) };
      low = low_now null m u t old len0 (Some pos) table st value b d p;
      fits = stored_can_be u.tables.layout (length (file_of d.world u.slot)) t (record { pos = pos; len = len; size = size }) k.place (record {
        behind = k.behind;
        within = omega (arith, within, p.stored.0, p.stored.1);
        holds = omega (arith, p.stored.0, p.stored.1);
        some = omega (arith, p.stored.0, p.some);
        short = omega (arith, p.stored.0, p.short);
      });
      snug = λ place. within;
      new = new_now null m u t old len0 (Some pos) table st value b d p;
      points = points_now null m u t old len0 (Some pos) table st value b d p;
      length_is = λ st2.
          let was = staged_then null m u t old len0 (Some pos) table st value b d p st2 in
          omega (arith, was, slot, p.put.1, p.stored.1, end, short);
    }

-- what is stored of a track can be staged
pub can_place : (null : NullBytes) (m u : LayerState) (t old len0 : ℕ) (track table : Option ℕ) (st : Stored) (value : List ℕ) (b d : Seen) → IsPut null m u t old len0 track table st value b d
    → CanPlace (claim_of (need_of st) track) u t old table (entry_of_stored st track) (noted len0 (entry_of_stored st track)) d
can_place null m u t old len0 None table (stored.Null f) value b d p = null_place null m u t old len0 f table value b d p
can_place null m u t old len0 (Some pos) table (stored.Null f) value b d p = absurd (let no_place = p.given in cc)
can_place null m u t old len0 None table (stored.Bytes len size) value b d p = absurd (let no_place = p.given in cc)
can_place null m u t old len0 (Some pos) table (stored.Bytes len size) value b d p = bytes_place null m u t old len0 len size pos table value b d p

-- and its entry then gives the bytes
pub gives_stored : (null : NullBytes) (m u : LayerState) (t old len0 : ℕ) (track table : Option ℕ) (st : Stored) (value : List ℕ) (b d : Seen) → IsPut null m u t old len0 track table st value b d
    → bytes_by_entry null u.tables.layout (file_of d.world u.slot) t (entry_of_stored st track) ≡ Some value
gives_stored null m u t old len0 None table (stored.Null f) value b d p =
    ap (λ (l : Layout). Some (null l.geo t f)) p.same.layout ∙ sym (ap Some p.stored.1)
gives_stored null m u t old len0 (Some pos) table (stored.Null f) value b d p = absurd (let no_place = p.given in cc)
gives_stored null m u t old len0 None table (stored.Bytes len size) value b d p = absurd (let no_place = p.given in cc)
gives_stored null m u t old len0 (Some pos) table (stored.Bytes len size) value b d p =
    let e : L2Entry = record { pos = pos; len = len; size = size } in
    let k = claimed_good pos size (claim_of (Some 2048) table) u d.world (omega (arith, p.stored.1, p.some)) p.again.agrees in
    placed_bytes null u.tables.layout (file_of d.world u.slot) t e k.place
    ∙ (ap (λ (n : ℕ). Some (bytes_at (file_of d.world n) pos len)) p.same.slot
    ∙ (ap (λ (n : ℕ). Some (bytes_at (file_of d.world m.slot) pos n)) p.stored.0 ∙ ap Some p.put.0))

-- the place of the bytes is claimed, where there is one
pub claimed_first : (st : Stored) (track table : Option ℕ) (n : ℕ) → is_some track ≡ is_some (need_of st) → (IfSome (need_of st) (λ k. k ≡ n)) → IsClaimed track n (claim_of (need_of st) track ++ claim_of (Some 2048) table)
claimed_first st None table n given need = tt
claimed_first (stored.Null f) (Some pos) table n given need = absurd cc
claimed_first (stored.Bytes l z) (Some pos) table n given need = inl (ap (claim pos) need)

-- so many bytes want a place, where any do
pub need_is : (null : NullBytes) (m : LayerState) (t : ℕ) (value : List ℕ) (st : Stored) (n : ℕ) → length value ≡ n → IsStoredOf null m.tables.layout.geo t value st → IfSome (need_of st) (λ k. k ≡ aligned_up n)
need_is null m t value (stored.Null f) n long is = tt
need_is null m t value (stored.Bytes l z) n long is = is.1 ∙ ap aligned_up long
