-- What a file that was surveyed and found without a misfit has to do with the pieces that are made of it.
use Rattle.cckd_space.proofs.LaidLemmas.{up}
use Rattle.std.proofs.Common.{◌≡◌, ℕ, ◌<◌, ◌≤◌, Bool, false, List, [], length, Option, None, Some, unwrap_or, refl, sym, ◌∙◌, ap, subst, inl, inr, arith}
use Rattle.std.proofs.lemmas.Bool.{false≢true}
use Rattle.std.specs.Prelude.{Result, Ok, Err, IfOk}
use Rattle.cckd_shelf.specs.World.{World, IsSure, file_of, after_sync}
use Rattle.cckd_shelf.specs.Outcomes.{EachOutcome}
use Rattle.cckd_shelf.specs.Seen.{Seen, Tells, Makes}
use Rattle.cckd_shelf.proofs.OutcomeLemmas.{now_is_outcome, sync_leaves_now}
use Rattle.cckd_base.specs.declared.geometry.Layout.{Layout}
use Rattle.cckd_base.specs.declared.entry.L2Entry.{L2Entry}
use Rattle.cckd_base.specs.declared.space.Extent.{Extent}
use Rattle.cckd_base.specs.declared.space.Owner.TheVariants.{Track}
use Rattle.cckd_base.specs.Geometry.{track_count, area_of, format_limit, IsLayout}
use Rattle.cckd_base.specs.Entry.{word_at, entry_at}
use Rattle.cckd_base.specs.Misfit.{entry_misfit}
use Rattle.cckd_base.specs.Survey.{header_space, table_space, track_space, used_spaces, HasNoMisfit}
use Rattle.cckd_base.specs.Image.{IsPlace, IsHeaded, IsSnug, IsImage}
use Rattle.cckd_base.proofs.HeaderLemmas.{headed_layout, headed_area, headed_short}
use Rattle.cckd_base.proofs.ImageLemmas.{IsNamed, named_used, used_named, size_is, image_of_survey, word_fits, entry_fits}
use Rattle.cckd_space.specs.declared.piece.Piece.{Piece}
use Rattle.cckd_space.specs.Pieces.{Has, pieces_of, used_piece, IsLaid}
use Rattle.cckd_space.specs.Plan.{Plan}
use Rattle.cckd_tables.specs.Staging.{Stages, IsStaged, IsMoved, new_entry, entry_for}
use Rattle.cckd_tables.specs.Tables.{TableView, CachedTable, HasWords, HasTables, IsCachedOf, AreOf}
use Rattle.std.specs.List.{AllByRecursion}
use Rattle.cckd_image.specs.declared.header.ImageHeader.{ImageHeader}
use Rattle.cckd_image.specs.declared.roles.Roles.{Roles}
use Rattle.cckd_image.specs.Image.{identifiers_of}
use Rattle.cckd_base.proofs.PlaceLemmas.{table_inside}
use Rattle.cckd_layer.specs.Sits.{IsHeld, Sits, identifiers_for}
use Rattle.cckd_layer.specs.Current.{stored_space, IsInUse, IsReplaced, IsPlaced, Current}
use Rattle.cckd_layer.specs.Stands.{LayerView, Stands, nothing_staged}
use Rattle.cckd_layer.specs.Mounted.{LayerState, ReadsFrom, CanRead, IsFresh, kept_view, HasHeaders, HasSpaces, IsOf}
use Rattle.cckd_base.specs.declared.open_fault.OpenFault.{OpenFault}
use Rattle.cckd_layer.specs.Reads.{OfFile}
use Rattle.cckd_layer.proofs.RoleLemmas.{headed_for}
use Rattle.cckd_layer.proofs.PieceLemmas.{used_there, used_from, none_leaving, none_reserved, ends_within}

-- what was found of a file: its headers say the layout, its tables have no misfit, each of its spaces ends inside it, and its
-- pieces cover it
pub record IsFound (l : Layout) (file : List ℕ) : Type 0 where
  pub headed : IsHeaded (identifiers_for l) l file
  pub clean : HasNoMisfit l file
  pub snug : IsSnug l file
  pub laid : IsLaid 0 (pieces_of 0 (used_spaces l file) (length file)) (length file)

none_staged : (t : ℕ) → IsStaged t nothing_staged → ⊥
none_staged t h = false≢true h

none_moved : (g : ℕ) → IsMoved g nothing_staged → ⊥
none_moved g h = false≢true h

-- nothing is placed where nothing is staged or claimed
pub not_placed : (e : Extent) → IsPlaced nothing_staged [] e → ⊥
not_placed e (inl (inl g)) = absurd (let named = g.1.named in cc)
not_placed e (inl (inr t)) = absurd (let named = t.1.named in cc)
not_placed e (inr none) = none

module _ (l : Layout) (file : List ℕ) (found : IsFound l file) where
  layout : IsLayout l
  layout = headed_layout (identifiers_for l) l file found.headed

  -- of a space that ends inside the file nothing is cut short
  same_space : (t : ℕ) → t < track_count l.geo → IsPlace (entry_at l file t).pos → track_space (length file) t (entry_at l file t) ≡ stored_space t (entry_at l file t)
  same_space t low place =
      let e = entry_at l file t in
      let n : (track_space (length file) t e).size ≡ e.size = size_is l file t found.snug low place in
      ap (λ (s : ℕ). record { pos = e.pos; len = e.len; size = s; owner = Track t }) n

  use_named : (e : Extent) → IsInUse l nothing_staged file e → IsNamed l file e
  use_named e (inl header) = inl header
  use_named e (inr (inl g)) = let t = g.2 in inr (inl (g.0, t.low, t.place, t.is))
  use_named e (inr (inr t)) = let u = t.2 in inr (inr (t.0, u.low, u.place, u.is ∙ sym (same_space t.0 u.low u.place)))

  named_use : (e : Extent) → IsNamed l file e → IsInUse l nothing_staged file e
  named_use e (inl header) = inl header
  named_use e (inr (inl g)) = inr (inl (g.0, none_moved g.0, record { low = g.1; place = g.2; is = g.3 }))
  named_use e (inr (inr t)) = inr (inr (t.0, none_staged t.0, record { low = t.1; place = t.2; is = t.3 ∙ same_space t.0 t.1 t.2 }))

  in_use_there : (e : Extent) → IsInUse l nothing_staged file e → Has (used_piece e) (pieces_of 0 (used_spaces l file) (length file))
  in_use_there e u = used_there e 0 (used_spaces l file) (length file) (named_used l file e layout found.clean (use_named e u))

  pub mounted_image : IsImage l file
  mounted_image = image_of_survey l file layout (headed_area (identifiers_for l) l file found.headed) found.clean found.snug

  in_use_held : (e : Extent) → IsInUse l nothing_staged file e → IsHeld (pieces_of 0 (used_spaces l file) (length file)) e.pos e.size
  in_use_held e u = record { piece = used_piece e; there = in_use_there e u; kind = refl; low = omega arith; high = omega arith }

  -- it sits in its pieces
  pub mounted_sits : Sits l (pieces_of 0 (used_spaces l file) (length file)) file
  mounted_sits = record {
    whole = record { headed = found.headed; image = mounted_image };
    rests = record {
      area = in_use_held (header_space l.groups) (inl refl);
      tables = λ g low place. in_use_held (table_space g (word_at l file g)) (inr (inl (g, none_moved g, record { low = low; place = place; is = refl })));
      tracks = λ t low place. in_use_held (stored_space t (entry_at l file t)) (inr (inr (t, none_staged t, record { low = low; place = place; is = refl })));
    };
  }

  not_replaced : (e : Extent) → IsReplaced l nothing_staged file e → ⊥
  not_replaced e (inl g) = none_moved g.0 g.1
  not_replaced e (inr t) = none_staged t.0 t.1

  -- and it is the file of a layer that has nothing staged and these pieces
  pub mounted_current : (limit spare : ℕ) → limit ≤ format_limit
      → Current l nothing_staged [] (record { pieces = pieces_of 0 (used_spaces l file) (length file); size = length file; limit = limit; spare = spare }) file
  mounted_current limit spare short =
      let used = used_spaces l file in
      record {
        spans = record {
          laid = found.laid;
          covers = omega arith;
          ends = inl (omega arith);
          inside = λ p there kind. ends_within p 0 (pieces_of 0 used (length file)) (length file) found.laid there;
          tight = λ at past low. absurd (let k = up (length file) in omega (arith, k, past, low));
          short = headed_short (identifiers_for l) l file found.headed;
          limited = short;
        };
        accounts = record {
          used = record {
            there = in_use_there;
            named = λ p there kind.
                let from = used_from p 0 used (length file) there kind in
                (from.0, named_use from.0 (used_named l file found.clean from.0 from.1), from.2);
          };
          leaving = record {
            there = λ e r. absurd (not_replaced e r);
            named = λ p there kind. absurd (none_leaving p used (length file) there kind);
          };
          reserved = record {
            there = λ e r. absurd (not_placed e r);
            named = λ p there kind. absurd (none_reserved p used (length file) there kind);
          };
          differ = λ a b x y e. absurd (not_placed a x);
        };
        claims_are = tt;
        entries = λ t e named. absurd (cc named);
        words = λ g pos named. absurd (cc named);
        lacks = λ g moved. absurd (none_moved g moved);
      }

-- It stands, where whatever a stop leaves is the file now.
pub mounted_stands : (l : Layout) (file : List ℕ) (plan : Plan) (slot : ℕ) (w : World) → IsFound l file → IsSure w → file_of w slot ≡ file
    → plan.pieces ≡ pieces_of 0 (used_spaces l file) (length file) → plan.size ≡ length file → plan.limit ≤ format_limit
    → EachOutcome slot (λ left. left ≡ file) w.events
    → Stands (record { layout = l; stages = nothing_staged; claims = []; plan = plan; marked = false }) slot w
mounted_stands l file plan slot w found sure here pieces sized limited each =
    let ps = pieces_of 0 (used_spaces l file) (length file) in
    let made : Plan = record { pieces = ps; size = length file; limit = plan.limit; spare = plan.spare } in
    let same : plan ≡ made =
    ap (λ (x : List Piece). record { pieces = x; size = plan.size; limit = plan.limit; spare = plan.spare }) pieces
    ∙ ap (λ (n : ℕ). record { pieces = ps; size = n; limit = plan.limit; spare = plan.spare }) sized in
    record {
      sure = sure;
      now = subst (Current l nothing_staged [] plan) (sym here) (subst (λ (p : Plan). Current l nothing_staged [] p file) (sym same) (mounted_current l file found plan.limit plan.spare limited));
      each = λ left outcome. subst (Sits l plan.pieces) (sym (each left outcome)) (subst (λ (qs : List Piece). Sits l qs file) (sym pieces) (mounted_sits l file found));
      marked = λ m. absurd (false≢true m);
    }

-- a file that was found sound can be read, where nothing is staged
pub sound_reads : (tables : TableView) (file : List ℕ) → IsLayout tables.layout → HasNoMisfit tables.layout file → tables.stages ≡ nothing_staged → AreOf tables file → ReadsFrom tables file
sound_reads tables file layout clean none are = record {
  are = are;
  entries = λ t low. subst (λ (s : Stages). entry_misfit tables.layout (length file) t (new_entry tables.layout s file t) ≡ None) (sym none)
      (entry_fits tables.layout file layout clean t low);
}

entry_can : (l : Layout) (s : Stages) (file : List ℕ) (t : ℕ) (o : Option L2Entry) → entry_for t s.entries ≡ o
    → ((e : L2Entry) → entry_for t s.entries ≡ Some e → entry_misfit l (length file) t e ≡ None) → entry_misfit l (length file) t (entry_at l file t) ≡ None
    → entry_misfit l (length file) t (new_entry l s file t) ≡ None
entry_can l s file t None e staged old = subst (λ (o : Option L2Entry). entry_misfit l (length file) t (unwrap_or o (entry_at l file t)) ≡ None) (sym e) old
entry_can l s file t (Some entry) e staged old = subst (λ (o : Option L2Entry). entry_misfit l (length file) t (unwrap_or o (entry_at l file t)) ≡ None) (sym e) (staged entry e)

-- and so can the file of a layer that stands
pub stands_reads : (v : LayerView) (tables : TableView) (slot : ℕ) (w : World) → tables.layout ≡ v.layout → tables.stages ≡ v.stages → Stands v slot w
    → AreOf tables (file_of w slot) → ReadsFrom tables (file_of w slot)
stands_reads v tables slot w same stages stands are =
    let file = file_of w slot in
    let now : Sits v.layout v.plan.pieces file = stands.each file (now_is_outcome w.events slot) in
    let each : (t : ℕ) → t < track_count v.layout.geo → entry_misfit v.layout (length file) t (new_entry v.layout v.stages file t) ≡ None =
    λ t low. entry_can v.layout v.stages file t (entry_for t v.stages.entries) refl (λ e named. (stands.now.entries t e named).fits) (now.whole.image.entries t low) in
    record {
      are = are;
      entries = subst (λ (l : Layout). (t : ℕ) → t < track_count l.geo → entry_misfit l (length file) t (new_entry l tables.stages file t) ≡ None) (sym same)
          (subst (λ (s : Stages). (t : ℕ) → t < track_count v.layout.geo → entry_misfit v.layout (length file) t (new_entry v.layout s file t) ≡ None) (sym stages) each);
    }

tables_inside : (l : Layout) (file : List ℕ) → HasNoMisfit l file → HasTables l file
tables_inside l file clean g low place = (table_inside l (length file) g (word_at l file g) (word_fits l file clean g low) place).1

-- what was found of the file and made of it is the layer of that file
pub opened_is : (roles : Roles) (file : List ℕ) (s : LayerState) (header : ImageHeader) (l : Layout) (len : ℕ) (used : List Extent)
    → HasHeaders roles header l len file → HasSpaces l used file → s.header ≡ header → s.tables.layout ≡ l → s.tables.cached ≡ [] → HasWords l s.tables.words file
    → s.plan.pieces ≡ pieces_of 0 used len → s.plan.size ≡ len → IsOf roles file s
opened_is roles file s header l len used head spaces headers layout cached words pieces size =
    let same = sym layout in
    record {
      sound = record {
        headed = subst (λ (x : Layout). IsHeaded (identifiers_of roles) x file) same head.headed;
        clean = subst (λ (x : Layout). HasNoMisfit x file) same spaces.clean;
      };
      header = headers ∙ head.read;
      tables = record {
        area = subst (λ (x : Layout). area_of x.groups ≤ length file) same (headed_area (identifiers_of roles) l file head.headed);
        words = subst (λ (x : Layout). HasWords x s.tables.words file) same words;
        tables = subst (λ (x : Layout). HasTables x file) same (tables_inside l file spaces.clean);
        cached = subst (λ (cs : List CachedTable). AllByRecursion (IsCachedOf s.tables.layout file) cs) (sym cached) tt;
      };
      pieces = pieces ∙ ap (λ (es : List Extent). pieces_of 0 es len) spaces.used ∙ ap (pieces_of 0 (used_spaces l file)) head.long
          ∙ ap (λ (x : Layout). pieces_of 0 (used_spaces x file) (length file)) same;
      size = size ∙ head.long;
    }

-- A layer that was just mounted stands, where each space ends inside the file: a stop leaves the file as it is.
pub mount_stands : (roles : Roles) (slot limit : ℕ) (s : LayerState) (w new : World) → IsSure w → new ≡ after_sync slot w → limit ≤ format_limit
    → IsFresh slot limit s → IsOf roles (file_of w slot) s → IsSnug s.tables.layout (file_of w slot) → Stands (kept_view s) slot new
mount_stands roles slot limit s w new sure made short fresh of snug =
    let file = file_of w slot in
    let l = s.tables.layout in
    let used = used_spaces l file in
    let laid : IsLaid 0 (pieces_of 0 used (length file)) (length file) =
    subst (λ (ps : List Piece). IsLaid 0 ps (length file)) of.pieces (subst (IsLaid 0 s.plan.pieces) of.size fresh.sound.laid) in
    let found : IsFound l file = record { headed = headed_for roles l file of.sound.headed; clean = of.sound.clean; snug = snug; laid = laid } in
    let plain : Stands (record { layout = l; stages = nothing_staged; claims = []; plan = s.plan; marked = false }) slot new =
    mounted_stands l file s.plan slot new found (subst IsSure (sym made) sure) (ap (λ (x : World). file_of x slot) made) of.pieces of.size
    (subst (λ (n : ℕ). n ≤ format_limit) (sym fresh.limit_is) short)
    (subst (λ (x : World). EachOutcome slot (λ left. left ≡ file) x.events) (sym made) (sync_leaves_now slot w.events sure)) in
    subst (λ (stages : Stages). Stands (record { layout = l; stages = stages; claims = []; plan = s.plan; marked = s.marked }) slot new) (sym fresh.stages)
    (subst (λ (m : Bool). Stands (record { layout = l; stages = nothing_staged; claims = []; plan = s.plan; marked = m }) slot new) (sym fresh.marked) plain)

-- and its tracks can be read
pub mount_reads : (roles : Roles) (slot limit : ℕ) (s : LayerState) (file : List ℕ) → IsFresh slot limit s → IsOf roles file s → ReadsFrom s.tables file
mount_reads roles slot limit s file fresh of =
    sound_reads s.tables file (headed_layout (identifiers_of roles) s.tables.layout file of.sound.headed) of.sound.clean fresh.stages of.tables

-- the same of what a mounting answers
pub all_stand : (roles : Roles) (slot limit : ℕ) (r : Result LayerState OpenFault) (w new : World) → IsSure w → new ≡ after_sync slot w → limit ≤ format_limit
    → IfOk r (IsFresh slot limit) → IfOk r (IsOf roles (file_of w slot)) → IfOk r (λ s. IsSnug s.tables.layout (file_of w slot) → Stands (kept_view s) slot new)
all_stand roles slot limit (Err why) w new sure made short fresh of = tt
all_stand roles slot limit (Ok s) w new sure made short fresh of = λ snug. mount_stands roles slot limit s w new sure made short fresh of snug

pub all_read : (roles : Roles) (slot limit : ℕ) (r : Result LayerState OpenFault) (old new : Seen) → (Tells new → Tells old) → Makes (after_sync slot) old new
    → IfOk r (IsFresh slot limit) → OfFile slot (λ file. IfOk r (IsOf roles file)) old → IfOk r (λ s. CanRead s new)
all_read roles slot limit (Err why) old new tells made fresh of = tt
all_read roles slot limit (Ok s) old new tells made fresh of = λ told sure.
    let e = made (tells told) in
    subst (λ (n : ℕ). ReadsFrom s.tables (file_of new.world n)) (sym fresh.slot_is)
    (subst (λ (w : World). ReadsFrom s.tables (file_of w slot)) (sym e)
    (mount_reads roles slot limit s (file_of old.world slot) fresh (of (tells told) (subst IsSure e sure))))
