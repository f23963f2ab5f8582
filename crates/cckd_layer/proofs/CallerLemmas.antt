-- For callers: what makes a layer agree with its file, and what they make of what a stop leaves.
use Rattle.std.proofs.Common.{◌≡◌, ◌⊎◌, ℕ, List, ◌∷◌, length, Option, refl, sym, ◌∙◌, ap, subst, inl, inr}
use Rattle.cckd_shelf.specs.World.{World, IsSure, file_of, after_sync}
use Rattle.cckd_shelf.specs.Outcomes.{EachOutcome}
use Rattle.cckd_shelf.specs.Seen.{Seen}
use Rattle.cckd_shelf.proofs.OutcomeLemmas.{sync_leaves_now}
use Rattle.cckd_base.specs.declared.geometry.Layout.{Layout}
use Rattle.cckd_base.specs.Header.{headers_of, header_fault, header_cases, judged_in, level_one_count, level_two_count, header_geometry}
use Rattle.cckd_base.specs.Geometry.{group_count}
use Rattle.cckd_base.specs.Image.{IsHeaded}
use Rattle.cckd_base.proofs.HeaderLemmas.{none_stands}
use Rattle.cckd_image.specs.declared.header.ImageHeader.{ImageHeader}
use Rattle.cckd_image.specs.Image.{identifiers_of, header_of, order_by}
use Rattle.cckd_layer.specs.Marks.{FitsLayout}
use Rattle.cckd_image.specs.declared.roles.Roles.{Roles}
use Rattle.cckd_tables.specs.Tables.{AreOf}
use Rattle.cckd_layer.specs.Held.{NullBytes, Tracks, Later, IsLater, Keeps}
use Rattle.cckd_layer.specs.Stands.{Stands}
use Rattle.cckd_layer.specs.Mounted.{LayerState, kept_view, IsFresh, IsOf, CanRead}
use Rattle.cckd_layer.specs.Writes.{Agrees, AgreesIn}
use Rattle.std.proofs.lemmas.Bool.{eqb-true, not-false}
use Rattle.cckd_layer.proofs.MountLemmas.{stands_reads}

-- headers without a fault fit the layout that they say
pub fits_said : (identifiers : List (List ℕ)) (l : Layout) (file : List ℕ) (h : ImageHeader) → IsHeaded identifiers l file → h ≡ header_of (headers_of file) → FitsLayout l h.cckd
unfolding header_fault
fits_said identifiers l file h headed is =
    let headers = headers_of file in
    let n = none_stands (header_cases identifiers (judged_in headers) (length file)) headed.sound in
    let words : level_one_count headers ≡ group_count (header_geometry headers) = eqb-true (level_one_count headers) (group_count (header_geometry headers)) (not-false _ n.1.1.1.1.1.1.0) in
    let entries : level_two_count headers ≡ 256 = eqb-true (level_two_count headers) 256 (not-false _ n.1.1.1.1.1.1.1.0) in
    record {
      order = ap (λ (x : ImageHeader). order_by x.cckd.options) is ∙ sym (ap (λ (x : Layout). x.order) headed.says);
      words = ap (λ (x : ImageHeader). x.cckd.words) is ∙ (words ∙ sym (ap (λ (x : Layout). group_count x.geo) headed.says));
      entries = ap (λ (x : ImageHeader). x.cckd.entries) is ∙ entries;
      cylinders = ap (λ (x : ImageHeader). x.cckd.cyls) is ∙ sym (ap (λ (x : Layout). x.geo.cyls) headed.says);
      format = ap (λ (x : ImageHeader). x.cckd.null_fmt) is ∙ sym (ap (λ (x : Layout). x.null_fmt) headed.says);
    }

-- a layer that was mounted, and stands, agrees with its file
pub mounted_agrees : (roles : Roles) (slot limit : ℕ) (s : LayerState) (w new : World) → IsSure w → IsFresh slot limit s → IsOf roles (file_of w slot) s → new ≡ after_sync slot w
    → Stands (kept_view s) slot new → Agrees s new
mounted_agrees roles slot limit s w new sure fresh of made stands =
    let at = sym fresh.slot_is in
    let file : file_of new slot ≡ file_of w slot = ap (λ (x : World). file_of x slot) made in
    let alone : EachOutcome slot (λ f. f ≡ file_of new slot) new.events =
    subst (λ (x : World). EachOutcome slot (λ f. f ≡ file_of x slot) x.events) (sym made) (sync_leaves_now slot w.events sure) in
    record {
      stands = subst (λ (n : ℕ). Stands (kept_view s) n new) at stands;
      are = subst (λ (n : ℕ). AreOf s.tables (file_of new n)) at (subst (λ (f : List ℕ). AreOf s.tables f) (sym file) of.tables);
      fits = fits_said (identifiers_of roles) s.tables.layout (file_of w slot) s.header of.sound.headed of.header;
      empty = λ h. fresh.stages;
      alone = λ h. subst (λ (n : ℕ). EachOutcome n (λ f. f ≡ file_of new n) new.events) at alone;
    }

-- a layer that agrees with its file can be read
pub agrees_reads : (s : LayerState) (seen : Seen) → AgreesIn s seen → CanRead s seen
agrees_reads s seen agrees told sure =
    let a = agrees told sure in stands_reads (kept_view s) s.tables s.slot seen.world refl refl a.stands a.are

-- what keeps within what was written, keeps within more
pub keeps_more : (null : NullBytes) (l : Layout) (d : Tracks) (later : List Later) (more : Later) (file : List ℕ) → Keeps null l d later file → Keeps null l d (more ∷ later) file
keeps_more null l d later more file k = record {
  whole = k.whole;
  lies = record { each = λ t low. more_of t (k.lies.each t low) };
}
  where
    more_of : (t : ℕ) {o : Option (List ℕ)} → (o ≡ d t) ⊎ IsLater later t o → (o ≡ d t) ⊎ IsLater (more ∷ later) t o
    more_of t (inl h) = inl h
    more_of t (inr h) = inr (inr h)
