-- The slots before any is mounted: which are there, and the geometry of the base.
use Rattle.std.proofs.Common.{◌≡◌, ⊎_elim, ℕ, zero, suc, ◌≤◌, ◌==◌, nat_le, true, false, not, ◌&&◌, List, [], ◌∷◌, length, take, get_or, max, Some, None, refl, sym, ◌∙◌, ap, subst, arith}
use Rattle.std.specs.List.{list_all, list_any}
use Rattle.std.specs.Str.{bytes_eq}
use Rattle.std.proofs.lemmas.Slice.Eq.{bytes_eq-Decides}
use Rattle.std.proofs.Math.Bool.{and-false}
use Rattle.std.proofs.lemmas.Bool.{ne_eqb, false≢true, or_cases}
use Rattle.cckd_shelf.specs.Seen.{Seen, Tells, Stays}
use Rattle.cckd_shelf.specs.World.{World, IsSure, file_of}
use Rattle.cckd_base.specs.declared.geometry.Geometry.{Geometry}
use Rattle.cckd_base.specs.declared.open_fault.OpenFault.{OpenFault}
use Rattle.cckd_base.specs.declared.open_fault.OpenFault.TheVariants as open_fault
use Rattle.cckd_base.specs.Header.{base_identifier, identifier, headers_of, header_fault, is_present}
use Rattle.cckd_base.proofs.HeaderLemmas.{faultless}
use Rattle.cckd_image.specs.declared.roles.Roles.TheVariants.{Base}
use Rattle.cckd_layer.specs.Mounted.{IsLookCause, SaysGeometry}
use Rattle.cckd_stack.specs.Stacked.{OfFiles}
use Rattle.cckd_stack.specs.Mounting.{IsRow, HasRow, IsFirstCase, IsRefused, IsMountCause, IsLayersCause, shape_of}

-- ---- a file with the headers of an image is there

first_present : (wanted file : List ℕ) → get_or wanted 0 0 ≡ 67 → 1 ≤ length file → identifier (headers_of file) ≡ wanted → is_present file ≡ true
first_present wanted [] letter long named = absurd (omega (arith, long))
first_present wanted (b ∷ rest) letter long named =
    let first : b ≡ 67 = ap (λ (xs : List ℕ). get_or xs 0 0) named ∙ letter in
    let some : (length (67 ∷ rest) == 0) ≡ false = ne_eqb (length (67 ∷ rest)) 0 (λ p. absurd (omega (arith, p))) in
    let front : list_all (λ x. x == 0) (take 512 (67 ∷ rest)) ≡ false = refl in
    subst (λ (x : ℕ). is_present (x ∷ rest) ≡ true) (sym first)
    (ap (λ p. not p && not (nat_le 512 (length (67 ∷ rest)) && list_all (λ x. x == 0) (take 512 (67 ∷ rest)))) some
    ∙ ap (λ z. not (nat_le 512 (length (67 ∷ rest)) && z)) front
    ∙ ap not (and-false (nat_le 512 (length (67 ∷ rest)))))

only_named : (id wanted : List ℕ) → list_any (bytes_eq id) (wanted ∷ []) ≡ true → id ≡ wanted
only_named id wanted e =
    ⊎_elim (λ (same : bytes_eq id wanted ≡ true). (bytes_eq-Decides id wanted).0 same)
    (λ (none : false ≡ true). absurd (false≢true none))
    (or_cases (bytes_eq id wanted) false e)

pub headed_present : (wanted file : List ℕ) → get_or wanted 0 0 ≡ 67 → header_fault (wanted ∷ []) (headers_of file) (length file) ≡ None → is_present file ≡ true
headed_present wanted file letter e =
    let sound = faultless (wanted ∷ []) (headers_of file) (length file) e in
    first_present wanted file letter (omega (arith, sound.area)) (only_named (identifier (headers_of file)) wanted sound.named)

-- so the first slots are there
pub row_present : (files : ℕ → List ℕ) (count : ℕ) (geo : Geometry) → HasRow files count → SaysGeometry Base geo (files 0) → IsRow files (max count 1)
row_present files zero geo row says = absurd (false≢true (sym row ∙ headed_present base_identifier (files 0) refl says.sound))
row_present files (suc n) geo row says = let e : max (suc n) 1 ≡ suc n = omega arith in subst (IsRow files) (sym e) row

-- ---- refusals

-- the base's headers are refused, after it was looked at which slots are there
pub base_cause : (old mid : Seen) (count slot : ℕ) (why : OpenFault) → slot ≡ 0 → (Tells old → Tells mid) → Stays old mid → OfFiles (λ files. HasRow files count) old → IsLookCause Base slot mid why
    → IsMountCause old why
base_cause old mid count slot (open_fault.Header at fault) e tells kept row h = λ told sure. record {
  count = count;
  row = row told sure;
  first = record {
    slot = 0;
    low = omega arith;
    sound = λ k less. absurd (omega (arith, less));
    case = (
      h.0 ∙ e,
      subst (λ (w : World). header_fault (base_identifier ∷ []) (headers_of (file_of w 0)) (length (file_of w 0)) ≡ Some fault) (kept told)
          (subst (λ (k : ℕ). header_fault (base_identifier ∷ []) (headers_of (file_of mid.world k)) (length (file_of mid.world k)) ≡ Some fault) e
          (h.1 (tells told) (subst IsSure (sym (kept told)) sure))),
    );
  };
}
base_cause old mid count slot (open_fault.Gap at) e tells kept row h = absurd h
base_cause old mid count slot (open_fault.Mismatch at base found) e tells kept row h = absurd h
base_cause old mid count slot (open_fault.Scan at fault) e tells kept row h = absurd h
base_cause old mid count slot open_fault.ReadFault e tells kept row h = tt
base_cause old mid count slot open_fault.WriteFault e tells kept row h = absurd h
base_cause old mid count slot open_fault.SyncFault e tells kept row h = absurd h
base_cause old mid count slot open_fault.Memory e tells kept row h = absurd h

-- so are the files of slots that are there
refused_case : (old mid : Seen) (count : ℕ) (shape : Geometry) (why : OpenFault) → (Tells old → Tells mid) → Stays old mid → 1 ≤ count
    → OfFiles (λ files. IsRow files count) old → OfFiles (λ files. shape ≡ shape_of files) old → OfFiles (λ files. IsFirstCase shape files count why) mid → OfFiles (λ files. IsRefused files why) old
refused_case old mid zero shape why tells kept some row same h = absurd (omega (arith, some))
refused_case old mid (suc n) shape why tells kept some row same h = λ told sure.
    let e : suc n ≡ max 1 (suc n) = omega arith in
    let case : IsFirstCase shape (file_of mid.world) (suc n) why = h (tells told) (subst IsSure (sym (kept told)) sure) in
    record {
      count = suc n;
      row = row told sure;
      first = subst (λ (k : ℕ). IsFirstCase (shape_of (file_of old.world)) (file_of old.world) k why) e
          (subst (λ (g : Geometry). IsFirstCase g (file_of old.world) (suc n) why) (same told sure)
          (subst (λ (w : World). IsFirstCase shape (file_of w) (suc n) why) (kept told) case));
    }

pub layers_cause : (old mid : Seen) (count : ℕ) (shape : Geometry) (why : OpenFault) → (Tells old → Tells mid) → Stays old mid → 1 ≤ count
    → OfFiles (λ files. IsRow files count) old → OfFiles (λ files. shape ≡ shape_of files) old → IsLayersCause shape count mid why → IsMountCause old why
layers_cause old mid count shape (open_fault.Header at fault) tells kept some row same h = refused_case old mid count shape (open_fault.Header at fault) tells kept some row same h
layers_cause old mid count shape (open_fault.Gap at) tells kept some row same h = absurd h
layers_cause old mid count shape (open_fault.Mismatch at base found) tells kept some row same h = refused_case old mid count shape (open_fault.Mismatch at base found) tells kept some row same h
layers_cause old mid count shape (open_fault.Scan at fault) tells kept some row same h = refused_case old mid count shape (open_fault.Scan at fault) tells kept some row same h
layers_cause old mid count shape open_fault.ReadFault tells kept some row same h = tt
layers_cause old mid count shape open_fault.WriteFault tells kept some row same h = absurd h
layers_cause old mid count shape open_fault.SyncFault tells kept some row same h = tt
layers_cause old mid count shape open_fault.Memory tells kept some row same h = tt
