-- The null track of the track at an address.
use Rattle.std.proofs.Common.{◌≡◌, ◌↔◌, ℕ, List, ◌∷◌, ◌++◌, take, ap, sym, subst, ◌∙◌, IsTrue}
use Rattle.std.specs.List.{flat_map}
use Rattle.std.specs.Str.{bytes_eq}
use Rattle.std.proofs.lemmas.Slice.Eq.{bytes_eq-Decides}
use Rattle.cckd_base.specs.declared.geometry.Addr.{Addr}
use Rattle.cckd_base.specs.declared.geometry.Geometry.{Geometry}
use Rattle.cckd_base.specs.Geometry.{address_of}
use Rattle.cckd_base.specs.Put.{IsPut}
use Rattle.cckd_base.specs.Track.{address_bytes, end_mark, spelling, null_records, null_track, spelled_track}

-- the bytes of a null track by its address
abbrev pub null_at : Addr → ℕ → List ℕ
null_at a format = 0 ∷ address_bytes a.cyl a.head ++ flat_map spelling (null_records a format) ++ end_mark

pub null_is : (geo : Geometry) (t format : ℕ) (a : Addr) → a ≡ address_of geo t → null_at a format ≡ null_track geo t format
unfolding null_track spelled_track
null_is geo t format a here = ap (λ (x : Addr). null_at x format) here

pub null_put : (geo : Geometry) (t format end : ℕ) (a : Addr) (old new : List ℕ) → a ≡ address_of geo t
    → IsPut 0 end (null_at a format) old new → IsPut 0 end (null_track geo t format) old new
null_put geo t format end a old new here put = subst (λ (bytes : List ℕ). IsPut 0 end bytes old new) (null_is geo t format a here) put

-- the front of the buffer that it was put into is it
pub null_compared : (geo : Geometry) (t format end : ℕ) (a : Addr) (old new bytes : List ℕ) → a ≡ address_of geo t
    → IsPut 0 end (null_at a format) old new → IsTrue (bytes_eq bytes (take end new)) ↔ (bytes ≡ null_track geo t format)
null_compared geo t format end a old new bytes here put =
    let front = (null_put geo t format end a old new here put).front in
    let decides = bytes_eq-Decides bytes (take end new) in
    (λ same. decides.0 same ∙ front, λ same. decides.1 (same ∙ sym front))
