-- The geometry that headers say, as they are read to a buffer.
use Rattle.std.proofs.Common.{◌≡◌, ℕ, List, length, Option, Result, Ok, Err, IfErr, sym, ◌∙◌, ap}
use Rattle.cckd_shelf.specs.Seen.{Seen}
use Rattle.cckd_shelf.specs.World.{file_of}
use Rattle.cckd_base.specs.declared.geometry.Geometry.{Geometry}
use Rattle.cckd_base.specs.declared.geometry.Layout.{Layout}
use Rattle.cckd_base.specs.declared.fault.HeaderFault.{HeaderFault}
use Rattle.cckd_base.specs.declared.open_fault.OpenFault.{OpenFault}
use Rattle.cckd_base.specs.declared.open_fault.OpenFault.TheVariants as open_fault
use Rattle.cckd_base.specs.Header.{headers_of, header_fault}
use Rattle.cckd_image.specs.declared.roles.Roles.{Roles}
use Rattle.cckd_image.specs.Image.{identifiers_of}
use Rattle.cckd_image.specs.declared.header.ImageHeader.{ImageHeader}
use Rattle.cckd_layer.specs.declared.mounting.Found.{Found}
use Rattle.cckd_layer.specs.Reads.{OfFile}
use Rattle.cckd_layer.specs.Mounted.{HasHeaders, IsHeaderRefusal, IsLookCause, SaysGeometry}

-- the first fault of headers that were read of a file
look_refused : (roles : Roles) (slot : ℕ) (old : Seen) (found : Option HeaderFault) (why : OpenFault)
    → OfFile slot (λ file. found ≡ header_fault (identifiers_of roles) (headers_of file) (length file)) old
    → IsHeaderRefusal slot found why → IsLookCause roles slot old why
look_refused roles slot old found (open_fault.Header at why) same h = (h.0, λ told sure. sym (same told sure) ∙ h.1)
look_refused roles slot old found (open_fault.Scan at why) same h = absurd h
look_refused roles slot old found (open_fault.Gap at) same h = absurd h
look_refused roles slot old found (open_fault.Mismatch at base other) same h = absurd h
look_refused roles slot old found open_fault.ReadFault same h = absurd h
look_refused roles slot old found open_fault.WriteFault same h = absurd h
look_refused roles slot old found open_fault.SyncFault same h = absurd h
look_refused roles slot old found open_fault.Memory same h = absurd h

pub look_cause : (roles : Roles) (slot : ℕ) (old : Seen) (headers : List ℕ) (len : ℕ) (r : Result Found OpenFault)
    → OfFile slot (λ file. headers ≡ headers_of file) old → OfFile slot (λ file. len ≡ length file) old
    → IfErr r (IsHeaderRefusal slot (header_fault (identifiers_of roles) headers len)) → IfErr r (IsLookCause roles slot old)
look_cause roles slot old headers len (Ok found) read long h = tt
look_cause roles slot old headers len (Err why) read long h =
    look_refused roles slot old (header_fault (identifiers_of roles) headers len) why
    (λ told sure.
    ap (λ (s : List ℕ). header_fault (identifiers_of roles) s len) (read told sure)
    ∙ ap (λ (n : ℕ). header_fault (identifiers_of roles) (headers_of (file_of old.world slot)) n) (long told sure))
    h

-- the geometry of a layout that they say
pub headers_geometry : (roles : Roles) (header : ImageHeader) (l : Layout) (geo : Geometry) (len : ℕ) (file : List ℕ) → HasHeaders roles header l len file → geo ≡ l.geo
    → SaysGeometry roles geo file
headers_geometry roles header l geo len file h e = record {
  sound = h.headed.sound;
  says = e ∙ ap (λ (x : Layout). x.geo) h.headed.says;
}
