-- What a run prints beside the replies to its script.
use Rattle.std.specs.Prelude.{ℕ, List, [], ◌∷◌, ◌++◌, codes}
use Rattle.cckd_base.specs.declared.space.Extent.{Extent}
use Rattle.cckd_base.specs.declared.space.Owner.{Owner}
use Rattle.cckd_base.specs.declared.space.Owner.TheVariants.{Nobody, Header, Table, Track}
use Rattle.cckd_base.specs.declared.misfit.Misfit.{Misfit}
use Rattle.cckd_base.specs.declared.misfit.Misfit.TheVariants.{BadTable, BadEntry, Overlap, ParentInBase}
use Rattle.cckd_base.specs.declared.fault.GeoField.{GeoField}
use Rattle.cckd_base.specs.declared.fault.GeoField.TheVariants as geo
use Rattle.cckd_base.specs.declared.fault.CountField.{CountField}
use Rattle.cckd_base.specs.declared.fault.CountField.TheVariants as counted
use Rattle.cckd_base.specs.declared.fault.HeaderFault.{HeaderFault}
use Rattle.cckd_base.specs.declared.fault.HeaderFault.TheVariants.{NotCckd, BadGeometry, BadCounts, BadNullFormat}
use Rattle.cckd_base.specs.declared.open_fault.OpenFault.{OpenFault}
use Rattle.cckd_base.specs.declared.open_fault.OpenFault.TheVariants as open_fault
use Rattle.cckd_script.specs.Phrase.{words, number, phrase}
use Rattle.cckd_top.specs.declared.halt.Halt.{Halt}
use Rattle.cckd_top.specs.declared.halt.Halt.TheVariants as halt

-- the name of a field of the geometry
abbrev pub geometry_field : GeoField → List ℕ
geometry_field geo.Heads = codes "heads"
geometry_field geo.Cylinders = codes "cylinders"
geometry_field geo.Tracks = codes "tracks"
geometry_field geo.TrackSize = codes "track-size"
geometry_field geo.Sequence = codes "sequence"

-- the name of a count
abbrev pub count_field : CountField → List ℕ
count_field counted.LevelOne = codes "level-one"
count_field counted.LevelTwo = codes "level-two"
count_field counted.Length = codes "length"

-- what is wrong with the headers of a file, with a blank before it
abbrev pub header_fault_text : HeaderFault → List ℕ
header_fault_text (NotCckd id) = phrase (codes " not a CCKD image") []
header_fault_text (BadGeometry field value) = phrase (codes " bad geometry") (words (geometry_field field) ∷ number value ∷ [])
header_fault_text (BadCounts field value) = phrase (codes " bad count") (words (count_field field) ∷ number value ∷ [])
header_fault_text (BadNullFormat value) = phrase (codes " bad null format") (number value ∷ [])

-- whom a space belongs to, with a blank before it
abbrev pub owner_text : Owner → List ℕ
owner_text Nobody = phrase (codes " nobody") []
owner_text Header = phrase (codes " header") []
owner_text (Table group) = phrase (codes " table") (number group ∷ [])
owner_text (Track t) = phrase (codes " track") (number t ∷ [])

-- a space, with its length
abbrev pub space_text : Extent → List ℕ
space_text e = owner_text e.owner ++ phrase (codes " at") (number e.pos ∷ words (codes "for") ∷ number e.size ∷ [])

-- what is wrong with the tables of a file, with a blank before it
abbrev pub misfit_text : Misfit → List ℕ
misfit_text (BadTable group pos) = phrase (codes " bad table group") (number group ∷ words (codes "at") ∷ number pos ∷ [])
misfit_text (BadEntry t e) =
    phrase (codes " bad entry track")
    (number t ∷ words (codes "at") ∷ number e.pos ∷ words (codes "length") ∷ number e.len ∷ words (codes "size") ∷ number e.size ∷ [])
misfit_text (Overlap first second) = codes " overlap" ++ space_text first ++ codes " and" ++ space_text second
misfit_text (ParentInBase owner) = codes " parent in base" ++ owner_text owner

-- the slot of a file that is refused
abbrev pub refused_slot : ℕ → List ℕ
refused_slot slot = phrase (codes "refused: slot") (number slot ∷ [])

-- why the files don't open to a disk
abbrev pub open_fault_text : OpenFault → List ℕ
open_fault_text (open_fault.Header slot fault) = refused_slot slot ++ header_fault_text fault
open_fault_text (open_fault.Gap slot) = phrase (codes "refused: gap at slot") (number slot ∷ [])
open_fault_text (open_fault.Mismatch slot base found) = phrase (codes "refused: slot") (number slot ∷ words (codes "geometry differs") ∷ [])
open_fault_text (open_fault.Scan slot misfit) = refused_slot slot ++ misfit_text misfit
open_fault_text open_fault.ReadFault = phrase (codes "fault: read") []
open_fault_text open_fault.WriteFault = phrase (codes "fault: write") []
open_fault_text open_fault.SyncFault = phrase (codes "fault: sync") []
open_fault_text open_fault.Memory = phrase (codes "no memory") []

-- why a run ends before it looks at its script
abbrev pub halt_text : Halt → List ℕ
halt_text (halt.BadWords n) = phrase (codes "bad words at") (number n ∷ [])
halt_text (halt.Files why) = open_fault_text why

-- the status that goes with files that don't open
abbrev pub open_fault_status : OpenFault → ℕ
open_fault_status open_fault.ReadFault = 7
open_fault_status open_fault.WriteFault = 7
open_fault_status open_fault.SyncFault = 7
open_fault_status open_fault.Memory = 8
open_fault_status _ = 3

-- the status that goes with a halt
abbrev pub halt_status : Halt → ℕ
halt_status (halt.BadWords n) = 2
halt_status (halt.Files why) = open_fault_status why
