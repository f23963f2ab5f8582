-- The faults of the headers by kind, over their fields.
use Rattle.std.specs.Prelude.{ℕ, List, Option}
use Rattle.cckd_base.specs.declared.fault.HeaderFault.{HeaderFault}
use Rattle.cckd_base.specs.Header.{Judged, other_file_cases, geometry_cases, count_cases, format_cases, header_cases, first_case}
use Rattle.cckd_image.specs.declared.header.ImageHeader.{ImageHeader}
use Rattle.cckd_image.specs.Image.{geometry}

-- the fields that are judged
abbrev pub judged : ImageHeader → Judged
judged h = record {
  id = h.dev.id;
  geometry = geometry h;
  sequence = h.dev.sequence;
  words = h.cckd.words;
  entries = h.cckd.entries;
  null_fmt = h.cckd.null_fmt;
}

-- the fault of a file that is another one
abbrev pub other_file_fault : ImageHeader → List (List ℕ) → ℕ → Option HeaderFault
other_file_fault h identifiers len = first_case (other_file_cases identifiers (judged h) len)

-- the first fault of the geometry
abbrev pub geometry_fault : ImageHeader → Option HeaderFault
geometry_fault h = first_case (geometry_cases (judged h))

-- the first fault of the counts and the length
abbrev pub count_fault : ImageHeader → ℕ → Option HeaderFault
count_fault h len = first_case (count_cases (judged h) len)

-- the fault of the format of null tracks
abbrev pub format_fault : ImageHeader → Option HeaderFault
format_fault h = first_case (format_cases (judged h))

-- the first fault of all
unfoldable pub fault_of : ImageHeader → List (List ℕ) → ℕ → Option HeaderFault
fault_of h identifiers len = first_case (header_cases identifiers (judged h) len)
