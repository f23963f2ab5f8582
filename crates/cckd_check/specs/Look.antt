-- What a look at an image answers, and what it does to the outside.
use Rattle.std.specs.Prelude.{ℕ, ◌≡◌, List, length, Some, Result, Ok, Err}
use Rattle.cckd_shelf.specs.declared.fault.Faults.{Faults}
use Rattle.cckd_shelf.specs.declared.fault.Kind.TheVariants.{Reads}
use Rattle.cckd_shelf.specs.Faults.{Raises}
use Rattle.cckd_shelf.specs.Seen.{Seen, Tells, Stays}
use Rattle.cckd_shelf.specs.World.{IsSure, file_of}
use Rattle.cckd_base.specs.declared.geometry.Layout.{Layout}
use Rattle.cckd_base.specs.Header.{headers_of, header_fault, header_options, layout_of}
use Rattle.cckd_base.specs.Survey.{misfits, used_spaces}
use Rattle.cckd_base.specs.Image.{IsHeaded}
use Rattle.cckd_image.specs.declared.roles.Roles.TheVariants.{Either}
use Rattle.cckd_image.specs.Image.{identifiers_of}
use Rattle.cckd_check.specs.declared.report.Report.{Report}
use Rattle.cckd_check.specs.declared.report.LookFault.{LookFault}
use Rattle.cckd_check.specs.declared.report.LookFault.TheVariants.{Header, ReadFault, Memory}
use Rattle.cckd_check.specs.declared.heading.Heading.{Heading}
use Rattle.cckd_check.specs.declared.examining.Examined.{Examined}
use Rattle.cckd_check.specs.Chain.{header_free}
use Rattle.cckd_check.specs.Damage.{damage, unread}

-- a fact of the file in a slot, as far as it is told what the file holds
abbrev pub OfFile : ℕ → (List ℕ → Type 0) → Seen → Type 0
OfFile slot P s = Tells s → IsSure s.world → P (file_of s.world slot)

-- the headers of a file have no fault as those of a base or a shadow, and say this layout
abbrev pub IsImageOf : Layout → List ℕ → Type 0
IsImageOf l file = IsHeaded (identifiers_of Either) l file

-- the report of a file at a level: its headers have no fault, and all that is amiss is named, in order
pub record IsReportOf (level : ℕ) (file : List ℕ) (r : Report) : Type 0 where
  pub headed : IsImageOf (layout_of (headers_of file)) file
  pub found : r.found ≡ damage (layout_of (headers_of file)) file level
  pub unread_is : r.unread ≡ unread (layout_of (headers_of file)) file level

-- why there is no report: the first fault of the headers, or a call that reads failed, or memory was wanted
abbrev pub IsLookCause : ℕ → Seen → LookFault → Type 0
IsLookCause slot old (Header why) =
    OfFile slot (λ file. header_fault (identifiers_of Either) (headers_of file) (length file) ≡ Some why) old
IsLookCause slot old ReadFault = Unit {0}
IsLookCause slot old Memory = Unit {0}

-- so it is for anything but the file's headers
abbrev pub IsOutside : LookFault → Type 0
IsOutside (Header why) = ⊥
IsOutside ReadFault = Unit {0}
IsOutside Memory = Unit {0}

-- a fault of reading raised its count and no other, and all else left the counts
abbrev pub CountsLook : {A : Type 0} → Result A LookFault → Faults → Faults → Type 0
CountsLook (Ok found) old new = new ≡ old
CountsLook (Err ReadFault) old new = Raises Reads old new
CountsLook (Err Memory) old new = new ≡ old
CountsLook (Err (Header why)) old new = new ≡ old

-- nothing was changed, and only a fault of reading was counted
pub record OnlyLooks {A : Type 0} (result : Result A LookFault) (old new : Seen) : Type 0 where
  pub kept : Stays old new
  pub counts : CountsLook result old.faults new.faults

-- headers that were refused have this first fault
abbrev pub IsHeaderFault : List ℕ → ℕ → LookFault → Type 0
IsHeaderFault headers len (Header why) = header_fault (identifiers_of Either) headers len ≡ Some why
IsHeaderFault headers len ReadFault = ⊥
IsHeaderFault headers len Memory = ⊥

-- what a file's headers say, and its length
pub record IsHeadingOf (file : List ℕ) (h : Heading) : Type 0 where
  pub headed : IsImageOf h.layout file
  pub long : h.len ≡ length file
  pub options : h.options ≡ header_options (headers_of file)
  pub free : h.free ≡ header_free (headers_of file)

-- and what its survey finds
pub record IsExaminedOf (file : List ℕ) (x : Examined) : Type 0 where
  pub heading : IsHeadingOf file x.heading
  pub kept : x.kept.items ≡ used_spaces x.heading.layout file
  pub misfits_are : x.misfits.items ≡ misfits x.heading.layout file
