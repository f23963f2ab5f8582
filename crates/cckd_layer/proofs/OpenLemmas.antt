-- What the steps of a mounting say one after another: of the file, of the counts, and of why there is no layer.
use Rattle.std.proofs.Common.{◌≡◌, ℕ, List, length, Some, None, Result, Err, sym, ◌∙◌, ap, subst}
use Rattle.cckd_shelf.specs.declared.fault.Faults.{Faults}
use Rattle.cckd_shelf.specs.World.{World, IsSure, file_of, after_sync}
use Rattle.cckd_shelf.specs.Seen.{Seen, Tells, Stays, Makes}
use Rattle.cckd_base.specs.declared.geometry.Layout.{Layout}
use Rattle.cckd_base.specs.declared.open_fault.OpenFault.{OpenFault}
use Rattle.cckd_base.specs.declared.open_fault.OpenFault.TheVariants as open_fault
use Rattle.cckd_base.specs.Header.{headers_of, header_fault, layout_of}
use Rattle.cckd_base.specs.Survey.{misfits}
use Rattle.cckd_base.specs.Image.{IsHeaded}
use Rattle.cckd_image.specs.declared.roles.Roles.{Roles}
use Rattle.cckd_image.specs.Image.{identifiers_of}
use Rattle.cckd_tables.specs.Scan.{first_misfit}
use Rattle.cckd_layer.specs.Reads.{OfFile}
use Rattle.cckd_layer.specs.Mounted.{IsFileCause, IsSurveyCause, IsLoadCause, CountsOpen, OnlyLooks}

-- the slot has the same file in both
pub record SameFile (slot : ℕ) (a b : Seen) : Type 0 where
  pub tells : Tells a → Tells b
  pub sure : Tells a → IsSure a.world → IsSure b.world
  pub file : Tells a → file_of b.world slot ≡ file_of a.world slot

pub stays_same : (slot : ℕ) (a b : Seen) → (Tells a → Tells b) → Stays a b → SameFile slot a b
stays_same slot a b tells kept = record {
  tells = tells;
  sure = λ told sure. subst IsSure (sym (kept told)) sure;
  file = λ told. ap (λ (w : World). file_of w slot) (kept told);
}

pub synced_same : (slot : ℕ) (a b : Seen) → (Tells a → Tells b) → Makes (after_sync slot) a b → SameFile slot a b
synced_same slot a b tells made = record {
  tells = tells;
  sure = λ told sure. subst IsSure (sym (made told)) sure;
  file = λ told. ap (λ (w : World). file_of w slot) (made told);
}

-- a fact of the file is one of the file before
pub file_before : (slot : ℕ) (P : List ℕ → Type 0) (a b : Seen) → SameFile slot a b → OfFile slot P b → OfFile slot P a
file_before slot P a b same h = λ told sure. subst P (same.file told) (h (same.tells told) (same.sure told sure))

-- why the file is no layer's is said of the file before
pub cause_before : (roles : Roles) (slot : ℕ) (a b : Seen) (why : OpenFault) → SameFile slot a b → IsFileCause roles slot b why → IsFileCause roles slot a why
cause_before roles slot a b (open_fault.Header at fault) same h =
    (h.0, file_before slot (λ file. header_fault (identifiers_of roles) (headers_of file) (length file) ≡ Some fault) a b same h.1)
cause_before roles slot a b (open_fault.Scan at fault) same h =
    (h.0, file_before slot (λ file. (header_fault (identifiers_of roles) (headers_of file) (length file) ≡ None) × (first_misfit (misfits (layout_of (headers_of file)) file) ≡ Some fault)) a b same h.1)
cause_before roles slot a b (open_fault.Gap at) same h = absurd h
cause_before roles slot a b (open_fault.Mismatch at base other) same h = absurd h
cause_before roles slot a b open_fault.ReadFault same h = tt
cause_before roles slot a b open_fault.WriteFault same h = absurd h
cause_before roles slot a b open_fault.SyncFault same h = absurd h
cause_before roles slot a b open_fault.Memory same h = tt

-- a survey is of the layout that the headers said
pub survey_cause : (roles : Roles) (slot : ℕ) (l : Layout) (a : Seen) (why : OpenFault) → OfFile slot (IsHeaded (identifiers_of roles) l) a → IsSurveyCause slot l a why
    → IsFileCause roles slot a why
survey_cause roles slot l a (open_fault.Header at fault) headed h = absurd h
survey_cause roles slot l a (open_fault.Scan at fault) headed h = (
  h.0,
  λ told sure.
      let file = file_of a.world slot in
      let head : IsHeaded (identifiers_of roles) l file = headed told sure in
      (head.sound, subst (λ (x : Layout). first_misfit (misfits x file) ≡ Some fault) head.says (h.1 told sure)),
)
survey_cause roles slot l a (open_fault.Gap at) headed h = absurd h
survey_cause roles slot l a (open_fault.Mismatch at base other) headed h = absurd h
survey_cause roles slot l a open_fault.ReadFault headed h = tt
survey_cause roles slot l a open_fault.WriteFault headed h = absurd h
survey_cause roles slot l a open_fault.SyncFault headed h = absurd h
survey_cause roles slot l a open_fault.Memory headed h = tt

-- calls that only look, one after another
pub looks_behind : {A : Type 0} (r : Result A OpenFault) (a b c : Seen) → (Tells a → Tells b) → Stays a b → b.faults ≡ a.faults → OnlyLooks r b c → OnlyLooks r a c
looks_behind {A} r a b c tells kept counts then = record {
  kept = λ told. then.kept (tells told) ∙ kept told;
  counts = subst (λ (f : Faults). CountsOpen r f c.faults) counts then.counts;
}

same_counts : (A B : Type 0) (why : OpenFault) (old new : Faults) → CountsOpen {A = A} (Err why) old new → CountsOpen {A = B} (Err why) old new
same_counts A B (open_fault.Header at fault) old new h = h
same_counts A B (open_fault.Scan at fault) old new h = h
same_counts A B (open_fault.Gap at) old new h = h
same_counts A B (open_fault.Mismatch at base other) old new h = h
same_counts A B open_fault.ReadFault old new h = h
same_counts A B open_fault.WriteFault old new h = h
same_counts A B open_fault.SyncFault old new h = h
same_counts A B open_fault.Memory old new h = h

-- a refusal that is handed on
pub err_looks : (A B : Type 0) (why : OpenFault) (a b c : Seen) → (Tells a → Tells b) → Stays a b → b.faults ≡ a.faults → OnlyLooks {A = A} (Err why) b c → OnlyLooks {A = B} (Err why) a c
err_looks A B why a b c tells kept counts then = record {
  kept = λ told. then.kept (tells told) ∙ kept told;
  counts = same_counts A B why a.faults c.faults (subst (λ (f : Faults). CountsOpen {A = A} (Err why) f c.faults) counts then.counts);
}

-- want of memory, behind calls that looked
pub memory_looks : (B : Type 0) (why : OpenFault) (a b : Seen) → why ≡ open_fault.Memory → Stays a b → b.faults ≡ a.faults → OnlyLooks {A = B} (Err why) a b
memory_looks B why a b e kept counts = subst (λ (x : OpenFault). OnlyLooks {A = B} (Err x) a b) (sym e) (record { kept = kept; counts = counts })

-- loading the words of a file
pub load_cause : (roles : Roles) (slot : ℕ) (a : Seen) (why : OpenFault) → IsLoadCause why → IsFileCause roles slot a why
load_cause roles slot a (open_fault.Header at fault) h = absurd h
load_cause roles slot a (open_fault.Scan at fault) h = absurd h
load_cause roles slot a (open_fault.Gap at) h = absurd h
load_cause roles slot a (open_fault.Mismatch at base other) h = absurd h
load_cause roles slot a open_fault.ReadFault h = tt
load_cause roles slot a open_fault.WriteFault h = absurd h
load_cause roles slot a open_fault.SyncFault h = absurd h
load_cause roles slot a open_fault.Memory h = tt
