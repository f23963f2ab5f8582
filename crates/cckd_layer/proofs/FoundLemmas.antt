-- The headers of a file, as they are read to a buffer of zeros.
use Rattle.std.proofs.Common.{◌≡◌, ⊎_elim, ℕ, ◌-◌, ◌<◌, ◌≤◌, min, List, ◌++◌, length, take, drop, replicate, Option, Some, None, Result, Ok, Err, IfOk, OnOk, IfErr, refl, sym, ◌∙◌, ap, subst, arith, append-nil}
use Rattle.std.proofs.lemmas.Bool.{cases_lt}
use Rattle.std.proofs.lemmas.List.{take-append-le, take-replicate, drop-replicate, length-replicate}
use Rattle.std.proofs.Math.ListN.{drop_of_length-le}
use Rattle.std.proofs.Math.Seq.{take-append-add, take-length}
use Rattle.cckd_shelf.specs.declared.fault.Faults.{Faults}
use Rattle.cckd_shelf.specs.Seen.{Seen, Stays}
use Rattle.cckd_shelf.specs.World.{file_of}
use Rattle.cckd_base.specs.declared.fault.HeaderFault.{HeaderFault}
use Rattle.cckd_base.specs.declared.open_fault.OpenFault.{OpenFault}
use Rattle.cckd_base.specs.declared.open_fault.OpenFault.TheVariants as open_fault
use Rattle.cckd_base.specs.Header.{headers_of, header_fault, layout_of}
use Rattle.cckd_image.specs.declared.header.ImageHeader.{ImageHeader}
use Rattle.cckd_image.specs.declared.roles.Roles.{Roles}
use Rattle.cckd_image.specs.Image.{identifiers_of, header_of, decoded}
use Rattle.cckd_layer.specs.declared.mounting.Found.{Found}
use Rattle.cckd_layer.specs.Reads.{OfFile}
use Rattle.cckd_layer.specs.Mounted.{HasHeaders, IsHeaderRefusal, IsFileCause, CountsOpen, OnlyLooks}

both_parts : {a b c d : List ℕ} → a ≡ b → c ≡ d → a ++ c ≡ b ++ d
both_parts e f = cc

-- the front of a file, with zeros behind it where the file is short
pub filled_up : (n : ℕ) (file into : List ℕ) (front : ℕ) → front ≡ min (length file) n → into ≡ take front (drop 0 file)
    → into ++ drop front (replicate n 0) ≡ take n (file ++ replicate n 0)
filled_up n file into front f read = ⊎_elim
    (λ (less : length file < n).
    let short : front ≡ length file = omega (arith, f, less) in
    both_parts (read ∙ ap (λ (m : ℕ). take m file) short ∙ take-length file)
    (ap (λ (m : ℕ). drop m (replicate n 0)) short ∙ drop-replicate (length file) n 0 ∙ sym (take-replicate (n - length file) n 0 (omega arith)))
    ∙ sym (take-append-add file (replicate n 0) (n - length file))
    ∙ ap (λ (m : ℕ). take m (file ++ replicate n 0)) (omega (arith, less)))
    (λ (more : n ≤ length file).
    let long : front ≡ n = omega (arith, f, more) in
    both_parts (read ∙ ap (λ (m : ℕ). take m file) long)
    (ap (λ (m : ℕ). drop m (replicate n 0)) long ∙ drop_of_length-le (replicate n 0) (omega (arith, length-replicate {A = ℕ} n 0)))
    ∙ append-nil (take n file) ∙ sym (take-append-le n file (replicate n 0) more))
    (cases_lt (length file) n)

-- what was decoded is what the headers say, and they have no fault
pub accepted : (o : Option HeaderFault) (h x : ImageHeader) → decoded o h ≡ Ok x → (o ≡ None) × (x ≡ h)
accepted None h x e = (refl, let f : Ok h ≡ Ok x = e in cc)
accepted (Some fault) h x e = absurd (cc e)

-- what was refused has this fault
pub rejected : (o : Option HeaderFault) (h : ImageHeader) (fault : HeaderFault) → decoded o h ≡ Err fault → o ≡ Some fault
rejected None h fault e = absurd (cc e)
rejected (Some other) h fault e = cc e

-- headers that were read of a file, and what they say
pub found_headed : (roles : Roles) (headers file : List ℕ) (len : ℕ) (r : Result Found OpenFault) → headers ≡ headers_of file → len ≡ length file
    → OnOk r (header_fault (identifiers_of roles) headers len ≡ None)
    → IfOk r (λ found. found.header ≡ header_of headers) → IfOk r (λ found. found.layout ≡ layout_of headers) → IfOk r (λ found. found.len ≡ len)
    → IfOk r (λ found. HasHeaders roles found.header found.layout found.len file)
found_headed roles headers file len (Err why) read long sound header says cut = tt
found_headed roles headers file len (Ok found) read long sound header says cut = record {
  headed = record {
    sound = subst (λ (h : List ℕ). header_fault (identifiers_of roles) h (length file) ≡ None) read
        (subst (λ (n : ℕ). header_fault (identifiers_of roles) headers n ≡ None) long sound);
    says = says ∙ ap layout_of read;
  };
  read = header ∙ ap header_of read;
  long = cut ∙ long;
}

refused_by : (roles : Roles) (slot : ℕ) (old : Seen) (found : Option HeaderFault) (why : OpenFault)
    → OfFile slot (λ file. found ≡ header_fault (identifiers_of roles) (headers_of file) (length file)) old
    → IsHeaderRefusal slot found why → IsFileCause roles slot old why
refused_by roles slot old found (open_fault.Header at why) same h = (h.0, λ told sure. sym (same told sure) ∙ h.1)
refused_by roles slot old found (open_fault.Scan at why) same h = absurd h
refused_by roles slot old found (open_fault.Gap at) same h = absurd h
refused_by roles slot old found (open_fault.Mismatch at base other) same h = absurd h
refused_by roles slot old found open_fault.ReadFault same h = absurd h
refused_by roles slot old found open_fault.WriteFault same h = absurd h
refused_by roles slot old found open_fault.SyncFault same h = absurd h
refused_by roles slot old found open_fault.Memory same h = absurd h

-- and whose fault they have
pub found_refused : (roles : Roles) (slot : ℕ) (old : Seen) (headers : List ℕ) (len : ℕ) (r : Result Found OpenFault)
    → OfFile slot (λ file. headers ≡ headers_of file) old → OfFile slot (λ file. len ≡ length file) old
    → IfErr r (IsHeaderRefusal slot (header_fault (identifiers_of roles) headers len)) → IfErr r (IsFileCause roles slot old)
found_refused roles slot old headers len (Ok found) read long h = tt
found_refused roles slot old headers len (Err why) read long h =
    refused_by roles slot old (header_fault (identifiers_of roles) headers len) why
    (λ told sure.
    ap (λ (s : List ℕ). header_fault (identifiers_of roles) s len) (read told sure)
    ∙ ap (λ (n : ℕ). header_fault (identifiers_of roles) (headers_of (file_of old.world slot)) n) (long told sure))
    h

refusal_counts : (slot : ℕ) (found : Option HeaderFault) (why : OpenFault) (old new : Faults) → IsHeaderRefusal slot found why → new ≡ old
    → CountsOpen {A = Found} (Err why) old new
refusal_counts slot found (open_fault.Header at why) old new h e = e
refusal_counts slot found (open_fault.Scan at why) old new h e = absurd h
refusal_counts slot found (open_fault.Gap at) old new h e = absurd h
refusal_counts slot found (open_fault.Mismatch at base other) old new h e = absurd h
refusal_counts slot found open_fault.ReadFault old new h e = absurd h
refusal_counts slot found open_fault.WriteFault old new h e = absurd h
refusal_counts slot found open_fault.SyncFault old new h e = absurd h
refusal_counts slot found open_fault.Memory old new h e = absurd h

-- a refusal of what was read leaves the counts as the reads left them
pub found_looks : (slot : ℕ) (found : Option HeaderFault) (r : Result Found OpenFault) (old new : Seen) → Stays old new → new.faults ≡ old.faults
    → IfErr r (IsHeaderRefusal slot found) → OnlyLooks r old new
found_looks slot found (Ok x) old new kept e h = record { kept = kept; counts = e }
found_looks slot found (Err why) old new kept e h = record { kept = kept; counts = refusal_counts slot found why old.faults new.faults h e }
