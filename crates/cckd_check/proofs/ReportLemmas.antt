-- What a look makes of what is known of a file.
use Rattle.std.proofs.Common.{◌≡◌, ℕ, ◌<◌, List, ◌++◌, map, length, min, take, drop, replicate, ◌-◌, ◌≤◌, Option, Some, None, Ok, Err, refl, sym, ◌∙◌, ap, arith, append_assoc, append-nil, ⊎_elim}
use Rattle.std.proofs.lemmas.Bool.{cases_lt}
use Rattle.std.proofs.lemmas.List.{take-append-le, take-replicate, drop-replicate, length-replicate}
use Rattle.std.proofs.Math.ListN.{drop_of_length-le}
use Rattle.std.proofs.Math.Seq.{take-append-add, take-length}
use Rattle.cckd_base.specs.declared.geometry.Layout.{Layout}
use Rattle.cckd_base.specs.declared.damage.Damage.{Damage}
use Rattle.cckd_base.specs.declared.damage.Damage.TheVariants as amiss
use Rattle.cckd_base.specs.declared.fault.HeaderFault.{HeaderFault}
use Rattle.cckd_base.specs.Geometry.{track_count}
use Rattle.cckd_base.specs.Survey.{misfits, used_spaces}
use Rattle.cckd_image.specs.declared.header.ImageHeader.{ImageHeader}
use Rattle.cckd_image.specs.Image.{decoded}
use Rattle.cckd_check.specs.declared.report.Report.{Report}
use Rattle.cckd_check.specs.declared.examining.Examined.{Examined}
use Rattle.cckd_check.specs.Damage.{chain_damage, damage, damage_below, unread}
use Rattle.cckd_check.specs.Inside.{AddsChain, AddsAllTracks, IsReportBy}
use Rattle.cckd_check.specs.Look.{IsExaminedOf}
use Rattle.cckd_check.proofs.FaultyLemmas.{none_damaged, none_unread}

-- ---- headers

both_parts : {a b c d : List ℕ} → a ≡ b → c ≡ d → a ++ c ≡ b ++ d
both_parts e f = cc

-- the front of a file, with zeros behind it where the file is short
pub filled_up : (n : ℕ) (file into : List ℕ) (front : ℕ) → front ≡ min (length file) n → into ≡ take front (drop 0 file)
    → into ++ drop front (replicate n 0) ≡ take n (file ++ replicate n 0)
filled_up n file into front f read = ⊎_elim
    (λ (less : length file < n).
    let short : front ≡ length file = omega (arith, f, less) in
    both_parts (read ∙ ap (λ (m : ℕ). take m file) short ∙ take-length file)
    (ap (λ (m : ℕ). drop m (replicate n 0)) short ∙ drop-replicate (length file) n 0 ∙ sym (take-replicate (n - length file) n 0 (omega arith)))
    ∙ sym (take-append-add file (replicate n 0) (n - length file))
    ∙ ap (λ (m : ℕ). take m (file ++ replicate n 0)) (omega (arith, less)))
    (λ (more : n ≤ length file).
    let long : front ≡ n = omega (arith, f, more) in
    both_parts (read ∙ ap (λ (m : ℕ). take m file) long)
    (ap (λ (m : ℕ). drop m (replicate n 0)) long ∙ drop_of_length-le (replicate n 0) (omega (arith, length-replicate {A = ℕ} n 0)))
    ∙ append-nil (take n file) ∙ sym (take-append-le n file (replicate n 0) more))
    (cases_lt (length file) n)

-- what was decoded is what the headers say, and they have no fault
pub accepted : (o : Option HeaderFault) (h x : ImageHeader) → decoded o h ≡ Ok x → (o ≡ None) × (x ≡ h)
accepted None h x e = (refl, let f : Ok h ≡ Ok x = e in cc)
accepted (Some fault) h x e = absurd (cc e)

-- what was refused has this fault
pub rejected : (o : Option HeaderFault) (h : ImageHeader) (fault : HeaderFault) → decoded o h ≡ Err fault → o ≡ Some fault
rejected None h fault e = absurd (cc e)
rejected (Some other) h fault e = cc e

-- ---- the tracks

pub tracks_passed : (level : ℕ) (l : Layout) (file : List ℕ) (r : Report) → level < 2 → AddsAllTracks level l file r r
tracks_passed level l file r low = record {
  found = sym (append-nil r.found) ∙ ap (λ (ds : List Damage). r.found ++ ds) (sym (none_damaged level l.geo (used_spaces l file) file (track_count l.geo) low));
  unread_is = let none = none_unread level l.geo (used_spaces l file) file (track_count l.geo) low in omega (arith, none);
}

-- ---- all of it

pub all_reported : (level : ℕ) (file : List ℕ) (x : Examined) (first mid last : Report) → IsExaminedOf file x → first.found ≡ map amiss.Misfit x.misfits.items
    → first.unread ≡ 0 → AddsChain level x.heading.layout file first mid → AddsAllTracks level x.heading.layout file mid last → IsReportBy x.heading.layout file level last
unfolding damage unread
all_reported level file x first mid last of misfits_are none chain tracks = record {
  found = tracks.found ∙ ap (λ (ds : List Damage). ds ++ below) (chain.found ∙ ap (λ (ds : List Damage). ds ++ links) (misfits_are ∙ ap (map amiss.Misfit) of.misfits_are))
      ∙ append_assoc (map amiss.Misfit (misfits l file)) links below;
  unread_is = let a = tracks.unread_is in let b = chain.unread_is in omega (arith, a, b, none);
}
  where
    l : Layout
    l = x.heading.layout

    links : List Damage
    links = chain_damage level l file

    below : List Damage
    below = damage_below level l.geo (used_spaces l file) file (track_count l.geo)
