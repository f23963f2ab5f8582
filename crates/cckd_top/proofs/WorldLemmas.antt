-- What is done before a script is served, and what is put, leave the files as they were, whatever a stop leaves.
use Rattle.cckd_console.proofs.JoinLemmas.{grows_twice}
use Rattle.cckd_engine.specs.Lines.{GrowsFrom}
use Rattle.std.proofs.Common.{◌≡◌, ℕ, zero, suc, Bool, true, false, cond, not, refl, sym, ◌∙◌, ap, subst, List, [], ◌∷◌, ◌++◌, Option, Some, None, unwrap_or}
use Rattle.std.specs.Prelude.{◌&&◌, ◌||◌, MatchBool, MatchOption}
use Rattle.std.specs.Str.{bytes_eq}
use Rattle.cckd_shelf.specs.Events.{Event, Synced, Bound, Named, is_about, is_sure, is_name, name_of, was_bound, output_of}
use Rattle.cckd_shelf.specs.World.{World, held_by, after_bind, after_sync}
use Rattle.cckd_shelf.specs.Outcomes.{Along, AtEach, MayHave, MayBeLeft}
use Rattle.cckd_shelf.proofs.MomentLemmas.{at_once, at_end, joins, next_at}
use Rattle.cckd_shelf.proofs.NameLemmas.{text_is}
use Rattle.cckd_shelf.proofs.OutcomeLemmas.{have_is_left}
use Rattle.cckd_shelf.proofs.WorldLemmas.{bind_keeps}
use Rattle.cckd_shelf.specs.Frame.{puts}
use Rattle.cckd_stack.specs.Mounting.{after_syncs}
use Rattle.cckd_top.specs.Names.{slot_name, after_binds}
use Rattle.cckd_top.specs.World.{AreIntact, StayIntact, after_mounting}

-- ---- files that stay intact

-- twice
pub intact_twice : (a b c : World) → b.files ≡ a.files → StayIntact a b → StayIntact b c → StayIntact a c
intact_twice a b c same f g = λ w here before.
    let first = f w here before in
    joins (AreIntact w) a.events b.events c.events first (g w (here ∙ sym same) (at_end (AreIntact w) a.events b.events first))

-- where nothing happened
pub intact_still : (a b : World) → b.events ≡ a.events → StayIntact a b
intact_still a b same = λ w here before.
    subst (λ (events : List Event). AtEach a.events events (AreIntact w)) (sym same) (at_once (AreIntact w) a.events before)

left_before_sync : (b : Bool) (P Q : Type 0) → (P → Q) → MatchBool b P Q → Q
left_before_sync true P Q f p = f p
left_before_sync false P Q f q = q

intact_at_sync : (w : World) (slot : ℕ) → StayIntact w (after_sync slot w)
intact_at_sync w slot = λ v here before.
    next_at (AreIntact v) w (after_sync slot w) (Synced slot) refl before
    (λ name bound file left. before name bound file (left_before_sync (is_about w.events slot (Named name)) (MayHave w.events (Named name) file)
    (MayBeLeft w.events (Named name) file) (have_is_left w.events (Named name) file) left))

-- a name that is bound for the first time has the bytes that come in, and any other is as it was
bound_intact : (here bound : Bool) (bytes file : List ℕ) (rest goal : Type 0) → (here || bound) ≡ true → (here ≡ true → file ≡ bytes → goal)
    → (bound ≡ true → rest → goal) → MatchOption (cond (here && not bound) (Some bytes) None) rest (λ (start : List ℕ). file ≡ start) → goal
bound_intact true true bytes file rest goal some first later left = later refl left
bound_intact true false bytes file rest goal some first later left = first refl left
bound_intact false true bytes file rest goal some first later left = later refl left
bound_intact false false bytes file rest goal some first later left = absurd (cc some)

intact_at_bind : (w : World) (slot : ℕ) (name : List ℕ) → StayIntact w (after_bind slot name w)
intact_at_bind w slot name =
    elim (is_name (name_of w.events slot) name) as (λ b. StayIntact w (cond b w (record w { events = Bound slot name (held_by w name) ∷ w.events }))) [
      | true ↦ intact_still w w refl
      | false ↦ λ v here before.
          next_at (AreIntact v) w (record w { events = Bound slot name (held_by w name) ∷ w.events }) (Bound slot name (held_by w name)) refl before
          (λ other bound file left.
          bound_intact (bytes_eq name other) (was_bound w.events other) (held_by w name) file (MayBeLeft w.events (Named other) file)
          (file ≡ held_by v other) bound
          (λ same is. is ∙ ap (λ (files : List ℕ → Option (List ℕ)). unwrap_or (files name) []) (sym here) ∙ ap (held_by v) (text_is name other same))
          (λ known left_open. before other known file left_open) left)
    ]

intact_at_puts : (v : World) (pieces : List (List ℕ)) (es : List Event) → AreIntact v es → AreIntact v (puts pieces ++ es)
intact_at_puts v [] es h = h
intact_at_puts v (piece ∷ earlier) es h = intact_at_puts v earlier es h

along_intact : (v : World) (pieces : List (List ℕ)) (es : List Event) → AreIntact v es → Along (AreIntact v) (puts pieces) es
along_intact v [] es h = h
along_intact v (piece ∷ earlier) es h = (along_intact v earlier es h, intact_at_puts v (piece ∷ earlier) es h)

-- where text was put
pub puts_intact : (pieces : List (List ℕ)) (old new : World) → new.events ≡ puts pieces ++ old.events → StayIntact old new
puts_intact pieces old new e = λ v here before. record { newer = puts pieces; grown = e; each = along_intact v pieces old.events before }

-- ---- what mounting leaves

-- the files, the script and the output are as they were, and no operation failed half way
pub record KeepsAll (w new : World) : Type 0 where
  pub files : new.files ≡ w.files
  pub script : new.script ≡ w.script
  pub sure : is_sure new.events ≡ is_sure w.events
  pub output : output_of new.events ≡ output_of w.events
  pub intact : StayIntact w new
  pub grows : GrowsFrom w.events new.events

keeps_still : (w : World) → KeepsAll w w
keeps_still w = record { files = refl; script = refl; sure = refl; output = refl; intact = intact_still w w refl; grows = record { newer = []; grown = refl } }

pub keeps_twice : (a b c : World) → KeepsAll a b → KeepsAll b c → KeepsAll a c
keeps_twice a b c f g = record {
  files = g.files ∙ f.files;
  script = g.script ∙ f.script;
  sure = g.sure ∙ f.sure;
  output = g.output ∙ f.output;
  intact = intact_twice a b c f.files f.intact g.intact;
  grows = grows_twice a.events b.events c.events f.grows g.grows;
}

bind_grows : (w : World) (slot : ℕ) (name : List ℕ) → GrowsFrom w.events (after_bind slot name w).events
bind_grows w slot name = by (is_name (name_of w.events slot) name)
  where
    by : (b : Bool) → GrowsFrom w.events (cond b w (record w { events = Bound slot name (held_by w name) ∷ w.events })).events
    by true = record { newer = []; grown = refl }
    by false = record { newer = Bound slot name (held_by w name) ∷ []; grown = refl }

bind_keeps_all : (w : World) (slot : ℕ) (name : List ℕ) → KeepsAll w (after_bind slot name w)
bind_keeps_all w slot name =
    let keeps = bind_keeps w slot name in
    record { files = keeps.files; script = keeps.script; sure = keeps.sure; output = keeps.output; intact = intact_at_bind w slot name; grows = bind_grows w slot name }

pub binds_keep : (file : List ℕ) (n : ℕ) (w : World) → KeepsAll w (after_binds file n w)
binds_keep file zero w = keeps_still w
binds_keep file (suc n) w =
    keeps_twice w (after_binds file n w) (after_binds file (suc n) w) (binds_keep file n w) (bind_keeps_all (after_binds file n w) n (slot_name file n))

sync_keeps_all : (w : World) (slot : ℕ) → KeepsAll w (after_sync slot w)
sync_keeps_all w slot = record { files = refl; script = refl; sure = refl; output = refl; intact = intact_at_sync w slot; grows = record { newer = Synced slot ∷ []; grown = refl } }

pub syncs_keep : (n : ℕ) (w : World) → KeepsAll w (after_syncs n w)
syncs_keep zero w = keeps_still w
syncs_keep (suc n) w = keeps_twice w (after_syncs n w) (after_syncs (suc n) w) (syncs_keep n w) (sync_keeps_all (after_syncs n w) n)

pub mounting_keeps : (file : List ℕ) (binds syncs : ℕ) (w : World) → KeepsAll w (after_mounting file binds syncs w)
mounting_keeps file binds syncs w =
    keeps_twice w (after_binds file binds w) (after_mounting file binds syncs w) (binds_keep file binds w) (syncs_keep syncs (after_binds file binds w))
