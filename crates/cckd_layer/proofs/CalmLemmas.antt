-- A file that stays as it is: where nothing is done, through a commit of nothing, and through a sync.
use Rattle.std.proofs.Common.{◌≡◌, ◌≤◌, ℕ, true, List, ◌∷◌, length, Result, Ok, Err, IfErr, refl, sym, ◌∙◌, ap, subst, inl, inr, arith}
use Rattle.std.proofs.lemmas.List.{ext_get_or}
use Rattle.cckd_shelf.specs.Events.{Event, Synced, file_now}
use Rattle.cckd_shelf.specs.World.{World, file_of, after_sync}
use Rattle.cckd_shelf.specs.Outcomes.{EachOutcome}
use Rattle.cckd_shelf.specs.Seen.{Seen, Tells, Stays, Makes}
use Rattle.cckd_shelf.specs.Stops.{StopsLeave}
use Rattle.cckd_shelf.proofs.MomentLemmas.{at_once, at_next, at_end, joins, weaker}
use Rattle.cckd_shelf.proofs.OutcomeLemmas.{sync_step}
use Rattle.cckd_base.specs.declared.geometry.Layout.{Layout}
use Rattle.cckd_base.specs.declared.layer_fault.LayerFault.{LayerFault}
use Rattle.cckd_base.specs.declared.layer_fault.LayerFault.TheVariants as fault
use Rattle.cckd_tables.specs.Staging.{Stages}
use Rattle.cckd_tables.specs.Stages.{free_count}
use Rattle.cckd_tables.specs.Looking.{IsTables}
use Rattle.cckd_tables.specs.Blend.{Near, Blend}
use Rattle.cckd_tables.specs.Commit.{MayLeave, IsCommittedFrom}
use Rattle.cckd_tables.specs.Making.{Commits}
use Rattle.cckd_layer.specs.Held.{NullBytes}
use Rattle.cckd_layer.specs.Stands.{nothing_staged}
use Rattle.cckd_layer.specs.Mounted.{LayerState}
use Rattle.cckd_layer.specs.Writes.{KeepsMap, IsSameFile, IsSameLayer, IsOutside}
use Rattle.cckd_layer.specs.Preparing.{IsDenial}
use Rattle.cckd_layer.specs.Calm.{StaysAs, LeavesFile, KeepsUnharmed}
use Rattle.cckd_layer.proofs.WritesLemmas.{commits_of}

-- ---- a file that stays

-- what is alone stays, while nothing happens
pub stays_once : (slot : ℕ) (es : List Event) → EachOutcome slot (λ file. file ≡ file_now es slot) es → StaysAs slot es es
stays_once slot es alone = record { each = at_once (EachOutcome slot (λ file. file ≡ file_now es slot)) es alone; now = refl }

pub stays_then : (slot : ℕ) (a b c : List Event) → StaysAs slot a b → StaysAs slot b c → StaysAs slot a c
stays_then slot a b c f g = record {
  each = joins (EachOutcome slot (λ file. file ≡ file_now a slot)) a b c f.each
      (weaker (EachOutcome slot (λ file. file ≡ file_now b slot)) (EachOutcome slot (λ file. file ≡ file_now a slot)) b c (λ es h file out. h file out ∙ f.now) g.each);
  now = g.now ∙ f.now;
}

-- and a sync leaves it
pub stays_synced : (slot s : ℕ) (a b : List Event) → StaysAs slot a b → StaysAs slot a (Synced s ∷ b)
stays_synced slot s a b f =
    let P : List ℕ → Type 0 = λ file. file ≡ file_now a slot in
    record { each = at_next (EachOutcome slot P) a b (Synced s) f.each (sync_step P slot s b (at_end (EachOutcome slot P) a b f.each)); now = f.now }

-- where what is seen stays
pub stays_still : (slot : ℕ) (a b : Seen) → Tells a → Stays a b → EachOutcome slot (λ file. file ≡ file_of a.world slot) a.world.events → StaysAs slot a.world.events b.world.events
stays_still slot a b told stays alone =
    subst (λ (w : World). StaysAs slot a.world.events w.events) (sym (stays told)) (stays_once slot a.world.events alone)

-- ---- a commit of nothing

nothing_near : (was file : List ℕ) → Near nothing_staged was file → file ≡ was
nothing_near was file near =
    let long = near.no_longer (length was) (omega arith) tt in
    let short = near.no_shorter in
    ext_get_or 0 file was (omega (arith, long, short)) (λ i low. near.outside i (omega (arith, low, long)) tt)

nothing_blended : (l : Layout) (was file : List ℕ) → Blend l was nothing_staged file → file ≡ was
nothing_blended l was file blend =
    ext_get_or 0 file was blend.size (λ i low. blend.still i (let e = blend.size in omega (arith, low, e)) (record {
      words = λ g below moved. absurd (let m = moved in cc);
      entries = λ t below staged still place. absurd (let m = staged in cc);
    }))

pub nothing_leaves : (l : Layout) (slot : ℕ) (es : List Event) (was file : List ℕ) → EachOutcome slot (λ f. f ≡ was) es → MayLeave l nothing_staged slot es was file → file ≡ was
nothing_leaves l slot es was file alone (inl near) = nothing_near near.0 file near.2 ∙ alone near.0 near.1
nothing_leaves l slot es was file alone (inr blended) = nothing_blended l blended.0 file blended.2 ∙ nothing_near was blended.0 blended.1.near

nothing_committed : (l : Layout) (was file : List ℕ) → IsCommittedFrom l nothing_staged was file → file ≡ was
nothing_committed l was file done = nothing_blended l done.0 file done.2.blend ∙ nothing_near was done.0 done.1.near

pub commit_leaves : (s : LayerState) (old new : Seen) → IsTables s.tables
    → (Commits s.tables.layout s.tables.stages s.slot old → StopsLeave s.slot (MayLeave s.tables.layout s.tables.stages s.slot old.world.events (file_of old.world s.slot)) old new)
    → (Commits s.tables.layout s.tables.stages s.slot old → IsCommittedFrom s.tables.layout s.tables.stages (file_of old.world s.slot) (file_of new.world s.slot))
    → LeavesFile s old new
commit_leaves s old new t stopped done told a hardened =
    let l = s.tables.layout in
    let was = file_of old.world s.slot in
    let empty = a.empty hardened in
    let can = commits_of s old t told a in
    let may = MayLeave l s.tables.stages s.slot old.world.events was in
    record {
      each = weaker (EachOutcome s.slot may) (EachOutcome s.slot (λ file. file ≡ was)) old.world.events new.world.events
          (λ es h file out. nothing_leaves l s.slot old.world.events was file (a.alone hardened)
          (subst (λ (st : Stages). MayLeave l st s.slot old.world.events was file) empty (h file out))) (stopped can told);
      now = nothing_committed l was (file_of new.world s.slot) (subst (λ (st : Stages). IsCommittedFrom l st was (file_of new.world s.slot)) empty (done can));
    }

-- and then a sync
pub synced_leaves : (s : LayerState) (slot : ℕ) (a b c : Seen) → (Tells a → Tells b) → LeavesFile s a b → Makes (after_sync slot) b c → LeavesFile s a c
synced_leaves s slot a b c tells first made told agrees hardened =
    subst (λ (w : World). StaysAs s.slot a.world.events w.events) (sym (made (tells told))) (stays_synced s.slot slot a.world.events b.world.events (first told agrees hardened))

-- ---- a layer that is unharmed

-- by what only looks
pub looked_unharmed : (s next : LayerState) (old new : Seen) → next.marked ≡ s.marked → next.hardened ≡ s.hardened → Stays old new → KeepsUnharmed s next old new
looked_unharmed s next old new marked hardened stays told a = record {
  marked = marked;
  hardened = λ h. hardened ∙ h;
  file = λ h. stays_still s.slot old new told stays (a.alone h);
}

-- by two in a row, of which the first keeps the map
pub unharmed_then : (null : NullBytes) (s m n : LayerState) (a b c : Seen) → (Tells a → Tells b) → IsSameFile s m → KeepsMap null s m a b → KeepsUnharmed s m a b → KeepsUnharmed m n b c → KeepsUnharmed s n a c
unharmed_then null s m n a b c tells same map f g told agrees =
    let one = f told agrees in
    let two = g (tells told) (map told agrees).agrees in
    record {
      marked = two.marked ∙ one.marked;
      hardened = λ h. two.hardened (one.hardened h);
      file = λ h. stays_then s.slot a.world.events b.world.events c.world.events (one.file h)
          (subst (λ (slot : ℕ). StaysAs slot b.world.events c.world.events) same.slot (two.file (one.hardened h)));
    }

-- by a hardening
pub hardened_unharmed : (s next : LayerState) (old new : Seen) → IsSameLayer s next → next.hardened ≡ true → LeavesFile s old new → KeepsUnharmed s next old new
hardened_unharmed s next old new same hardened leaves told a = record { marked = same.marked; hardened = λ h. hardened; file = λ h. leaves told a h }

-- by one that a call that reads has ended
pub unread_unharmed : (s next : LayerState) (old new : Seen) (why : LayerFault) → (why ≡ fault.ReadFault → (next ≡ s) × Stays old new) → IsOutside why → IsDenial why → KeepsUnharmed s next old new
unread_unharmed s next old new (fault.Full full) read outside denial = absurd outside
unread_unharmed s next old new (fault.Track found) read outside denial = absurd outside
unread_unharmed s next old new fault.ReadFault read outside denial =
    let r = read refl in
    looked_unharmed s next old new (ap (λ (x : LayerState). x.marked) r.0) (ap (λ (x : LayerState). x.hardened) r.0) r.1
unread_unharmed s next old new fault.WriteFault read outside denial = absurd denial
unread_unharmed s next old new fault.SyncFault read outside denial = absurd denial

-- where stages are made free: nothing is done where nothing is staged
pub freed_unharmed : (s next : LayerState) (old new : Seen) → next.marked ≡ s.marked → (2 ≤ free_count s.tables.stages → (next ≡ s) × (new ≡ old)) → KeepsUnharmed s next old new
freed_unharmed s next old new marked still told a = record {
  marked = marked;
  hardened = λ h. let r = still (enough h) in ap (λ (x : LayerState). x.hardened) r.0 ∙ h;
  file = λ h. let r = still (enough h) in stays_still s.slot old new told (λ t. ap (λ (x : Seen). x.world) r.1) (a.alone h);
}
  where
    enough : s.hardened ≡ true → 2 ≤ free_count s.tables.stages
    enough h = subst (λ (st : Stages). 2 ≤ free_count st) (sym (a.empty h)) (omega arith)

-- what holds at each fault holds at those of a kind
pub for_errors : {A : Type 0} (P : Type 0) (Q : LayerFault → Type 0) (r : Result A LayerFault) → P → IfErr r (λ why. Q why → P)
for_errors P Q (Ok x) h = tt
for_errors P Q (Err why) h = λ q. h
