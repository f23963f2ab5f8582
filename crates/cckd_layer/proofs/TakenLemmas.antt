-- Which places a write took, from what each step says.
use Rattle.std.proofs.Common.{◌≡◌, ◌<◌, ◌≤◌, ◌/◌, ℕ, [], true, false, Option, Some, None, IsSome, refl, ap, Result, Ok, Err, IfOk, sym, ◌∙◌, subst, inr}
use Rattle.cckd_shelf.specs.Seen.{Seen, Tells, Stays}
use Rattle.cckd_shelf.specs.World.{World}
use Rattle.cckd_base.specs.declared.layer_fault.LayerFault.{LayerFault}
use Rattle.cckd_base.specs.declared.entry.L2Entry.{L2Entry}
use Rattle.cckd_space.specs.Plan.{Plan, Becomes}
use Rattle.cckd_tables.specs.Staging.{IsStaged, entry_for}
use Rattle.cckd_tables.specs.Stages.{free_count, with_entry}
use Rattle.cckd_tables.specs.Tables.{TableView}
use Rattle.cckd_tables.specs.Looking.{with_stages, with_cached, word_of}
use Rattle.cckd_layer.specs.Acts.{left_at}
use Rattle.cckd_layer.specs.declared.claiming.Places.{Places}
use Rattle.cckd_layer.specs.declared.preparing.Room.{Room}
use Rattle.cckd_layer.specs.Held.{NullBytes}
use Rattle.cckd_layer.specs.Mounted.{LayerState, with_tables}
use Rattle.cckd_layer.specs.Writes.{Agrees, AgreesAgain, KeepsMap, IsSameFile, IsCommitted, IsSettled, FreesOld, with_plan}
use Rattle.cckd_layer.specs.Preparing.{FindsRoom}
use Rattle.cckd_layer.specs.Taken.{FindsPlaces, TakesPlaces, IsTaken, StagesPlaces, LeavesTable, staged_table}
use Rattle.cckd_layer.proofs.ThenLemmas.{maps_then}

-- the same of what is seen afterwards, where nothing was done
again_as : (null : NullBytes) (s at : LayerState) (old mid new : Seen) → new.world ≡ mid.world → AgreesAgain null s at old mid → AgreesAgain null s at old new
again_as null s at old mid new same k =
    subst (λ (w : World). AgreesAgain null s at old (record new { world = w })) (sym same) (record { agrees = k.agrees; entries = k.entries; same = k.same })

-- places that were found once all was hardened
pub takes_hardened : (null : NullBytes) (s m h n : LayerState) (a b d e : Seen) (t : ℕ) (need : Option ℕ) (r : Result Room LayerFault) → (Tells a → Tells b) → (Tells b → Tells d) → IsSameFile s m → KeepsMap null s m a b → KeepsMap null m h b d
    → IsSettled h → (Tells a → Agrees s a.world → FindsRoom s t need → 4 ≤ s.plan.spare → ⊥) → Stays d e → n ≡ with_plan h n.plan → (Tells d → Agrees h d.world → IfOk r (λ room. FindsPlaces h t need room.places n.plan))
    → Tells a → Agrees s a.world → IfOk r (λ room. TakesPlaces null s n t need room.places a e)
takes_hardened null s m h n a b d e t need (Ok room) first second same map again settled lacks stays rest finds told agrees =
    let both = maps_then [] [] [] null s m h a b d first same map again told agrees in
    let last = second (first told) in
    record {
      at = h;
      again = again_as null s h a d e (stays last) both;
      tried = inr (settled, λ enough room. lacks told agrees room enough);
      finds = finds last both.agrees;
      rest = rest;
    }
takes_hardened null s m h n a b d e t need (Err why) first second same map again settled lacks stays rest finds told agrees = tt

-- places that were found on a layer that was readied for them
pub taken_by : (null : NullBytes) (s m f h n : LayerState) (a d e : Seen) (t : ℕ) (need own : Option ℕ) (places : Places) → (2 ≤ free_count s.tables.stages → m ≡ s) → (free_count s.tables.stages < 2 → IsCommitted s m)
    → f ≡ with_tables m (with_cached m.tables f.tables.cached) → h ≡ f → AgreesAgain null s f a d → need ≡ own → (Agrees h d.world → TakesPlaces null h n t need places d e) → IsTaken null s n t own places a e
taken_by null s m f h n a d e t need own places free few looked same again is takes = record {
  ready = f;
  readied = record { first = m; free = free; few = few; looked = looked };
  moment = d;
  again = again;
  takes = subst (λ (o : Option ℕ). TakesPlaces null f n t o places d e) is
      (subst (λ (x : LayerState). TakesPlaces null x n t need places d e) same (takes (subst (λ (x : LayerState). Agrees x d.world) (sym same) again.agrees)));
}

-- the old space of a track goes, whatever length was noted where none of it was staged
frees_by : (o : Option L2Entry) (pos at len long : ℕ) (old new : Plan) → pos ≡ at → (IsSome o → len ≡ long) → FreesOld o pos len old new → FreesOld o at long old new
frees_by None pos at len long old new same is f = record {
  leaves = λ none. subst (λ (p : ℕ). Becomes old new (left_at p old.pieces) old.size) same (f.leaves none);
  given = λ some place. absurd (let no : false ≡ true = some in cc);
  kept = λ some away. absurd (let no : false ≡ true = some in cc);
}
frees_by (Some e) pos at len long old new same is f =
    subst (λ (p : ℕ). FreesOld (Some e) p long old new) same (subst (λ (k : ℕ). FreesOld (Some e) pos k old new) (is refl) f)

-- places that were held before the file was marked and the bytes put, and that were staged then
pub stages_by : (m u next : LayerState) (t pos at : ℕ) (table : Option ℕ) (e own : L2Entry) (len long : ℕ) → u.tables ≡ m.tables → u.plan ≡ m.plan → pos ≡ at → (IsStaged t u.tables.stages → len ≡ long) → e ≡ own
    → StagesPlaces u next t pos table e len → StagesPlaces m next t at table own long
stages_by m u next t pos at table e own len long tables plan same is entry k = record {
  between = k.between;
  leaves = leaves_by table k.leaves;
  frees = subst (λ (v : TableView). FreesOld (entry_for t v.stages.entries) at long k.between next.plan) tables (frees_by (entry_for t u.tables.stages.entries) pos at len long k.between next.plan same is k.frees);
  tables = k.tables
      ∙ (ap (λ (x : L2Entry). with_stages u.tables (with_entry (record { track = t; entry = x }) (staged_table (t / 256) table u.tables.stages))) entry
      ∙ ap (λ (v : TableView). with_stages v (with_entry (record { track = t; entry = own }) (staged_table (t / 256) table v.stages))) tables);
}
  where
    leaves_by : (o : Option ℕ) → LeavesTable (t / 256) o u k.between → LeavesTable (t / 256) o m k.between
    leaves_by (Some q) h = subst (λ (v : TableView). Becomes m.plan k.between (left_at (word_of v (t / 256)) m.plan.pieces) m.plan.size) tables
        (subst (λ (p : Plan). Becomes p k.between (left_at (word_of u.tables (t / 256)) p.pieces) p.size) plan h)
    leaves_by None h = h ∙ plan
