-- What a write needs before it changes anything.
use Rattle.std.proofs.Common.{◌≡◌, ◌/◌, ◌<◌, ℕ, List, [], length, Option, Result, Ok, Err, IfErr, refl, sym, ap, subst, arith}
use Rattle.cckd_shelf.specs.World.{World, file_of}
use Rattle.cckd_shelf.specs.Seen.{Seen, Tells, Stays}
use Rattle.cckd_base.specs.declared.space.Extent.{Extent}
use Rattle.cckd_tables.specs.Tables.{TableView, CachedTable, AreOf}
use Rattle.cckd_tables.specs.Looking.{HasAlignedTable, with_cached}
use Rattle.cckd_layer.specs.Held.{NullBytes}
use Rattle.cckd_layer.specs.Mounted.{LayerState, with_tables}
use Rattle.cckd_base.specs.declared.space.Full.{Full}
use Rattle.cckd_base.specs.declared.layer_fault.LayerFault.{LayerFault}
use Rattle.cckd_base.specs.declared.layer_fault.LayerFault.TheVariants as fault
use Rattle.cckd_layer.specs.declared.preparing.Room.{Room}
use Rattle.cckd_layer.specs.Preparing.{HasNoneToFree, IsDenial, IsDeniedFor, IsNoRoomIn, FindsRoom}
use Rattle.cckd_layer.specs.Writes.{Agrees, KeepsMap, IsSameFile, IsOutside, with_plan, AgreesWith, AgreesAgainWith, KeepsMapWith}

-- the layer agrees with its file as before, whatever of its tables is cached
pub looked_agrees : (claims : List Extent) (null : NullBytes) (s : LayerState) (cached : List CachedTable) (old new : Seen) → new.world ≡ old.world → AreOf (with_cached s.tables cached) (file_of old.world s.slot)
    → AgreesWith claims s old.world → AgreesAgainWith claims null s (with_tables s (with_cached s.tables cached)) old new
looked_agrees claims null s cached old new same are a =
    let next = with_tables s (with_cached s.tables cached) in
    subst (λ (w : World). AgreesAgainWith claims null s next old (record new { world = w })) (sym same) (record {
      agrees = record { stands = a.stands; are = are; fits = a.fits; empty = a.empty; alone = a.alone };
      entries = λ t low. refl;
      same = record { each = λ t low. refl };
    })

-- how long a file may be of which a layer knows
pub file_short : (claims : List Extent) (s : LayerState) (w : World) → AgreesWith claims s w → length (file_of w s.slot) < 4294967296
file_short claims s w a = let k = a.stands.now.spans.covers in let n = a.stands.now.spans.short in omega (arith, k, n)

-- the same of what is seen afterwards, where nothing was done
pub seen_as : (before behind : List Extent) (null : NullBytes) (s next : LayerState) (old new : Seen) → Stays old new → KeepsMapWith before behind null s next old old → KeepsMapWith before behind null s next old new
seen_as before behind null s next old new stays map told a =
    let k = map told a in
    subst (λ (w : World). AgreesAgainWith behind null s next old (record new { world = w })) (sym (stays told)) (record { agrees = k.agrees; entries = k.entries; same = k.same })

-- a layer whose claims were given back is as it was, but for its pieces
plan_back : (s next : LayerState) (w new : World) → next ≡ with_plan s next.plan → new ≡ w → Agrees s w → Agrees (with_plan next s.plan) new
plan_back s next w new rest stays a =
    let same : with_plan next s.plan ≡ s = ap (λ (x : LayerState). with_plan x s.plan) rest in
    subst (λ (x : LayerState). Agrees x new) (sym same) (subst (λ (x : World). Agrees s x) (sym stays) a)

-- where nothing waits to be freed, a try that is denied tells that there is no room
pub denied_lacks : (s next : LayerState) (old new : Seen) (t : ℕ) (need : Option ℕ) (r : Result Room LayerFault) → next ≡ with_plan s next.plan → next.plan.limit ≡ s.plan.limit → Stays old new → HasNoneToFree s.plan
    → (Tells old → Agrees s old.world → IfErr r (IsDeniedFor s t need)) → IfErr r IsDenial → IfErr r (IsNoRoomIn s next old new t need)
denied_lacks s next old new t need (Ok room) rest limit stays none denied kind = tt
denied_lacks s next old new t need (Err (fault.Full full)) rest limit stays none denied kind = λ told a.
    let d = denied told a in
    let tables = ap (λ (x : LayerState). x.tables) rest in
    record {
      tried = s.plan;
      agrees = plan_back s next old.world new.world rest (stays told) a;
      limit = sym limit;
      none = none;
      wanted = d.0;
      wants = record {
        new = λ e has. d.1.new e (subst (λ (v : TableView). HasAlignedTable v (t / 256)) tables has);
        old = λ e. subst (λ (v : TableView). HasAlignedTable v (t / 256)) (sym tables) (d.1.old e);
      };
      lacks = d.2;
    }
denied_lacks s next old new t need (Err (fault.Track why)) rest limit stays none denied kind = absurd kind
denied_lacks s next old new t need (Err fault.ReadFault) rest limit stays none denied kind = λ told a. tt
denied_lacks s next old new t need (Err fault.WriteFault) rest limit stays none denied kind = absurd kind
denied_lacks s next old new t need (Err fault.SyncFault) rest limit stays none denied kind = absurd kind

-- where there is room, no try is denied
pub denied_finds : (s : LayerState) (t : ℕ) (need : Option ℕ) (full : Full) → FindsRoom s t need → IsDeniedFor s t need (fault.Full full) → ⊥
denied_finds s t need full finds d = finds d.0 full d.1 d.2

-- other pieces leave the file that the layer is of
pub plan_same : (s next : LayerState) → next ≡ with_plan s next.plan → next.plan.limit ≡ s.plan.limit → IsSameFile s next
plan_same s next rest limit = record { slot = ap (λ (x : LayerState). x.slot) rest; layout = ap (λ (x : LayerState). x.tables.layout) rest; limit = limit }

-- a hardening that a call that reads has ended keeps the map
pub kept_unread : (null : NullBytes) (s m h : LayerState) (a b d : Seen) (why : LayerFault) → (why ≡ fault.ReadFault → (h ≡ m) × Stays b d) → IsOutside why → (Tells a → Tells b) → KeepsMap null s m a b
    → IsDenial why → KeepsMap null s h a d
kept_unread null s m h a b d (fault.Full full) read outside tells map denial = absurd outside
kept_unread null s m h a b d (fault.Track found) read outside tells map denial = absurd outside
kept_unread null s m h a b d fault.ReadFault read outside tells map denial = λ told agrees.
    let k = map told agrees in
    let r = read refl in
    subst (λ (x : LayerState). AgreesAgainWith [] null s x a d) (sym r.0)
    (subst (λ (w : World). AgreesAgainWith [] null s m a (record d { world = w })) (sym (r.1 (tells told))) (record { agrees = k.agrees; entries = k.entries; same = k.same }))
kept_unread null s m h a b d fault.WriteFault read outside tells map denial = absurd denial
kept_unread null s m h a b d fault.SyncFault read outside tells map denial = absurd denial

-- what a try for places gave up for keeps the map, where nothing waits to be freed any more
pub hardened_full : (s m h n : LayerState) (a b d e : Seen) (t : ℕ) (need : Option ℕ) (r : Result Room LayerFault) (null : NullBytes) → (Tells a → Tells b) → (Tells b → Tells d) → KeepsMap null s m a b → KeepsMap null m h b d
    → IfErr r (IsNoRoomIn h n d e t need) → IfErr r (IsNoRoomIn s n a e t need)
hardened_full s m h n a b d e t need (Ok room) null first second map again full = tt
hardened_full s m h n a b d e t need (Err why) null first second map again full = λ told agrees.
    let k = map told agrees in
    let j = again (first told) k.agrees in
    full (second (first told)) j.agrees

-- a layer that nothing was done to has the map that it had
pub map_same : (null : NullBytes) (s : LayerState) (w : Seen) → KeepsMap null s s w w
map_same null s w told agrees = record { agrees = agrees; entries = λ t low. refl; same = record { each = λ t low. refl } }

-- a look-up leaves the file that a layer is of
pub looked_same : (s next : LayerState) (cached : List CachedTable) → next ≡ with_tables s (with_cached s.tables cached) → IsSameFile s next
looked_same s next cached rest = record { slot = ap (λ (x : LayerState). x.slot) rest; layout = ap (λ (x : LayerState). x.tables.layout) rest; limit = ap (λ (x : LayerState). x.plan.limit) rest }
