-- A track that is built record by record: one record more, and the end mark.
use Rattle.std.proofs.Common.{◌≡◌, ℕ, ◌+◌, ◌^◌, ◌<◌, ◌≤◌, List, [], ◌∷◌, ◌++◌, length, take, drop, sym, ap, subst, ◌∙◌, arith, append_assoc, length-append, length-drop}
use Rattle.std.specs.List.{flat_map, AllByRecursion}
use Rattle.std.proofs.lemmas.List.{append-nil, length-take, take-append-drop}
use Rattle.cckd_base.specs.declared.geometry.Geometry.{Geometry}
use Rattle.cckd_base.specs.declared.geometry.Addr.{Addr}
use Rattle.cckd_base.specs.Put.{IsPut}
use Rattle.cckd_base.specs.Track.{CountKeyData, spelling, end_mark, home_address, spelled_track, AreRecords, IsUserRecord}
use Rattle.cckd_base.proofs.PutLemmas.{rest_later, put_is}
use Rattle.cckd_track.specs.declared.building.Builder.{Builder}
use Rattle.cckd_track.specs.Builder.{open_track, Builds, IsBuilt}

-- a put leaves the buffer as long as it was
put_length : (at end : ℕ) (bytes old new : List ℕ) → IsPut at end bytes old new → end ≤ length old → length new ≡ length old
put_length at end bytes old new put fits =
    omega (
      arith,
      ap length (take-append-drop end new),
      length-append (take end new) (drop end new),
      ap length put.front,
      length-append (take at old) bytes,
      length-take at old,
      ap length put.rest,
      length-drop end old,
      put.ends,
    )

spelled_more : (records : List CountKeyData) (r : CountKeyData) → flat_map spelling (records ++ r ∷ []) ≡ flat_map spelling records ++ spelling r
spelled_more [] r = append-nil (spelling r)
spelled_more (x ∷ records) r =
    ap (λ (s : List ℕ). spelling x ++ s) (spelled_more records r) ∙ sym (append_assoc (spelling x) (flat_map spelling records) (spelling r))

open_more : (geo : Geometry) (t : ℕ) (records : List CountKeyData) (r : CountKeyData) → open_track geo t (records ++ r ∷ []) ≡ open_track geo t records ++ spelling r
open_more geo t records r =
    ap (λ (s : List ℕ). home_address geo t 0 ++ s) (spelled_more records r)
    ∙ sym (append_assoc (home_address geo t 0) (flat_map spelling records) (spelling r))

all_more : (rs : List CountKeyData) (r : CountKeyData) → AllByRecursion IsUserRecord rs → IsUserRecord r → AllByRecursion IsUserRecord (rs ++ r ∷ [])
all_more [] r all user = (user, tt)
all_more (x ∷ rs) r all user = (all.0, all_more rs r all.1 user)

records_more : (records : List CountKeyData) (r : CountKeyData) → AreRecords records → IsUserRecord r → AreRecords (records ++ r ∷ [])
records_more [] r are user = absurd are
records_more (zero ∷ rs) r are user = (are.0, all_more rs r are.1 user)

-- an end mark makes it a whole track
marked : (geo : Geometry) (t : ℕ) (records : List CountKeyData) → open_track geo t records ++ end_mark ≡ spelled_track geo t 0 records
unfolding spelled_track
marked geo t records = append_assoc (home_address geo t 0) (flat_map spelling records) end_mark

pub marked_length : (geo : Geometry) (t : ℕ) (records : List CountKeyData) → length (spelled_track geo t 0 records) ≡ length (open_track geo t records) + 8
marked_length geo t records = ap length (sym (marked geo t records)) ∙ length-append (open_track geo t records) end_mark

-- so long is it with a record more
pub more_length : (geo : Geometry) (t : ℕ) (records : List CountKeyData) (r : CountKeyData)
    → length (spelled_track geo t 0 (records ++ r ∷ [])) ≡ length (open_track geo t records) + 8 + length r.key + length r.body + 8
more_length geo t records r =
    omega (
      arith,
      marked_length geo t (records ++ r ∷ []),
      ap length (open_more geo t records r),
      length-append (open_track geo t records) (spelling r),
      length-append r.key r.body,
    )

-- a record more
pub builds_more : (geo : Geometry) (t : ℕ) (records : List CountKeyData) (before : List ℕ) (r : CountKeyData) (b c : Builder)
    → Builds geo t records before b → c.address ≡ b.address → c.max ≡ b.max → IsPut b.at c.at (spelling r) b.out.now c.out.now
    → IsUserRecord r → c.at + 8 ≤ b.max → Builds geo t (records ++ r ∷ []) before c
builds_more geo t records before r b c h address most put user room =
    let long = put_length b.at c.at (spelling r) b.out.now c.out.now put (omega (arith, room, h.within)) in
    record {
      here = address ∙ h.here;
      cylinder = subst (λ (a : Addr). a.cyl < 2 ^ 16) (sym address) h.cylinder;
      head = subst (λ (a : Addr). a.head < 2 ^ 16) (sym address) h.head;
      most = most ∙ h.most;
      end = put.ends ∙ ap (λ (n : ℕ). n + length (spelling r)) h.end ∙ sym (length-append (open_track geo t records) (spelling r))
          ∙ ap length (sym (open_more geo t records r));
      front = put.front ∙ ap (λ (s : List ℕ). s ++ spelling r) h.front ∙ sym (open_more geo t records r);
      behind = put.rest ∙ rest_later b.at c.at before b.out.now (omega (arith, put.ends)) h.behind;
      in_order = records_more records r h.in_order user;
      room = omega (arith, room, most);
      short = omega (arith, most, h.short);
      within = omega (arith, most, long, h.within);
    }

-- the end mark
pub builds_whole : (geo : Geometry) (t : ℕ) (records : List CountKeyData) (before : List ℕ) (b : Builder) (end : ℕ) (out : List ℕ)
    → Builds geo t records before b → IsPut b.at end end_mark b.out.now out → IsBuilt geo t records before end out
builds_whole geo t records before b end out h put =
    let behind : drop end b.out.now ≡ drop end before = rest_later b.at end before b.out.now (omega (arith, put.ends)) h.behind in
    record {
      length_is = omega (arith, put.ends, h.end, marked_length geo t records);
      bytes = put_is b.at end end_mark b.out.now out put
          ∙ (λ i. (h.front i ++ end_mark) ++ behind i)
          ∙ ap (λ (s : List ℕ). s ++ drop end before) (marked geo t records);
      in_order = h.in_order;
      fits = omega (arith, put.ends, h.room, h.most);
    }
