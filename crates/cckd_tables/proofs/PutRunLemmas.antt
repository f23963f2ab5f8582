-- The bytes of entries that are put one behind the other.
use Rattle.std.proofs.Common.{◌≡◌, ℕ, ◌+◌, ◌*◌, ◌<◌, List, [], ◌∷◌, ◌++◌, length, take, get_or, sym, ◌∙◌, ap, subst, arith}
use Rattle.std.specs.List.{AllByRecursion}
use Rattle.std.proofs.lemmas.List.{append_assoc, append-nil}
use Rattle.cckd_base.specs.declared.order.Order.{Order}
use Rattle.cckd_base.specs.declared.entry.L2Entry.{L2Entry}
use Rattle.cckd_base.specs.Entry.{entry_of, entry_bytes}
use Rattle.cckd_base.specs.Put.{IsPut}
use Rattle.cckd_tables.specs.declared.staged.StagedEntry.{StagedEntry}
use Rattle.cckd_tables.specs.Cells.{IsEncoded, run_bytes}
use Rattle.cckd_tables.proofs.WordLoopLemmas.{one_more}

run_push : (order : Order) (front : List StagedEntry) (s : StagedEntry) → run_bytes order (front ++ s ∷ []) ≡ run_bytes order front ++ entry_bytes order s.entry
run_push order [] s = append-nil (entry_bytes order s.entry)
run_push order (x ∷ front) s =
    ap (λ (bytes : List ℕ). entry_bytes order x.entry ++ bytes) (run_push order front s) ∙ sym (append_assoc (entry_bytes order x.entry) (run_bytes order front) (entry_bytes order s.entry))

all_push : {X : Type 0} (P : X → Type 0) (front : List X) (x : X) → AllByRecursion P front → P x → AllByRecursion P (front ++ x ∷ [])
all_push P [] x h p = (p, tt)
all_push P (y ∷ front) x h p = (h.0, all_push P front x h.1 p)

-- the first n entries are put
pub record IsRunPut (order : Order) (run : List StagedEntry) (n end : ℕ) (into : List ℕ) : Type 0 where
  pub ends : end ≡ 8 * n
  pub bytes : take end into ≡ run_bytes order (take n run)
  pub encoded : AllByRecursion (λ s. IsEncoded order s.entry) (take n run)

pub run_put_more : (order : Order) (run : List StagedEntry) (i : ℕ) (d : StagedEntry) (end next : ℕ) (old new : List ℕ) → i < length run → IsRunPut order run i end old
    → IsEncoded order (get_or run i d).entry → IsPut end next (entry_bytes order (get_or run i d).entry) old new → IsRunPut order run (i + 1) next new
run_put_more order run i d end next old new low h encoded put =
    let s = get_or run i d in
    let more = one_more run i d low in
    record {
      ends = omega (arith, put.ends, h.ends, encoded.size);
      bytes = put.front ∙ (ap (λ (bytes : List ℕ). bytes ++ entry_bytes order s.entry) h.bytes ∙ (sym (run_push order (take i run) s) ∙ sym (ap (run_bytes order) more)));
      encoded = subst (AllByRecursion (λ (x : StagedEntry). IsEncoded order x.entry)) (sym more) (all_push (λ (x : StagedEntry). IsEncoded order x.entry) (take i run) s h.encoded encoded);
    }

-- as `encode` says it
pub encoded_by : (order : Order) (e : L2Entry) (bytes : List ℕ) → bytes ≡ entry_bytes order e → entry_of order bytes ≡ e → length bytes ≡ 8 → IsEncoded order e
encoded_by order e bytes is back size = record { size = ap length (sym is) ∙ size; decoded = ap (entry_of order) (sym is) ∙ back }
