-- Entries that are put into a table.
use Rattle.std.proofs.Common.{◌≡◌, ◌≢◌, ℕ, ◌+◌, ◌*◌, ◌/◌, ◌%◌, ◌<◌, ◌≤◌, ◌==◌, List, [], ◌∷◌, ◌++◌, length, take, drop, get_or, Option, Some, None, unwrap_or, refl, sym, ◌∙◌, ap, subst, inl, inr, arith}
use Rattle.std.specs.List.Sorted.{IsStrictlyIncreasing}
use Rattle.std.proofs.lemmas.Bool.{cases_eq, cases_lt, cond-true, cond-false, eq-eqb, ne_eqb}
use Rattle.std.proofs.lemmas.List.{append_assoc, take_all}
use Rattle.cckd_shelf.specs.Files.{overlaid}
use Rattle.cckd_base.specs.declared.order.Order.{Order}
use Rattle.cckd_base.specs.declared.geometry.Layout.{Layout}
use Rattle.cckd_base.specs.declared.entry.L2Entry.{L2Entry}
use Rattle.cckd_base.specs.Numbers.{bytes_at}
use Rattle.cckd_base.specs.Put.{IsPut}
use Rattle.cckd_base.specs.Entry.{entry_of, entry_bytes, entry_in_table}
use Rattle.cckd_base.proofs.PutLemmas.{put_is}
use Rattle.cckd_tables.specs.declared.staged.StagedEntry.{StagedEntry}
use Rattle.cckd_tables.specs.Staging.{entry_for}
use Rattle.cckd_tables.specs.Blend.{with_put, put_over}
use Rattle.cckd_tables.specs.Commit.{staged_tracks}
use Rattle.cckd_tables.specs.Cells.{IsEncoded, entry_among, ArePutOver}
use Rattle.cckd_tables.proofs.FileLemmas.{part_of_part}
use Rattle.cckd_tables.proofs.StagedLemmas.{one_value, entry_own}
use Rattle.cckd_tables.proofs.WrittenLemmas.{part_stays, part_written}
use Rattle.cckd_tables.proofs.WordLoopLemmas.{one_more}
use Rattle.cckd_tables.proofs.EntryLoopLemmas.{entry_in_front, entry_before}
use Rattle.cckd_tables.proofs.PutOverLemmas.{with_put_own, with_put_other, put_over_next}
use Rattle.cckd_tables.proofs.EntryRunLemmas.{overlaid_inside}

-- bytes that were put are overlaid
pub put_overlaid : (at end : ℕ) (bytes old new : List ℕ) → at ≤ length old → IsPut at end bytes old new → new ≡ overlaid old at bytes
put_overlaid at end bytes old new within put =
    put_is at end bytes old new put
    ∙ (append_assoc (take at old) bytes (drop end old)
    ∙ (ap (λ (n : ℕ). take at old ++ (bytes ++ drop n old)) put.ends ∙ sym (overlaid_inside old at bytes within)))

-- an entry that was put at a place of a table, and those beside it
pub record IsEntryPut (order : Order) (c : ℕ) (e : L2Entry) (old new : List ℕ) : Type 0 where
  pub here : entry_of order (bytes_at new (8 * c) 8) ≡ e
  pub others : (b : ℕ) → b < 256 → b ≢ c → bytes_at new (8 * b) 8 ≡ bytes_at old (8 * b) 8

pub entry_put : (order : Order) (c end : ℕ) (e : L2Entry) (old new : List ℕ) → length old ≡ 2048 → c < 256 → IsEncoded order e → IsPut (8 * c) end (entry_bytes order e) old new → IsEntryPut order c e old new
entry_put order c end e old new size low encoded put =
    let is = put_overlaid (8 * c) end (entry_bytes order e) old new (omega (arith, low, size)) put in
    record {
      here = ap (λ (s : List ℕ). entry_of order (bytes_at s (8 * c) 8)) is
          ∙ (ap (entry_of order) (part_written old (entry_bytes order e) (8 * c) 8 encoded.size) ∙ encoded.decoded);
      others = λ b inside differ.
          ap (λ (s : List ℕ). bytes_at s (8 * b) 8) is
          ∙ part_stays old (entry_bytes order e) (8 * c) 8 (8 * b) 8 encoded.size (omega (arith, inside, size)) (elim (cases_lt b c) [
            | inl lt ↦ inl (omega (arith, lt))
            | inr ge ↦ inr (omega (arith, ge, differ))
          ]);
    }

-- a staged entry that is the last one of some, and of its track
entry_last : (front : List StagedEntry) (s : StagedEntry) → (e : L2Entry) × (entry_for s.track (front ++ s ∷ []) ≡ Some e)
entry_last [] s = (s.entry, cond-true (s.track == s.track) (Some s.entry) None (eq-eqb s.track s.track refl))
entry_last (x ∷ front) s = elim (cases_eq x.track s.track) [
  | inl same ↦ (x.entry, cond-true (x.track == s.track) (Some x.entry) (entry_for s.track (front ++ s ∷ [])) (eq-eqb x.track s.track same))
  | inr other ↦ let r = entry_last front s in
      (r.0, cond-false (x.track == s.track) (Some x.entry) (entry_for s.track (front ++ s ∷ [])) (ne_eqb x.track s.track other) ∙ r.1)
]

-- the first n entries are put over, those of the group
pub record ArePut (order : Order) (group : ℕ) (entries : List StagedEntry) (n : ℕ) (old new : List ℕ) : Type 0 where
  pub bytes : new ≡ put_over order group (take n entries) old
  pub entries_are : ArePutOver order group (take n entries) old new

pub put_first : (order : Order) (group : ℕ) (entries : List StagedEntry) (table : List ℕ) → ArePut order group entries 0 table table
put_first order group entries table = record { bytes = refl; entries_are = λ t mine. refl }

pub put_all : (order : Order) (group : ℕ) (entries : List StagedEntry) (n : ℕ) (old new : List ℕ) → length entries ≤ n → ArePut order group entries n old new
    → (new ≡ put_over order group entries old) × ArePutOver order group entries old new
put_all order group entries n old new end h =
    let all = take_all n entries end in (
      h.bytes ∙ ap (λ (ss : List StagedEntry). put_over order group ss old) all,
      subst (λ (ss : List StagedEntry). ArePutOver order group ss old new) all h.entries_are,
    )

module _ (order : Order) (group : ℕ) (entries : List StagedEntry) (i : ℕ) (d : StagedEntry) (old mid : List ℕ) (rising : IsStrictlyIncreasing (staged_tracks entries)) (low : i < length entries)
    (so : ArePut order group entries i old mid) where
  last_is : entry_for (get_or entries i d).track (take (i + 1) entries) ≡ Some (get_or entries i d).entry
  last_is =
      let s = get_or entries i d in
      let r = entry_last (take i entries) s in
      let found : entry_for s.track (take (i + 1) entries) ≡ Some r.0 = ap (entry_for s.track) (one_more entries i d low) ∙ r.1 in
      let same : r.0 ≡ s.entry = one_value (entry_for s.track entries) r.0 s.entry (entry_in_front entries (i + 1) s.track r.0 found) (entry_own entries i d rising low) in
      found ∙ ap (λ (e : L2Entry). Some e) same

  before_is : (t : ℕ) → (get_or entries i d).track ≢ t → entry_for t (take (i + 1) entries) ≡ entry_for t (take i entries)
  before_is t other = ap (entry_for t) (one_more entries i d low) ∙ entry_before (take i entries) (get_or entries i d) t other

  next_bytes : (new : List ℕ) → new ≡ with_put order group (get_or entries i d) mid → new ≡ put_over order group (take (i + 1) entries) old
  next_bytes new is = is ∙ (ap (with_put order group (get_or entries i d)) so.bytes ∙ sym (put_over_next order group entries i d old low))

  -- one of another group
  pub put_over_skip : (get_or entries i d).track / 256 ≢ group → ArePut order group entries (i + 1) old mid
  put_over_skip other = record {
    bytes = next_bytes mid (sym (with_put_other order group (get_or entries i d) mid other));
    entries_are = λ t mine.
        so.entries_are t mine ∙ ap (λ (o : Option L2Entry). unwrap_or o (entry_among order old t)) (sym (before_is t (λ same. other (ap (λ (n : ℕ). n / 256) same ∙ mine))));
  }

  -- and one of this group
  pub put_over_more : (end : ℕ) (new : List ℕ) → length mid ≡ 2048 → (get_or entries i d).track / 256 ≡ group → IsEncoded order (get_or entries i d).entry
      → IsPut (8 * ((get_or entries i d).track % 256)) end (entry_bytes order (get_or entries i d).entry) mid new → ArePut order group entries (i + 1) old new
  put_over_more end new size own encoded put =
      let s = get_or entries i d in
      let p = entry_put order (s.track % 256) end s.entry mid new size (omega arith) encoded put in
      record {
        bytes = next_bytes new (put_overlaid (8 * (s.track % 256)) end (entry_bytes order s.entry) mid new (omega (arith, size)) put ∙ sym (with_put_own order group s mid own));
        entries_are = λ t mine. elim (cases_eq s.track t) [
          | inl same ↦
              subst (λ (x : ℕ). entry_among order new x ≡ unwrap_or (entry_for x (take (i + 1) entries)) (entry_among order old x)) same
              (p.here ∙ ap (λ (o : Option L2Entry). unwrap_or o (entry_among order old s.track)) (sym last_is))
          | inr other ↦
              ap (entry_of order) (p.others (t % 256) (omega arith) (λ same. other (omega (arith, same, own, mine))))
              ∙ (so.entries_are t mine ∙ ap (λ (o : Option L2Entry). unwrap_or o (entry_among order old t)) (sym (before_is t other)))
        ];
      }

-- one place more is filled
pub fill_more : (order : Order) (e : L2Entry) (i end : ℕ) (old new : List ℕ) → length old ≡ 2048 → i < 256 → IsEncoded order e → IsPut (8 * i) end (entry_bytes order e) old new
    → ((c : ℕ) → c < i → entry_of order (bytes_at old (8 * c) 8) ≡ e) → (c : ℕ) → c < i + 1 → entry_of order (bytes_at new (8 * c) 8) ≡ e
fill_more order e i end old new size low encoded put so = λ c below.
    let p = entry_put order i end e old new size low encoded put in
    elim (cases_lt c i) [
      | inl lt ↦ ap (entry_of order) (p.others c (omega (arith, lt, low)) (λ same. omega (arith, lt, same))) ∙ so c lt
      | inr ge ↦ let same : i ≡ c = omega (arith, ge, below) in subst (λ (n : ℕ). entry_of order (bytes_at new (8 * n) 8) ≡ e) same p.here
    ]

-- ---- for callers

-- what a table that was read of a file has
pub entry_read : (l : Layout) (file table : List ℕ) (pos t : ℕ) → table ≡ bytes_at file pos 2048 → entry_among l.order table t ≡ entry_in_table l file pos t
entry_read l file table pos t is =
    ap (λ (bytes : List ℕ). entry_of l.order (bytes_at bytes (8 * (t % 256)) 8)) is ∙ ap (entry_of l.order) (part_of_part file pos 2048 (8 * (t % 256)) 8 (omega arith))
