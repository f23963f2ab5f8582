-- Bytes put one behind another into a list of zeros.
use Rattle.std.proofs.Common.{◌≡◌, ℕ, ◌+◌, ◌-◌, ◌≤◌, List, [], ◌++◌, length, take, drop, replicate, refl, sym, ◌∙◌, ap, arith, append_assoc, length-append}
use Rattle.std.proofs.lemmas.List.{drop-drop, drop_at, drop-replicate, take-replicate, append-nil, length-replicate}
use Rattle.std.proofs.Math.Seq.{take-append-add}
use Rattle.cckd_base.specs.Put.{IsPut}
use Rattle.cckd_base.proofs.PutLemmas.{put_is}

-- the front of so many bytes and of the zeros behind them
front_of : (front : List ℕ) (n at : ℕ) → length front ≤ at → at ≤ length front + n → take at (front ++ replicate n 0) ≡ front ++ replicate (at - length front) 0
front_of front n at low high =
    let k = at - length front in
    ap (λ (m : ℕ). take m (front ++ replicate n 0)) (omega (arith, low)) ∙ take-append-add front (replicate n 0) k
    ∙ ap (λ (s : List ℕ). front ++ s) (take-replicate k n 0 (omega (arith, low, high)))

rest_of : (front : List ℕ) (n end : ℕ) → length front ≤ end → drop end (front ++ replicate n 0) ≡ replicate (length front + n - end) 0
rest_of front n end low =
    let k = end - length front in
    ap (λ (m : ℕ). drop m (front ++ replicate n 0)) (omega (arith, low)) ∙ sym (drop-drop k (length front) (front ++ replicate n 0))
    ∙ ap (drop k) (drop_at front (replicate n 0) (length front) refl) ∙ drop-replicate k n 0 ∙ ap (λ (m : ℕ). replicate m 0) (omega (arith, low))

-- bytes put into the zeros behind a front
pub put_on : (front : List ℕ) (n at end : ℕ) (bytes old new : List ℕ) → old ≡ front ++ replicate n 0 → length front ≤ at → IsPut at end bytes old new → end ≤ length front + n
    → new ≡ ((front ++ replicate (at - length front) 0) ++ bytes) ++ replicate (length front + n - end) 0
put_on front n at end bytes old new e low put fits =
    put_is at end bytes old new put
    ∙ (λ i. ((ap (take at) e ∙ front_of front n at low (omega (arith, put.ends, fits))) i ++ bytes) ++ (ap (drop end) e ∙ rest_of front n end (omega (arith, put.ends, low))) i)

put_next : (front : List ℕ) (n k m at end : ℕ) (bytes old new : List ℕ) → old ≡ front ++ replicate n 0 → at ≡ length front + k → n ≡ k + length bytes + m
    → IsPut at end bytes old new → new ≡ ((front ++ replicate k 0) ++ bytes) ++ replicate m 0
put_next front n k m at end bytes old new e a f put =
    put_on front n at end bytes old new e (omega (arith, a)) put (omega (arith, a, f, put.ends))
    ∙ (λ i. ((front ++ replicate (omega_k i) 0) ++ bytes) ++ replicate (omega_m i) 0)
  where
    omega_k : at - length front ≡ k
    omega_k = omega (arith, a)

    omega_m : length front + n - end ≡ m
    omega_m = omega (arith, a, f, put.ends)

in_order : (a b c d e f : List ℕ) → ((((a ++ b) ++ c) ++ d) ++ e) ++ f ≡ a ++ (b ++ (c ++ (d ++ (e ++ f))))
in_order a b c d e f =
    append_assoc (((a ++ b) ++ c) ++ d) e f ∙ append_assoc ((a ++ b) ++ c) d (e ++ f) ∙ append_assoc (a ++ b) c (d ++ (e ++ f)) ∙ append_assoc a b (c ++ (d ++ (e ++ f)))

-- headers, a word behind them, an entry at a table's place, and a track behind the table
pub filled : (table : ℕ) (headers word entry track old b c d new : List ℕ) (i j k n : ℕ) → old ≡ replicate (table + 2368) 0 → 1028 ≤ table
    → length headers ≡ 1024 → length word ≡ 4 → length entry ≡ 8 → length track ≡ 320
    → IsPut 0 i headers old b → IsPut i j word b c → IsPut table k entry c d → IsPut (table + 2048) n track d new
    → new ≡ headers ++ (word ++ (replicate (table - 1028) 0 ++ (entry ++ (replicate 2040 0 ++ track))))
filled table headers word entry track old b c d new i j k n zeros low p q r s one two three four =
    let z = replicate (table - 1028) 0 in
    let first = put_next [] (table + 2368) 0 (table + 1344) 0 i headers old b zeros refl (omega (arith, p)) one in
    let second = put_next headers (table + 1344) 0 (table + 1340) i j word b c first (omega (arith, one.ends, p)) (omega (arith, q)) two in
    let front = (headers ++ []) ++ word in
    let front_long : length front ≡ 1028 = omega (arith, length-append (headers ++ []) word, length-append headers [], p, q) in
    let third = put_next front (table + 1340) (table - 1028) 2360 table k entry c d second (omega (arith, front_long, low)) (omega (arith, r, low)) three in
    let behind = (front ++ z) ++ entry in
    let behind_long : length behind ≡ table + 8 = omega (arith, length-append (front ++ z) entry, length-append front z, length-replicate {A = ℕ} (table - 1028) 0, front_long, r, low) in
    let fourth = put_next behind 2360 2040 0 (table + 2048) n track d new third (omega (arith, behind_long)) (omega (arith, s)) four in
    fourth ∙ append-nil ((behind ++ replicate 2040 0) ++ track) ∙ in_order (headers ++ []) word z entry (replicate 2040 0) track
    ∙ ap (λ (h : List ℕ). h ++ (word ++ (z ++ (entry ++ (replicate 2040 0 ++ track))))) (append-nil headers)
