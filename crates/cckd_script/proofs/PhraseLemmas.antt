-- Texts of parts that are put one behind the other.
use Rattle.std.proofs.Common.{◌≡◌, ℕ, zero, suc, ◌+◌, ◌*◌, ◌^◌, ◌<◌, ◌≤◌, List, [], ◌∷◌, ◌++◌, length, take, map, get_or, refl, sym, ◌∙◌, ap, arith, append_assoc, append-nil}
use Rattle.std.specs.List.{AllByRecursion}
use Rattle.std.proofs.lemmas.List.{take_more, map-append, length-take-le}
use Rattle.std.proofs.lemmas.List.Concat.{flat_map-append}
use Rattle.hex.specs.Hex.{encode_lower}
use Rattle.cckd_base.specs.Put.{IsPut}
use Rattle.cckd_base.proofs.PutLemmas.{puts_join, put_as}
use Rattle.cckd_script.specs.declared.phrase.Part.{Part as Given}
use Rattle.cckd_script.specs.Phrase.{Part, number, hex_text, part_text, parts_text, phrase, part_of, parts_of, part_room, parts_room}

-- the text of some bytes
pub hex_some : (bytes : List ℕ) → 0 < length bytes → hex_text bytes ≡ encode_lower bytes
hex_some [] some = absurd (omega arith)
hex_some (b ∷ bytes) some = refl

-- words and parts were put from one place to another
pub record PutSoFar (at end : ℕ) (front : List ℕ) (parts : List Part) (old new : List ℕ) : Type 0 where
  pub put : IsPut at end (phrase front parts) old new
  pub short : end ≤ at + length front + parts_room parts

phrase_more : (front : List ℕ) (parts : List Part) (part : Part)
    → phrase front (parts ++ part ∷ []) ≡ phrase front parts ++ (32 ∷ part_text part)
phrase_more front parts part =
    ap (λ (s : List ℕ). front ++ s) (flat_map-append (λ (p : Part). 32 ∷ part_text p) parts (part ∷ []))
    ∙ sym (append_assoc front (parts_text parts) (32 ∷ part_text part ++ []))
    ∙ ap (λ (s : List ℕ). phrase front parts ++ s) (append-nil (32 ∷ part_text part))

room_more : (parts : List Part) (part : Part) → parts_room (parts ++ part ∷ []) ≡ parts_room parts + 1 + part_room part
room_more [] part = omega arith
room_more (p ∷ parts) part = omega (arith, room_more parts part)

room_of_front : (given : List Given) (i : ℕ) → parts_room (parts_of (take i given)) ≤ parts_room (parts_of given)
room_of_front given zero = omega arith
room_of_front [] (suc i) = omega arith
room_of_front (g ∷ given) (suc i) = omega (arith, room_of_front given i)

parts_more : (given : List Given) (i : ℕ) (d : Given) → i < length given
    → parts_of (take (i + 1) given) ≡ parts_of (take i given) ++ part_of (get_or given i d) ∷ []
parts_more given i d within =
    ap parts_of (take_more given i d within) ∙ map-append part_of (take i given) (get_or given i d ∷ [])

-- no part was put yet
pub none_so_far : (at end : ℕ) (front old new : List ℕ) → IsPut at end front old new → PutSoFar at end front [] old new
none_so_far at end front old new put = record {
  put = put_as at end front (phrase front []) old new (sym (append-nil front)) put;
  short = omega (arith, put.ends);
}

-- a blank and one more part
pub part_more : (at end next : ℕ) (front : List ℕ) (parts : List Part) (part : Part) (old before new : List ℕ)
    → PutSoFar at end front parts old before → IsPut end next (32 ∷ part_text part) before new
    → next ≤ end + 1 + part_room part → PutSoFar at next front (parts ++ part ∷ []) old new
part_more at end next front parts part old before new so_far put short =
    let all = puts_join at end next (phrase front parts) (32 ∷ part_text part) old before new so_far.put put in
    record {
      put = put_as at next _ _ old new (sym (phrase_more front parts part)) all;
      short = omega (arith, so_far.short, short, room_more parts part);
    }

-- the same, where the parts are those that a program gives
pub one_more : (at end from next : ℕ) (front : List ℕ) (given : List Given) (i : ℕ) (d : Given) (old before between new : List ℕ)
    → i < length given → PutSoFar at end front (parts_of (take i given)) old before
    → IsPut end from (32 ∷ []) before between → IsPut from next (part_text (part_of (get_or given i d))) between new
    → next ≤ from + part_room (part_of (get_or given i d))
    → PutSoFar at next front (parts_of (take (i + 1) given)) old new
one_more at end from next front given i d old before between new within so_far blank part short =
    let part_is = part_of (get_or given i d) in
    let both = puts_join end from next (32 ∷ []) (part_text part_is) before between new blank part in
    let more = part_more at end next front (parts_of (take i given)) part_is old before new so_far both (omega (arith, blank.ends, short)) in
    rw (parts_more given i d within) more

-- there is room for a blank and one more part
pub room_for_one : (at end room : ℕ) (front : List ℕ) (given : List Given) (i : ℕ) (d : Given) (old before : List ℕ)
    → i < length given → PutSoFar at end front (parts_of (take i given)) old before
    → at + length front + parts_room (parts_of given) ≤ room
    → end + 1 + part_room (part_of (get_or given i d)) ≤ room
room_for_one at end room front given i d old before within so_far enough =
    let parts = parts_more given i d within in
    let next = ap parts_room parts ∙ room_more (parts_of (take i given)) (part_of (get_or given i d)) in
    let some = room_of_front given (i + 1) in
    omega (arith, so_far.short, enough, next, some)

-- and for that part behind its blank
pub room_behind : (at end from room : ℕ) (front : List ℕ) (given : List Given) (i : ℕ) (d : Given) (old before between : List ℕ)
    → i < length given → PutSoFar at end front (parts_of (take i given)) old before
    → at + length front + parts_room (parts_of given) ≤ room → IsPut end from (32 ∷ []) before between
    → from + part_room (part_of (get_or given i d)) ≤ room
room_behind at end from room front given i d old before between within so_far enough blank =
    let one = room_for_one at end room front given i d old before within so_far enough in
    omega (arith, one, blank.ends)

-- the text of numbers behind a mark, one number more
pub counts_more : (end next : ℕ) (front : List ℕ) (first : Part) (counts : List ℕ) (i d : ℕ) (old before new : List ℕ)
    → i < length counts → PutSoFar 0 end front (first ∷ map number (take i counts)) old before
    → IsPut end next (phrase [] (number (get_or counts i d) ∷ [])) before new → next ≤ end + 21
    → PutSoFar 0 next front (first ∷ map number (take (i + 1) counts)) old new
counts_more end next front first counts i d old before new within so_far put short =
    let n = get_or counts i d in
    let text : phrase [] (number n ∷ []) ≡ 32 ∷ part_text (number n) = append-nil (32 ∷ part_text (number n)) in
    let more = part_more 0 end next front (first ∷ map number (take i counts)) (number n) old before new so_far (put_as end next _ _ before new text put) (omega arith) in
    let all : map number (take (i + 1) counts) ≡ map number (take i counts) ++ number n ∷ [] =
    ap (map number) (take_more counts i d within) ∙ map-append number (take i counts) (n ∷ []) in
    rw all more

room_of_counts : (counts : List ℕ) → parts_room (map number counts) ≡ 21 * length counts
room_of_counts [] = refl
room_of_counts (n ∷ counts) = omega (arith, room_of_counts counts)

-- so many numbers take so much room
pub counts_room : (first : Part) (counts : List ℕ) (i : ℕ) → i ≤ length counts
    → parts_room (first ∷ map number (take i counts)) ≡ 1 + part_room first + 21 * i
counts_room first counts i within = omega (arith, room_of_counts (take i counts), length-take-le i counts within)

-- what each place has below a limit, all have
pub all_by_places : (xs : List ℕ) → ((i : ℕ) → get_or xs i 0 < 2 ^ 32) → AllByRecursion (λ n. n < 2 ^ 32) xs
all_by_places [] below = tt
all_by_places (x ∷ xs) below = (below 0, all_by_places xs (λ i. below (suc i)))
