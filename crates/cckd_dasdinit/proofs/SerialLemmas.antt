-- Characters of a serial, one after another.
use Rattle.std.proofs.Common.{◌≡◌, ℕ, zero, suc, ◌+◌, ◌<◌, ◌≤◌, ◌==◌, Bool, true, false, ◌&&◌, List, [], ◌∷◌, ◌++◌, length, take, map, get_or, replicate, refl, sym, ◌∙◌, ap, subst, arith}
use Rattle.std.proofs.lemmas.Bool.{false≢true, le-leb}
use Rattle.std.proofs.lemmas.List.{take_more, map-append, drop-replicate}
use Rattle.cckd_base.specs.Put.{IsPut}
use Rattle.cckd_base.proofs.PutLemmas.{none_put, puts_join, put_as, put_in_front}
use Rattle.cckd_tools.specs.Label.{blank}
use Rattle.std.specs.Prelude.{nat_le, if◌then◌else◌, Some, None}
use Rattle.cckd_dasdinit.specs.Serial.{is_serial_character, in_ebcdic, are_characters, is_serial, serial_bytes, serial_named}

-- some characters of a word may be those of a serial, and were put
pub record PutSoFar (word : List ℕ) (count end : ℕ) (old new : List ℕ) : Type 0 where
  pub good : are_characters (take count word) ≡ true
  pub put : IsPut 0 end (map in_ebcdic (take count word)) old new

and_of : (b c : Bool) → b ≡ true → c ≡ true → (b && c) ≡ true
and_of true c b_is c_is = c_is
and_of false c b_is c_is = b_is

and_first : (b c : Bool) → (b && c) ≡ true → b ≡ true
and_first true c both = refl
and_first false c both = both

and_second : (b c : Bool) → (b && c) ≡ true → c ≡ true
and_second true c both = both
and_second false c both = absurd (false≢true both)

characters_more : (cs : List ℕ) (c : ℕ) → are_characters cs ≡ true → is_serial_character c ≡ true → are_characters (cs ++ c ∷ []) ≡ true
characters_more [] c good one = and_of (is_serial_character c) true one refl
characters_more (d ∷ cs) c good one =
    and_of (is_serial_character d) (are_characters (cs ++ c ∷ [])) (and_first (is_serial_character d) (are_characters cs) good)
    (characters_more cs c (and_second (is_serial_character d) (are_characters cs) good) one)

pub none_so_far : (word room : List ℕ) → PutSoFar word 0 0 room room
none_so_far word room = record { good = refl; put = none_put 0 room }

pub one_more : (word : List ℕ) (count d byte end next : ℕ) (old before new : List ℕ) → count < length word → is_serial_character (get_or word count d) ≡ true
    → byte ≡ in_ebcdic (get_or word count d) → PutSoFar word count end old before → IsPut end next (byte ∷ []) before new → PutSoFar word (count + 1) next old new
one_more word count d byte end next old before new within good is so_far put_byte =
    let put = put_as end next _ _ before new (ap (λ (b : ℕ). b ∷ []) is) put_byte in
    let more : take (count + 1) word ≡ take count word ++ get_or word count d ∷ [] = take_more word count d within in
    record {
      good = subst (λ (cs : List ℕ). are_characters cs ≡ true) (sym more) (characters_more (take count word) (get_or word count d) so_far.good good);
      put = put_as 0 next _ _ old new (sym (ap (map in_ebcdic) more ∙ map-append in_ebcdic (take count word) (get_or word count d ∷ [])))
          (puts_join 0 end next (map in_ebcdic (take count word)) (in_ebcdic (get_or word count d) ∷ []) old before new so_far.put put);
    }

-- a word with another character is no serial
pub one_bad : (word : List ℕ) (count d : ℕ) → count < length word → is_serial_character (get_or word count d) ≡ false → are_characters word ≡ false
one_bad [] count d within bad = absurd (omega (arith, within))
one_bad (c ∷ word) zero d within bad = ap (λ (b : Bool). b && are_characters word) bad
one_bad (c ∷ word) (suc count) d within bad =
    ap (λ (b : Bool). is_serial_character c && b) (one_bad word count d (omega (arith, within)) bad) ∙ and_false (is_serial_character c)
  where
    and_false : (b : Bool) → (b && false) ≡ false
    and_false true = refl
    and_false false = refl

some_of : (word : List ℕ) → false ≡ (length word == 0) → 1 ≤ length word
some_of [] is = absurd (false≢true is)
some_of (c ∷ word) is = omega arith

-- a word of characters names the serial that they are put to, over blanks
pub serial_is : (word room : List ℕ) → false ≡ (length word == 0) → length word ≤ 6 → are_characters word ≡ true
    → IsPut 0 (length word) (map in_ebcdic word) (replicate 6 blank) room → Some room ≡ serial_named word
serial_is word room some few good put =
    let is : is_serial word ≡ true = and_of (nat_le 1 (length word) && nat_le (length word) 6) (are_characters word)
    (and_of (nat_le 1 (length word)) (nat_le (length word) 6) (le-leb 1 (length word) (some_of word some)) (le-leb (length word) 6 few)) good in
    let bytes : room ≡ serial_bytes word = put_in_front (length word) (map in_ebcdic word) (replicate 6 blank) room put
    ∙ ap (λ (rest : List ℕ). map in_ebcdic word ++ rest) (drop-replicate (length word) 6 blank) in
    ap Some bytes ∙ sym (ap (λ (b : Bool). if b then Some (serial_bytes word) else None) is)
