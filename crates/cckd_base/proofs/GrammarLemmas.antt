-- Bytes without a fault are a track of the grammar: each count that may stand is spelled by a record.
use Rattle.std.proofs.Common.{◌≡◌, ℕ, ◌+◌, ◌/◌, ◌%◌, ◌<◌, ◌≤◌, List, [], ◌∷◌, ◌++◌, length, get_or, take, drop, sym, ap, ◌∙◌, arith, append_assoc, length-append, length-drop}
use Rattle.std.specs.Int.{w16, from_be_bytes}
use Rattle.std.proofs.lemmas.List.{take-append-drop, length-take-le, get_or-drop, drop-drop}
use Rattle.cckd_base.specs.Track.{CountKeyData, spelling, FitsCount, record_number, key_length, body_length}

abbrev pub IsBytes : List ℕ → Type 0
IsBytes bytes = (i : ℕ) → get_or bytes i 0 < 256

pub IsBytes-drop : (n : ℕ) (bytes : List ℕ) → IsBytes bytes → IsBytes (drop n bytes)
IsBytes-drop n bytes h i = rw get_or-drop (h (n + i))

-- the record whose count begins the bytes
abbrev pub record_of : List ℕ → CountKeyData
record_of bytes = record {
  cylinder = from_be_bytes w16 (take 2 bytes);
  head = from_be_bytes w16 (take 2 (drop 2 bytes));
  number = record_number bytes;
  key = take (key_length bytes) (drop 8 bytes);
  body = take (body_length bytes) (drop (key_length bytes) (drop 8 bytes));
}

-- the record spells the bytes up to what is behind it
pub record Spells (bytes : List ℕ) (n : ℕ) : Type 0 where
  pub spelled : bytes ≡ spelling (record_of bytes) ++ drop n bytes
  pub size : length (spelling (record_of bytes)) ≡ n
  pub fits : FitsCount (record_of bytes)
  pub key : length (record_of bytes).key ≡ key_length bytes
  pub body : length (record_of bytes).body ≡ body_length bytes

pub count_spelled : (bytes : List ℕ) (n : ℕ) → IsBytes bytes → 8 ≤ length bytes → n ≡ 8 + key_length bytes + body_length bytes → n ≤ length bytes → Spells bytes n
count_spelled (a ∷ b ∷ c ∷ d ∷ e ∷ f ∷ g ∷ h ∷ rest) n byte long size whole =
    let bytes = a ∷ b ∷ c ∷ d ∷ e ∷ f ∷ g ∷ h ∷ rest in
    let body_len = from_be_bytes w16 (g ∷ h ∷ []) in
    let key-is : length (take f rest) ≡ f = length-take-le f rest (omega arith) in
    let body-is : length (take body_len (drop f rest)) ≡ body_len = length-take-le body_len (drop f rest) (omega (arith, length-drop f rest)) in
    let a-is : from_be_bytes w16 (a ∷ b ∷ []) / 256 % 256 ≡ a = omega (arith, byte 0, byte 1) in
    let b-is : from_be_bytes w16 (a ∷ b ∷ []) % 256 ≡ b = omega (arith, byte 0, byte 1) in
    let c-is : from_be_bytes w16 (c ∷ d ∷ []) / 256 % 256 ≡ c = omega (arith, byte 2, byte 3) in
    let d-is : from_be_bytes w16 (c ∷ d ∷ []) % 256 ≡ d = omega (arith, byte 2, byte 3) in
    let g-is : length (take body_len (drop f rest)) / 256 % 256 ≡ g = omega (arith, byte 6, byte 7, body-is) in
    let h-is : length (take body_len (drop f rest)) % 256 ≡ h = omega (arith, byte 6, byte 7, body-is) in
    let behind : drop body_len (drop f rest) ≡ drop n bytes =
    drop-drop body_len f rest ∙ drop-drop (f + body_len) 8 bytes ∙ ap (λ (k : ℕ). drop k bytes) (omega (arith, size)) in
    let parts : rest ≡ (take f rest ++ take body_len (drop f rest)) ++ drop n bytes =
    sym (take-append-drop f rest)
    ∙ ap (λ (s : List ℕ). take f rest ++ s) (sym (take-append-drop body_len (drop f rest)))
    ∙ sym (append_assoc (take f rest) (take body_len (drop f rest)) (drop body_len (drop f rest)))
    ∙ ap (λ (s : List ℕ). (take f rest ++ take body_len (drop f rest)) ++ s) behind in
    record {
      spelled = cc;
      size = omega (arith, length-append (take f rest) (take body_len (drop f rest)), key-is, body-is, size);
      fits = record {
        cylinder = omega (arith, byte 0, byte 1);
        head = omega (arith, byte 2, byte 3);
        number = omega (arith, byte 4);
        key = omega (arith, byte 5, key-is);
        body = omega (arith, byte 6, byte 7, body-is);
      };
      key = key-is;
      body = body-is;
    }
count_spelled bytes n byte long size whole = absurd (omega arith)
