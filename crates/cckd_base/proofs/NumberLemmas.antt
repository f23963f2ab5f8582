-- Numbers of two and of four bytes, by place and in either order.
use Rattle.std.proofs.Common.{◌≡◌, ℕ, ◌+◌, ◌≤◌, List, get_or, take, drop, ◌∙◌, arith}
use Rattle.std.specs.Int.{w16, w32, from_be_bytes, from_le_bytes}
use Rattle.std.proofs.lemmas.List.{get_or-take, get_or-drop}
use Rattle.byteorder.specs.Endian.{big_number, little_number}

-- the byte at a place of a part
byte_in : (bytes : List ℕ) (n k i : ℕ) → i + 1 ≤ k → get_or (take k (drop n bytes)) i 0 ≡ get_or bytes (n + i) 0
byte_in bytes n k i low = get_or-take k (drop n bytes) i 0 (omega (arith, low)) ∙ get_or-drop n bytes i 0

pub two_there : (bytes : List ℕ) (n : ℕ) → from_be_bytes w16 (take 2 (drop n bytes)) ≡ big_number 2 (drop n bytes)
two_there bytes n =
    let high = byte_in bytes n 2 0 (omega arith) in
    let low = byte_in bytes n 2 1 (omega arith) in
    omega (arith, high, low, get_or-drop n bytes 0 0, get_or-drop n bytes 1 0)

pub big_four : (bytes : List ℕ) → from_be_bytes w32 (take 4 (drop 0 bytes)) ≡ big_number 4 bytes
big_four bytes =
    let a = byte_in bytes 0 4 0 (omega arith) in
    let b = byte_in bytes 0 4 1 (omega arith) in
    let c = byte_in bytes 0 4 2 (omega arith) in
    let d = byte_in bytes 0 4 3 (omega arith) in
    omega (arith, a, b, c, d)

pub little_four : (bytes : List ℕ) → from_le_bytes w32 (take 4 (drop 0 bytes)) ≡ little_number 4 bytes
little_four bytes =
    let a = byte_in bytes 0 4 0 (omega arith) in
    let b = byte_in bytes 0 4 1 (omega arith) in
    let c = byte_in bytes 0 4 2 (omega arith) in
    let d = byte_in bytes 0 4 3 (omega arith) in
    omega (arith, a, b, c, d)
