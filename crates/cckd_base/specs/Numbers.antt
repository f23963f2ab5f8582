-- Numbers as an image spells them.
use Rattle.std.specs.Prelude.{ℕ, List, take, drop}
use Rattle.std.specs.Int.{Width, byte_len, from_le_bytes, from_be_bytes, to_le_bytes, to_be_bytes}
use Rattle.cckd_base.specs.declared.order.Order.{Order}
use Rattle.cckd_base.specs.declared.order.Order.TheVariants.{Little, Big}

-- the number that these bytes spell in this order
abbrev pub number_of : Order → Width → List ℕ → ℕ
number_of Little w bytes = from_le_bytes w bytes
number_of Big w bytes = from_be_bytes w bytes

-- the bytes that spell this number in this order
abbrev pub bytes_of : Order → Width → ℕ → List ℕ
bytes_of Little w n = to_le_bytes w n
bytes_of Big w n = to_be_bytes w n

-- the bytes of a file from a place on, so many of them
abbrev pub bytes_at : List ℕ → ℕ → ℕ → List ℕ
bytes_at file place count = take count (drop place file)

-- the number of this width that stands at a place of a file
abbrev pub number_at : Order → Width → List ℕ → ℕ → ℕ
number_at order w file place = number_of order w (bytes_at file place (byte_len w))
