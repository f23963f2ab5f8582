-- Values of one size side by side, and pointers to them.
use Rattle.std.specs.Prelude.{◌≡◌, ℕ, ◌-◌, ◌*◌, ◌/◌, ◌<◌}
use denote.RawPtr.{Ptr, block_ptr, null_ptr, ◌+ₚ◌}

-- the number of the value at a pointer, among values of s bytes of which the first lies at a
abbrev pub place_of : ℕ → Ptr → Ptr → ℕ
place_of s (block_ptr b o) (block_ptr c p) = (p - o) / s
place_of s (block_ptr b o) null_ptr = 0
place_of s null_ptr p = 0

-- one of n values of s bytes lies at p, where the first lies at a
abbrev pub IsItem : ℕ → Ptr → ℕ → Ptr → Type 0
IsItem s a n p = (p ≡ a +ₚ place_of s a p * s) × (place_of s a p < n)
