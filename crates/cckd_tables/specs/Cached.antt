-- The cached tables: which are kept, and what the use of one does.
use Rattle.std.specs.Prelude.{ℕ, ◌≡◌, ◌≢◌, ◌⊎◌, ◌<◌, ◌==◌, if◌then◌else◌, List, [], ◌∷◌, length, map, take, Option, Some, None, IsSome}
use Rattle.std.specs.List.{AllByRecursion}
use Rattle.cckd_frames.specs.Frames.{Entry, Kept, IsKept}
use Rattle.cckd_tables.specs.Tables.{CachedTable}

-- the bytes of a group's table, where it is cached
abbrev pub table_of : ℕ → List CachedTable → Option (List ℕ)
table_of g [] = None
table_of g (c ∷ cs) = if c.group == g then Some c.bytes else table_of g cs

-- a group's table is cached
abbrev pub IsCached : ℕ → List CachedTable → Type 0
IsCached g cached = IsSome (table_of g cached)

-- the tables of other groups
abbrev pub tables_but : ℕ → List CachedTable → List CachedTable
tables_but g [] = []
tables_but g (c ∷ cs) = if c.group == g then tables_but g cs else c ∷ tables_but g cs

-- once this table is used it comes first, and where there are 64 others the last of them goes
abbrev pub used_first : CachedTable → List CachedTable → List CachedTable
used_first c cs = take 64 (c ∷ tables_but c.group cs)

-- the table of a group was used, and if it was cached, as it was
pub record UsesTable (g : ℕ) (old new : List CachedTable) : Type 0 where
  pub bytes : List ℕ
  pub first : new ≡ used_first (record { group = g; bytes = bytes }) old
  pub same : IsCached g old → table_of g old ≡ Some bytes

-- The table of a group stays cached. No other one is new. At most one other leaves, and none while fewer than 64 are
-- cached.
pub record KeepsCached (g : ℕ) (old new : List CachedTable) : Type 0 where
  pub own : IsCached g old → IsCached g new
  pub others : (h : ℕ) → h ≢ g → IsCached h new → IsCached h old
  pub one : (h k : ℕ) → h ≢ g → k ≢ g → h ≢ k → IsCached h old → IsCached k old → IsCached h new ⊎ IsCached k new
  pub none : length old < 64 → (h : ℕ) → IsCached h old → IsCached h new

-- the entries of a list by recency, as tables
abbrev pub tables_in : List Entry → List CachedTable
tables_in = map (λ e. record { group = e.key; bytes = e.body })

-- 64 frames of 2,048 bytes, each with a whole table
pub record IsCache (k : Kept) : Type 0 where
  pub count : k.count ≡ 64
  pub frame_len : k.frame_len ≡ 2048
  pub kept : IsKept k
  pub whole : AllByRecursion (λ e. length e.body ≡ 2048) k.entries
