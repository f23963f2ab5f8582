-- The words of the nodes, and how they are linked. Only this crate's own functions speak of them.
use Rattle.std.specs.Prelude.{◌≡◌, ℕ, zero, suc, ◌+◌, ◌*◌, ◌⊎◌, ◌==◌, if◌then◌else◌, List, [], ◌∷◌, get_or, set, Option, None, Some}

-- the column of a node's words in which the next older node stands
abbrev pub older_column : ℕ
older_column = 0

-- the column of the next newer node
abbrev pub newer_column : ℕ
newer_column = 1

-- the column of the next node of the bucket
abbrev pub after_column : ℕ
after_column = 2

-- the column of the node before it in the bucket
abbrev pub before_column : ℕ
before_column = 3

-- the column of a frame's key
abbrev pub key_column : ℕ
key_column = 4

-- the column of how many members a bucket has
abbrev pub members_column : ℕ
members_column = 5

-- the column of how many bytes an entry has
abbrev pub length_column : ℕ
length_column = 6

-- the column of whether it has a mark
abbrev pub flag_column : ℕ
flag_column = 7

-- the column of the mark itself
abbrev pub mark_column : ℕ
mark_column = 8

-- word c of node x
abbrev pub word : List ℕ → ℕ → ℕ → ℕ
word ws c x = get_or ws (9 * x + c) 0

-- the words with v as word c of node x
abbrev pub with_word : List ℕ → ℕ → ℕ → ℕ → List ℕ
with_word ws c x v = set ws (9 * x + c) v

-- x is in the list
abbrev pub In : ℕ → List ℕ → Type 0
In x [] = ⊥
In x (y ∷ ys) = (x ≡ y) ⊎ In x ys

-- no number comes twice
abbrev pub IsApart : List ℕ → Type 0
IsApart [] = Unit {0}
IsApart (x ∷ xs) = (In x xs → ⊥) × IsApart xs

-- the list without the first x in it
abbrev pub leave_out : ℕ → List ℕ → List ℕ
leave_out x [] = []
leave_out x (y ∷ ys) = if x == y then ys else y ∷ leave_out x ys

-- from node a through the list to node z, each node names the next in word c, and the one before it in word d
abbrev pub IsPath : ℕ → ℕ → List ℕ → ℕ → List ℕ → ℕ → Type 0
IsPath c d ws a [] z = (word ws c a ≡ z) × (word ws d z ≡ a)
IsPath c d ws a (x ∷ xs) z = (word ws c a ≡ x) × (word ws d x ≡ a) × IsPath c d ws x xs z

-- the n nodes after a, as word c of each names the next
abbrev pub trail : List ℕ → ℕ → ℕ → ℕ → List ℕ
trail ws c a zero = []
trail ws c a (suc n) = word ws c a ∷ trail ws c (word ws c a) n

-- a ring from node a back to it, through the nodes of which P holds, each once
pub record IsRing (c d : ℕ) (ws : List ℕ) (a : ℕ) (P : ℕ → Type 0) (xs : List ℕ) : Type 0 where
  pub path : IsPath c d ws a xs a
  pub apart : IsApart (a ∷ xs)
  pub only : (x : ℕ) → In x xs → P x
  pub each : (x : ℕ) → P x → In x xs

-- node x taken out of its ring
abbrev pub unlinked : ℕ → ℕ → ℕ → List ℕ → List ℕ
unlinked c d x ws = with_word (with_word ws c (word ws d x) (word ws c x)) d (word ws c x) (word ws d x)

-- node x put into a ring after node a
abbrev pub linked : ℕ → ℕ → ℕ → ℕ → List ℕ → List ℕ
linked c d a x ws = with_word (with_word (with_word (with_word ws d x a) c x (word ws c a)) d (word ws c a) x) c a x

-- 1 where there is a mark, or else 0
abbrev pub flag_of : Option ℕ → ℕ
flag_of None = 0
flag_of (Some m) = 1

-- the mark itself, or 0 for none
abbrev pub mark_word : Option ℕ → ℕ
mark_word None = 0
mark_word (Some m) = m
