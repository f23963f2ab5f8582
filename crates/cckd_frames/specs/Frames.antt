-- What callers see of a `Frames`: a bounded list, most recent first, of entries with their frames.
use Rattle.std.specs.Prelude.{ℕ, ◌-◌, ◌<◌, ◌≤◌, ◌==◌, if◌then◌else◌, List, [], ◌∷◌, ◌++◌, length, take, drop, map, replicate, Option, None, Some, IsSome, All}
use Rattle.std.specs.List.{IsDistinct}
use Rattle.std.specs.Option.{option_map}
use Rattle.std.specs.Bool.{nat_eq}

-- an entry: the frame that holds it, its key, its mark and its bytes
pub record Entry : Type 0 where
  pub frame : ℕ
  pub key : ℕ
  pub mark : Option ℕ
  pub body : List ℕ

-- all of it: how many frames, the bytes that a frame has room for, and the entries, most recent first
pub record Kept : Type 0 where
  pub count : ℕ
  pub frame_len : ℕ
  pub entries : List Entry

-- the same frames, with these entries
abbrev pub with_entries : Kept → List Entry → Kept
with_entries k es = record { count = k.count; frame_len = k.frame_len; entries = es }

-- the keys of all entries, in their order
abbrev pub keys : List Entry → List ℕ
keys = map (λ e. e.key)

-- the frames of all entries, in their order
abbrev pub frames : List Entry → List ℕ
frames = map (λ e. e.frame)

-- the entry with this key
abbrev pub entry_of : ℕ → List Entry → Option Entry
entry_of key [] = None
entry_of key (e ∷ es) = if e.key == key then Some e else entry_of key es

-- the entry that lies in this frame
abbrev pub entry_in : ℕ → List Entry → Option Entry
entry_in frame [] = None
entry_in frame (e ∷ es) = if e.frame == frame then Some e else entry_in frame es

-- the frame of the entry with this key
abbrev pub frame_of : ℕ → List Entry → Option ℕ
frame_of key es = option_map (λ e. e.frame) (entry_of key es)

-- the frame holds an entry
abbrev pub IsUsed : ℕ → List Entry → Type 0
IsUsed frame es = IsSome (entry_in frame es)

-- the entries of other keys
abbrev pub without : ℕ → List Entry → List Entry
without key [] = []
without key (e ∷ es) = if e.key == key then without key es else e ∷ without key es

-- the entry with this key comes first, and the others keep their order
abbrev pub promoted : ℕ → List Entry → List Entry
promoted key es = elim (entry_of key es) [ None ↦ es | Some e ↦ e ∷ without key es ]

-- an entry with no bytes and no mark
abbrev pub blank : ℕ → ℕ → Entry
blank frame key = record { frame = frame; key = key; mark = None; body = [] }

-- the entries with this change to the one in this frame
abbrev pub changed : ℕ → (Entry → Entry) → List Entry → List Entry
changed frame change [] = []
changed frame change (e ∷ es) = (if e.frame == frame then change e else e) ∷ changed frame change es

-- the entries with this mark on the one in this frame, or with none
abbrev pub with_mark : ℕ → Option ℕ → List Entry → List Entry
with_mark frame mark = changed frame (λ e. record { frame = e.frame; key = e.key; mark = mark; body = e.body })

-- the first n bytes, or all of them and zeros up to n
abbrev pub resized : ℕ → List ℕ → List ℕ
resized n xs = take n xs ++ replicate (n - length xs) 0

-- other bytes in the place of these. Where they are fewer or more, they are filled up from these, or cut
abbrev pub refilled : List ℕ → List ℕ → List ℕ
refilled xs ys = take (length xs) (ys ++ drop (length ys) xs)

-- the entry in this frame with these bytes written over its own
abbrev pub with_writes : ℕ → List ℕ → List Entry → List Entry
with_writes frame body = changed frame (λ e. record { frame = e.frame; key = e.key; mark = e.mark; body = refilled e.body body })

-- the entries with n bytes in the one in this frame
abbrev pub with_len : ℕ → ℕ → List Entry → List Entry
with_len frame n = changed frame (λ e. record { frame = e.frame; key = e.key; mark = e.mark; body = resized n e.body })

-- an entry with these bytes and no mark
abbrev pub holding : ℕ → ℕ → List ℕ → Entry
holding frame key body = record { frame = frame; key = key; mark = None; body = body }

-- the entries with these bytes in the one in this frame, in the place of its own
abbrev pub with_body : ℕ → List ℕ → List Entry → List Entry
with_body frame body = changed frame (λ e. record { frame = e.frame; key = e.key; mark = e.mark; body = body })

-- what holds of each `Frames`
pub record IsKept (k : Kept) : Type 0 where
  pub some_frames : 1 ≤ k.count
  pub most_frames : k.count ≤ 4096
  pub some_room : 1 ≤ k.frame_len
  pub most_room : k.frame_len ≤ 65536
  pub bounded : length k.entries ≤ k.count
  pub numbered : All (λ f. f < k.count) (frames k.entries)
  pub one_frame_each : IsDistinct nat_eq (frames k.entries)
  pub one_key_each : IsDistinct nat_eq (keys k.entries)
  pub fitting : All (λ e. length e.body ≤ k.frame_len) k.entries
