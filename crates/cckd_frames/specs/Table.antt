-- The table of nodes: frames 0 to count - 1, then as many buckets, then the head. Only this crate's own functions speak of it.
use Rattle.std.specs.Prelude.{◌≡◌, ℕ, zero, suc, ◌+◌, ◌-◌, ◌*◌, ◌%◌, ◌<◌, ◌≤◌, ◌==◌, if◌then◌else◌, List, [], ◌∷◌, length, take, drop, map, Option, None, Some}
use Rattle.cckd_frames.specs.Nodes.{older_column, newer_column, after_column, before_column, key_column, members_column, length_column, flag_column, mark_column}
use Rattle.cckd_frames.specs.Nodes.{word, with_word, IsRing, trail, linked, unlinked, flag_of, mark_word}
use Rattle.cckd_frames.specs.Frames.{Entry}

-- the nine words of each node are there, and its four links name nodes
pub record IsTable (count : ℕ) (ws : List ℕ) : Type 0 where
  pub size : length ws ≡ 9 * (2 * count + 1)
  pub named : (c k : ℕ) → c < 4 → k ≤ 2 * count → word ws c k ≤ 2 * count

-- the node of the bucket that a key falls into
abbrev pub bucket_of : ℕ → ℕ → ℕ
bucket_of count key = count + key % count

-- the n frames of which P holds are linked from the head
abbrev pub IsOrder : ℕ → ℕ → List ℕ → (ℕ → Type 0) → Type 0
IsOrder count n ws P = (xs : List ℕ) × IsRing older_column newer_column ws (2 * count) P xs × (length xs ≡ n)

-- a frame of which P holds, and whose key falls into the bucket
abbrev pub IsMember : ℕ → List ℕ → (ℕ → Type 0) → ℕ → ℕ → Type 0
IsMember count ws P bucket x = P x × (bucket_of count (word ws key_column x) ≡ bucket)

-- each bucket links its members, and knows how many they are
pub record IsIndex (count : ℕ) (ws : List ℕ) (P : ℕ → Type 0) : Type 0 where
  pub within : (x : ℕ) → P x → x < count
  pub one_key_each : (x y : ℕ) → P x → P y → word ws key_column x ≡ word ws key_column y → x ≡ y
  pub bucket : (b : ℕ) → count ≤ b → b < 2 * count → (xs : List ℕ) × IsRing after_column before_column ws b (IsMember count ws P b) xs × (length xs ≡ word ws members_column b)

-- the nodes that bucket b links, as many as it has members
abbrev pub members_of : ℕ → List ℕ → List ℕ
members_of b ws = trail ws after_column b (word ws members_column b)

-- the first node of the list with this key
abbrev pub node_with : List ℕ → ℕ → List ℕ → Option ℕ
node_with ws key [] = None
node_with ws key (x ∷ xs) = if word ws key_column x == key then Some x else node_with ws key xs

-- the k-th node after a
abbrev pub nth_after : List ℕ → ℕ → ℕ → ℕ → ℕ
nth_after ws c a zero = a
nth_after ws c a (suc k) = nth_after ws c (word ws c a) k

-- frame x comes first
abbrev pub brought : ℕ → ℕ → List ℕ → List ℕ
brought count x ws = linked older_column newer_column (2 * count) x (unlinked older_column newer_column x ws)

-- bucket b has one member less
abbrev pub one_less : ℕ → List ℕ → List ℕ
one_less b ws = with_word ws members_column b (word ws members_column b - 1)

-- bucket b has one member more
abbrev pub one_more : ℕ → List ℕ → List ℕ
one_more b ws = with_word ws members_column b (word ws members_column b + 1)

-- frame x gives its entry up
abbrev pub given_up : ℕ → ℕ → List ℕ → List ℕ
given_up count x ws = one_less (bucket_of count (word ws key_column x)) (unlinked after_column before_column x (unlinked older_column newer_column x ws))

-- the words with this mark of frame x
abbrev pub marked : ℕ → Option ℕ → List ℕ → List ℕ
marked x mark ws = with_word (with_word ws flag_column x (flag_of mark)) mark_column x (mark_word mark)

-- frame x has this key, no bytes and no mark
abbrev pub blanked : ℕ → ℕ → List ℕ → List ℕ
blanked x key ws = marked x None (with_word (with_word ws key_column x key) length_column x 0)

-- frame x takes a new entry with this key, which comes first
abbrev pub taken : ℕ → ℕ → ℕ → List ℕ → List ℕ
taken count x key ws = one_more (bucket_of count key) (linked after_column before_column (bucket_of count key) x (linked older_column newer_column (2 * count) x (blanked x key ws)))

-- the frame for the next entry: one that was never used, or else that of the last entry
abbrev pub chosen : ℕ → ℕ → List ℕ → ℕ
chosen count used ws = if used == count then word ws newer_column (2 * count) else used

-- where all frames are used, the last entry goes
abbrev pub cleared : ℕ → ℕ → List ℕ → List ℕ
cleared count used ws = if used == count then given_up count (word ws newer_column (2 * count)) ws else ws

-- no frame is linked, and each keeps its length
pub record IsEmptied (count : ℕ) (ws vs : List ℕ) : Type 0 where
  pub older : word vs older_column (2 * count) ≡ 2 * count
  pub newer : word vs newer_column (2 * count) ≡ 2 * count
  pub after : (b : ℕ) → count ≤ b → b < 2 * count → word vs after_column b ≡ b
  pub before : (b : ℕ) → count ≤ b → b < 2 * count → word vs before_column b ≡ b
  pub members : (b : ℕ) → count ≤ b → b < 2 * count → word vs members_column b ≡ 0
  pub lengths : (x : ℕ) → word vs length_column x ≡ word ws length_column x

-- the mark that two words stand for: whether there is one, and which
abbrev pub mark_of : ℕ → ℕ → Option ℕ
mark_of zero mark = None
mark_of (suc n) mark = Some mark

-- what lies in frame x
abbrev pub entry_at : ℕ → List ℕ → List ℕ → ℕ → Entry
entry_at frame_len ws bs x = record {
  frame = x;
  key = word ws key_column x;
  mark = mark_of (word ws flag_column x) (word ws mark_column x);
  body = take (word ws length_column x) (drop (x * frame_len) bs);
}

-- what lies in the frames in use, most recent first
abbrev pub entries_of : ℕ → ℕ → ℕ → List ℕ → List ℕ → List Entry
entries_of count frame_len used ws bs = map (entry_at frame_len ws bs) (trail ws older_column (2 * count) used)

-- what holds of the parts of a `Frames`
pub record IsSound (count frame_len used : ℕ) (ws bs : List ℕ) : Type 0 where
  pub some_frames : 1 ≤ count
  pub most_frames : count ≤ 4096
  pub some_room : 1 ≤ frame_len
  pub most_room : frame_len ≤ 65536
  pub bounded : used ≤ count
  pub table : IsTable count ws
  pub order : IsOrder count used ws (λ x. x < used)
  pub index : IsIndex count ws (λ x. x < used)
  pub fitting : (x : ℕ) → x < count → word ws length_column x ≤ frame_len
  -- the bytes of each frame in use are made
  pub room : used * frame_len ≤ length bs
