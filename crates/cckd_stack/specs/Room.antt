-- The room that a history leaves in the last file of a disk, and when its want is justified.
use Rattle.std.specs.Prelude.{ℕ, ◌≡◌, ◌/◌, ◌==◌, ◌≤◌, max, Bool, true, false, ◌&&◌, ◌||◌, not, if◌then◌else◌, List, [], ◌∷◌, length, Option, Some, None}
use Rattle.std.specs.Option.{option_map, unwrap_or}
use Rattle.cckd_base.specs.declared.geometry.Geometry.{Geometry}
use Rattle.cckd_base.specs.declared.geometry.Track.{Track}
use Rattle.cckd_base.specs.declared.reply.Reply.{Reply}
use Rattle.cckd_base.specs.declared.reply.Reply.TheVariants as reply
use Rattle.cckd_base.specs.declared.reply.Refusal.TheVariants as refusal
use Rattle.cckd_base.specs.declared.layer_fault.LayerFault.{LayerFault}
use Rattle.cckd_base.specs.declared.layer_fault.LayerFault.TheVariants as fault
use Rattle.cckd_base.specs.declared.space.Full.{Full}
use Rattle.cckd_base.specs.Header.{headers_of, layout_of}
use Rattle.cckd_shelf.specs.Seen.{Seen}
use Rattle.cckd_tables.specs.Staging.{IsMoved}
use Rattle.cckd_layer.specs.Held.{NullBytes}
use Rattle.cckd_layer.specs.Stands.{nothing_staged}
use Rattle.cckd_layer.specs.Mounted.{LayerState}
use Rattle.cckd_layer.specs.Preparing.{LacksRoom}
use Rattle.cckd_layer.specs.declared.writing.Stored.{Stored}
use Rattle.cckd_layer.specs.Storing.{IsStoredOf, need_of}
use Rattle.cckd_layer.specs.Justified.{Attempt, IsOneOf, IsJustified, StaysInRoom}
use Rattle.cckd_stack.specs.Layers.{Stack}
use Rattle.cckd_stack.specs.Answers.{Request, address_in, track_of, pair_by, needs_room, changes_files, is_refused}
use Rattle.cckd_stack.specs.History.{Entry, History, EachEntry, broken_at, stack_after, reply_breaks}
use Rattle.cckd_stack.specs.Stops.{hardens}
use Rattle.cckd_stack.specs.Tops.{top_slot}
use Rattle.cckd_stack.specs.Stacked.{StackState}
use Rattle.cckd_stack.specs.Writes.{EndsWith}

-- ---- the room, by calls and replies

-- What is known of the last file's room: its limit; the most bytes that it may have, which is the limit, or its length when it was
-- opened, if that is more; the groups that were written to, or tried; and whether all is hardened.
pub record Room : Type 0 where
  pub limit : ℕ
  pub most : ℕ
  pub groups : List ℕ
  pub quiet : Bool

-- when a file of so many bytes was opened
abbrev pub first_room : ℕ → ℕ → Room
first_room limit len = record { limit = limit; most = max limit len; groups = []; quiet = true }

-- whether a group is one of these
abbrev pub is_one_of : ℕ → List ℕ → Bool
is_one_of g [] = false
is_one_of g (x ∷ groups) = (x == g) || is_one_of g groups

-- these groups and one more, each once
abbrev pub with_group : Option ℕ → List ℕ → List ℕ
with_group None groups = groups
with_group (Some g) groups = if is_one_of g groups then groups else g ∷ groups

-- the group of the track that a call names
abbrev pub group_of : Geometry → Request → Option ℕ
group_of g r = option_map (λ (t : Track). t.0 / 256) (track_of g (address_in r.asked))

-- whether a reply is a refusal for want of room
abbrev pub is_full : Reply → Bool
is_full (reply.Refused (refusal.Full full)) = true
is_full _ = false

-- the group in which a call with its reply wrote, or tried to write: it was answered, or refused for want of room
abbrev pub group_tried : Geometry → Request → Reply → Option ℕ
group_tried g r said = if needs_room r.asked && (not (is_refused said) || is_full said) then group_of g r else None

-- The room after a call with its reply. All is hardened behind a call that hardens, as long as others only look.
abbrev pub room_after_call : Geometry → Room → Request → Reply → Room
room_after_call g room r said = record {
  limit = room.limit;
  most = room.most;
  groups = with_group (group_tried g r said) room.groups;
  quiet = if changes_files r.asked then hardens r.asked said else room.quiet;
}

-- the room that a history leaves
abbrev pub room_after : Geometry → Room → History → Room
room_after g room [] = room
room_after g room (e ∷ earlier) = room_after_call g (room_after g room earlier) e.request e.answer.reply

-- ---- what is promised of it

-- how many bytes a call gives of its track
abbrev pub bytes_given : Geometry → Stack → Request → ℕ
bytes_given g s r = unwrap_or (option_map (λ (p : ℕ × List ℕ). length p.1) (pair_by g s r)) 0

-- what a call with its reply asked of the room
abbrev pub attempt_of : Geometry → Room → Stack → Request → Reply → Attempt
attempt_of g room s r said = record {
  limit = room.limit;
  given = bytes_given g s r;
  group = unwrap_or (group_of g r) 0;
  groups = (room_after_call g room r said).groups;
  quiet = room.quiet;
}

-- of a refusal for want of room this holds
abbrev pub IfFull : Reply → (Full → Type 0) → Type 0
IfFull (reply.Refused (refusal.Full full)) P = P full
IfFull _ P = Unit {0}

-- the file of the last layer
abbrev pub last_file : Stack → (ℕ → List ℕ) → List ℕ
last_file s files = files (top_slot s)

-- A call that is refused for want of room is refused with cause, where these are the files when it is answered.
abbrev pub HasRoomCause : Geometry → Room → Stack → Request → Reply → (ℕ → List ℕ) → Type 0
HasRoomCause g room s r said files =
    IfFull said (IsJustified (attempt_of g room s r said) (layout_of (headers_of (last_file s files))) (last_file s files))

-- and unless it breaks, the last file is within its bounds
pub record KeepsRoom (g : Geometry) (room : Room) (s : Stack) (r : Request) (said : Reply) (files : ℕ → List ℕ) : Type 0 where
  pub full : HasRoomCause g room s r said files
  pub within : reply_breaks r.asked said ≡ false → length (last_file s files) ≤ room.most

-- what is promised of an entry of a history, with the files as they were when it was answered
pub record IsRoomKept (g : Geometry) (room : Room) (s0 : Stack) (earlier : History) (e : Entry) : Type 0 where
  pub full : HasRoomCause g (room_after g room earlier) (stack_after g s0 earlier) e.request e.answer.reply e.files
  pub within : broken_at (e ∷ earlier) ≡ None → length (last_file (stack_after g s0 earlier) e.files) ≤ room.most

-- so it is of each
abbrev pub IsRoomLegal : Geometry → Room → Stack → History → Type 0
IsRoomLegal g room s0 h = EachEntry (IsRoomKept g room s0) h

-- ---- the layers

-- a layer goes with the room: new tables are staged for groups that were tried alone, and nothing where all is hardened
pub record IsInRoom (room : Room) (s : LayerState) : Type 0 where
  pub limit : s.plan.limit ≡ room.limit
  pub low : room.limit ≤ room.most
  pub size : s.plan.size ≤ room.most
  pub tables : (g : ℕ) → IsMoved g s.tables.stages → IsOneOf g room.groups
  pub empty : room.quiet ≡ true → s.tables.stages ≡ nothing_staged

-- so does the last layer of a stack
abbrev pub HasRoom : StackState → Room → Type 0
HasRoom s room = EndsWith (IsInRoom room) s.layers

-- a layer was left without a place for the bytes of a track, where it was refused for want of room
abbrev pub LacksPlace : NullBytes → LayerState → Seen → ℕ → List ℕ → LayerFault → Type 0
LacksPlace null next new t bytes (fault.Full full) = (st : Stored) × IsStoredOf null next.tables.layout.geo t bytes st × LacksRoom next new.world t (need_of st) full
LacksPlace null next new t bytes why = Unit {0}

-- a refusal is no want of room
abbrev pub IsNoFull : LayerFault → Type 0
IsNoFull (fault.Full full) = ⊥
IsNoFull why = Unit {0}

-- no layer has staged more, one by one
abbrev pub StayInRoom : List LayerState → List LayerState → Type 0
StayInRoom [] [] = Unit {0}
StayInRoom (s ∷ ss) (n ∷ ns) = StaysInRoom s n × StayInRoom ss ns
StayInRoom _ _ = ⊥
