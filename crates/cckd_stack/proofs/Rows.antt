-- Small histories, worked out.
use Rattle.std.proofs.Common.{◌≡◌, ◌⊎◌, ℕ, List, [], ◌∷◌, ◌++◌, replicate, Option, Some, None, unwrap_or, refl, sym, ◌∙◌, ap, inl, inr}
use Rattle.cckd_base.specs.declared.geometry.Geometry.{Geometry}
use Rattle.cckd_base.specs.declared.geometry.Addr.{Addr}
use Rattle.cckd_base.specs.declared.call.Call.{Call}
use Rattle.cckd_base.specs.declared.call.Call.TheVariants as call
use Rattle.cckd_base.specs.declared.reply.Reply.{Reply}
use Rattle.cckd_base.specs.declared.reply.Reply.TheVariants as reply
use Rattle.cckd_base.specs.declared.reply.Refusal.TheVariants as refusal
use Rattle.cckd_base.specs.Track.{track_value, track_fault, home_fault, records_fault}
use Rattle.cckd_stack.specs.Layers.{Layer, Stack, base, shadow, visible, with_track, top}
use Rattle.cckd_stack.specs.Answers.{Request, plain, first_refusal, refusal_to, IsAnswer, stack_after_call, counts_shown}
use Rattle.cckd_stack.specs.History.{Entry, History, broken_at, stack_after}
use Rattle.cckd_stack.specs.Stops.{IsAmong, TrackLies, Lies, Survives, SurvivesWithin}

-- a device of two cylinders with two heads
abbrev small : Geometry
small = record { devtype = 17; heads = 2; cyls = 2; track_size = 3664 }

abbrev at_head : ℕ → Addr
at_head head = record { cyl = 0; head = head }

-- a call of no session, where nothing is known of the files
abbrev entry : Call → List ℕ → Reply → Entry
entry asked given said = record {
  session = None;
  request = record { asked = asked; given = given };
  answer = plain said;
  files = λ slot. [];
}

-- track 0 with one record of eight bytes
abbrev one_record : ℕ → List ℕ
one_record b = replicate 12 0 ++ 8 ∷ replicate 8 0 ++ 0 ∷ 0 ∷ 0 ∷ 0 ∷ 1 ∷ 0 ∷ 0 ∷ 8 ∷ replicate 8 b ++ replicate 8 255

abbrev with_one : ℕ → Stack
with_one b = base (λ t. Some (one_record b))

-- what is asked of a record of track 0
abbrev gets : ℕ → Request
gets num = record { asked = call.GetRecord (at_head 0) num; given = [] }

abbrev puts : ℕ → List ℕ → Request
puts num given = record { asked = call.PutRecord (at_head 0) num; given = given }

-- the bytes pass the track check
passes : track_fault small 0 (one_record 0xaa) ≡ None
unfolding track_fault home_fault records_fault
passes = refl

-- `rec 0 0 1` answers the data, which has no key
record_is_read : IsAnswer small (with_one 0xaa) (gets 1) (record { reply = reply.Record 0 8; bytes = replicate 8 0xaa })
record_is_read = refl

-- `put 0 0 1 bbbbbbbbbbbbbbbb` leaves a track with these bytes
record_is_put : visible (stack_after_call small (with_one 0xaa) (puts 1 (replicate 8 0xbb)) (reply.Replaced 8)) 0 ≡ one_record 0xbb
record_is_put = refl

-- another length, and a record that isn't there
length_differs : refusal_to small (with_one 0xaa) (puts 1 (0xbb ∷ [])) ≡ Some (refusal.LengthDiffers 8)
unfolding track_fault home_fault records_fault
length_differs = refl

no_record : refusal_to small (with_one 0xaa) (puts 9 (0xbb ∷ [])) ≡ Some (refusal.NoRecord 9)
unfolding track_fault home_fault records_fault
no_record = refl

-- a third head isn't there, whatever else is wrong with the call
no_track : (given : List ℕ) → refusal_to small (with_one 0xaa) (record { asked = call.Write (at_head 2); given = given }) ≡ Some refusal.NoSuchTrack
no_track given = refl

visible_top : (s : Stack) (t : ℕ) (bytes : List ℕ) → top s t ≡ Some bytes → visible s t ≡ bytes
visible_top (base layer) t bytes e = ap (λ (o : Option (List ℕ)). unwrap_or o []) e
visible_top (shadow layer lower) t bytes e = ap (λ (o : Option (List ℕ)). unwrap_or o (visible lower t)) e

-- nothing was written later, so the track is as it was
as_before : (bytes : List ℕ) (new : Option (List ℕ)) (t : ℕ) → TrackLies t [] (Some bytes) new → new ≡ Some bytes
as_before bytes new t (inl same) = same
as_before bytes new t (inr later) = absurd later.2

-- another track was written later
of_another : (aa bb : List ℕ) (new : Option (List ℕ)) → TrackLies 0 ((1, bb) ∷ []) (Some aa) new → new ≡ Some aa
of_another aa bb new (inl same) = same
of_another aa bb new (inr later) = elim later.2 [ inl here ↦ absurd (cc here.0) | inr none ↦ absurd none ]

of_this : (bb bytes : List ℕ) → IsAmong 1 bytes ((1, bb) ∷ []) → bytes ≡ bb
of_this bb bytes (inl here) = sym here.1
of_this bb bytes (inr none) = absurd none

module _ (m : Layer) (aa bb null : List ℕ) where
  abbrev fill_aa : Entry
  fill_aa = entry (call.Write (at_head 0)) aa (reply.Written 45)

  abbrev fill_bb : Entry
  fill_bb = entry (call.Write (at_head 1)) bb (reply.Written 45)

  abbrev write_null : Entry
  write_null = entry (call.Write (at_head 0)) null (reply.Written 37)

  abbrev harden : Entry
  harden = entry call.Harden [] reply.Hardened

  abbrev add : Entry
  add = entry call.Add [] (reply.Added 1)

  abbrev merge : Entry
  merge = entry call.Merge [] (reply.Merged 1)

  abbrev drop_top : Entry
  drop_top = entry call.Drop [] (reply.Dropped 1)

  abbrev sync_fails : Entry
  sync_fails = entry call.Harden [] (reply.Refused refusal.SyncFault)

  abbrev is_broken : Entry
  is_broken = entry call.Close [] (reply.Refused (refusal.Broken 4))

  -- a write and a hardening: the track is there, and nothing else may be left of it
  is_there : visible (stack_after small (base m) (harden ∷ fill_aa ∷ [])) 0 ≡ track_value aa
  is_there = refl

  is_hardened : Survives small (base m) (harden ∷ fill_aa ∷ []) ≡ Lies (base (with_track m 0 (track_value aa))) []
  is_hardened = refl

  -- before it the track may be as it was
  isn't_hardened : Survives small (base m) (fill_aa ∷ []) ≡ Lies (base m) ((0, track_value aa) ∷ [])
  isn't_hardened = refl

  -- a ninth shadow is refused, and so is taking off the base
  too_many : first_refusal small (shadow m (shadow m (shadow m (shadow m (shadow m (shadow m (shadow m (shadow m (base m))))))))) (record { asked = call.Add; given = [] })
      ≡ Some (refusal.TooMany 8)
  too_many = refl

  only_base : first_refusal small (base m) (record { asked = call.Drop; given = [] }) ≡ Some refusal.OnlyBase
  only_base = refl

  -- two tracks written in a shadow, one of them null
  abbrev shadowed : History
  shadowed = write_null ∷ fill_bb ∷ add ∷ fill_aa ∷ []

  -- the added shadow is slot 1, and merging takes slot 1 off again
  added : IsAnswer small (base m) (record { asked = call.Add; given = [] }) (plain (reply.Added 1))
  added = refl

  taken_off : IsAnswer small (stack_after small (base m) shadowed) (record { asked = call.Merge; given = [] }) (plain (reply.Merged 1))
  taken_off = refl

  -- `sfd`: all tracks of the base, and two of the shadow
  shown : counts_shown small (stack_after small (base (λ t. Some null)) shadowed) ≡ 4 ∷ 2 ∷ replicate 7 0
  shown = refl

  -- merged, track 0 is null and track 1 is there
  merged_null : visible (stack_after small (base m) (merge ∷ shadowed)) 0 ≡ track_value null
  merged_null = refl

  merged_bb : visible (stack_after small (base m) (merge ∷ shadowed)) 1 ≡ track_value bb
  merged_bb = refl

  -- dropped, the base is as it was when the shadow came
  dropped_all : stack_after small (base m) (drop_top ∷ shadowed) ≡ base (with_track m 0 (track_value aa))
  dropped_all = refl

  -- a sync that fails breaks the disk at the fourth call, and leaves what that call may leave
  abbrev broken : History
  broken = is_broken ∷ is_broken ∷ sync_fails ∷ fill_bb ∷ harden ∷ fill_aa ∷ []

  breaks_at_four : broken_at broken ≡ Some 4
  breaks_at_four = refl

  broken_leaves : Survives small (base m) broken ≡ Lies (base (with_track m 0 (track_value aa))) ((1, track_value bb) ∷ [])
  broken_leaves = refl

  -- a stop anywhere within a merge of what was hardened leaves the merged disk to be seen
  abbrev merging : Request
  merging = record { asked = call.Merge; given = [] }

  in_merge : (s : Stack) → SurvivesWithin small (base m) (harden ∷ shadowed) merging s
      → (visible s 0 ≡ track_value null) × (visible s 1 ≡ track_value bb)
  in_merge s (inl lies) = (
    visible_top s 0 (track_value null) (as_before (track_value null) (top s 0) 0 (lies.tracks 0)),
    visible_top s 1 (track_value bb) (as_before (track_value bb) (top s 1) 1 (lies.tracks 1)),
  )
  in_merge s (inr (inl part)) = (
    visible_top s 0 (track_value null) (as_before (track_value null) (top s 0) 0 (part.tracks 0)),
    visible_top s 1 (track_value bb) (as_before (track_value bb) (top s 1) 1 (part.tracks 1)),
  )
  in_merge s (inr (inr is)) = (ap (λ (x : Stack). visible x 0) is, ap (λ (x : Stack). visible x 1) is)

  -- after the failed sync track 0 is there, and track 1 is as it was or as it was written
  after_break : (s : Stack) → Survives small (base m) broken s
      → (visible s 0 ≡ track_value aa) × ((visible s 1 ≡ unwrap_or (m 1) []) ⊎ (visible s 1 ≡ track_value bb))
  after_break (base layer) lies = (
    visible_top (base layer) 0 (track_value aa) (of_another (track_value aa) (track_value bb) (layer 0) (lies.tracks 0)),
    elim (lies.tracks 1) [
      | inl same ↦ inl (ap (λ (o : Option (List ℕ)). unwrap_or o []) same)
      | inr later ↦ inr (visible_top (base layer) 1 (track_value bb) (later.1 ∙ ap (λ (x : List ℕ). Some x) (of_this (track_value bb) later.0 later.2)))
    ],
  )
  after_break (shadow layer lower) lies = absurd (cc lies.below)
