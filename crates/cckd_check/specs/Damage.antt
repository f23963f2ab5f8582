-- What is amiss in an image, at each level of a check, and what can't be judged.
use Rattle.std.specs.Prelude.{ℕ, zero, suc, ◌+◌, ◌==◌, nat_lt, Bool, false, if◌then◌else◌, List, [], ◌∷◌, ◌++◌, map, find, Option, Some, None}
use Rattle.cckd_base.specs.declared.geometry.Geometry.{Geometry}
use Rattle.cckd_base.specs.declared.geometry.Layout.{Layout}
use Rattle.cckd_base.specs.declared.fault.TrackFault.{TrackFault}
use Rattle.cckd_base.specs.declared.fault.TrackFault.TheVariants.{Compressed}
use Rattle.cckd_base.specs.declared.space.Extent.{Extent}
use Rattle.cckd_base.specs.declared.space.Owner.{Owner}
use Rattle.cckd_base.specs.declared.space.Owner.TheVariants as owner
use Rattle.cckd_base.specs.declared.damage.Damage.{Damage}
use Rattle.cckd_base.specs.declared.damage.Damage.TheVariants as amiss
use Rattle.cckd_base.specs.Geometry.{track_count}
use Rattle.cckd_base.specs.Numbers.{bytes_at}
use Rattle.cckd_base.specs.Survey.{misfits, used_spaces}
use Rattle.cckd_base.specs.Track.{home_fault, track_fault}
use Rattle.cckd_check.specs.Chain.{free_fault}

-- the first fault that a check of a level looks for: from level 2 on those of the home address, and at level 3 all
abbrev pub fault_at_level : ℕ → Geometry → ℕ → List ℕ → Option TrackFault
fault_at_level level g t bytes =
    if nat_lt level 2 then None else if level == 2 then home_fault g t bytes else track_fault g t bytes

-- a space is that of a track
abbrev pub is_owned_by : ℕ → Owner → Bool
is_owned_by t owner.Nobody = false
is_owned_by t owner.Header = false
is_owned_by t (owner.Table group) = false
is_owned_by t (owner.Track u) = u == t

abbrev pub is_space_of : ℕ → Extent → Bool
is_space_of t e = is_owned_by t e.owner

-- the first fault at a level of the bytes in a space, if a track has one
abbrev pub fault_in : ℕ → Geometry → List ℕ → ℕ → Option Extent → Option TrackFault
fault_in level g file t None = None
fault_in level g file t (Some e) = fault_at_level level g t (bytes_at file e.pos e.len)

-- the first fault at a level of the stored bytes that are kept of a track
abbrev pub fault_of : ℕ → Geometry → List Extent → List ℕ → ℕ → Option TrackFault
fault_of level g used file t = fault_in level g file t (find (is_space_of t) used)

-- a fault of a track is damage, but for a compression, behind which nothing can be judged
abbrev pub damage_by : ℕ → Option TrackFault → List Damage
damage_by t None = []
damage_by t (Some (Compressed byte)) = []
damage_by t (Some fault) = amiss.Track t fault ∷ []

-- a compressed track is unread
abbrev pub unread_by : Option TrackFault → ℕ
unread_by None = 0
unread_by (Some (Compressed byte)) = 1
unread_by (Some _) = 0

-- the damage of the first n tracks, in their order
abbrev pub damage_below : ℕ → Geometry → List Extent → List ℕ → ℕ → List Damage
damage_below level g used file zero = []
damage_below level g used file (suc n) = damage_below level g used file n ++ damage_by n (fault_of level g used file n)

-- how many of them are unread
abbrev pub unread_below : ℕ → Geometry → List Extent → List ℕ → ℕ → ℕ
unread_below level g used file zero = 0
unread_below level g used file (suc n) = unread_below level g used file n + unread_by (fault_of level g used file n)

-- the damage of the chain of free spaces, which is looked at from level 1 on
abbrev pub bad_free : Option ℕ → List Damage
bad_free None = []
bad_free (Some at) = amiss.BadFree at ∷ []

abbrev pub chain_damage : ℕ → Layout → List ℕ → List Damage
chain_damage level l file = if level == 0 then [] else bad_free (free_fault l file)

-- All that a check of a level finds amiss in an image: what its tables have that can't be, in the order of the survey; the
-- chain of free spaces; and the kept tracks, in their order.
unfoldable pub damage : Layout → List ℕ → ℕ → List Damage
damage l file level =
    map amiss.Misfit (misfits l file) ++ (chain_damage level l file ++ damage_below level l.geo (used_spaces l file) file (track_count l.geo))

-- how many of the kept tracks a check of a level can't judge
unfoldable pub unread : Layout → List ℕ → ℕ → ℕ
unread l file level = unread_below level l.geo (used_spaces l file) file (track_count l.geo)
