-- The second header of an image, written anew: what its bytes say, and what a stop leaves.
use Rattle.std.specs.Prelude.{ℕ, ◌≡◌, ◌+◌, ◌≤◌, List, ◌++◌, length, Result, Ok, Err}
use Rattle.cckd_base.specs.declared.geometry.Layout.{Layout}
use Rattle.cckd_base.specs.Geometry.{group_count}
use Rattle.cckd_image.specs.declared.header.CckdHeader.{CckdHeader}
use Rattle.cckd_image.specs.Image.{order_by, cckd_header_of}
use Rattle.cckd_shelf.specs.World.{after_write, after_sync}
use Rattle.cckd_shelf.specs.Seen.{Seen, Makes}
use Rattle.cckd_tables.specs.declared.device.Device.{Device}
use Rattle.cckd_tables.specs.declared.device.Device.TheVariants.{Read, Write, Sync}

-- the bytes of a second header, behind whatever first one
pub record SpellsSecond (bytes : List ℕ) (c : CckdHeader) : Type 0 where
  pub long : length bytes ≡ 512
  pub back : (front : List ℕ) → length front ≡ 512 → cckd_header_of (front ++ bytes) ≡ c

-- a second header that says this layout
pub record FitsLayout (l : Layout) (c : CckdHeader) : Type 0 where
  pub order : order_by c.options ≡ l.order
  pub words : c.words ≡ group_count l.geo
  pub entries : c.entries ≡ 256
  pub cylinders : c.cyls ≡ l.geo.cyls
  pub format : c.null_fmt ≡ l.null_fmt

-- a write that was Ok and its sync: what is done to the world
abbrev pub MakesSecond : ℕ → List ℕ → Result (Unit {0}) Device → Seen → Seen → Type 0
MakesSecond slot bytes (Ok done) old new = Makes (λ w. after_sync slot (after_write slot 512 bytes w)) old new
MakesSecond slot bytes (Err fault) old new = Unit {0}

-- the count of calls rose by at most two
pub record CalledTwice (old new : Seen) : Type 0 where
  pub fell : old.calls ≤ new.calls
  pub twice : new.calls ≤ old.calls + 2

-- a fault of a call that writes or syncs
abbrev pub WritesOrSyncs : Device → Type 0
WritesOrSyncs Read = ⊥
WritesOrSyncs Write = Unit {0}
WritesOrSyncs Sync = Unit {0}
