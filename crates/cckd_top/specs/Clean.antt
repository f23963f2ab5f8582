-- Files in which a check finds nothing amiss.
use Rattle.std.specs.Prelude.{◌≡◌, ℕ, ◌≤◌, true, List, []}
use Rattle.cckd_base.specs.Header.{headers_of, is_present, layout_of}
use Rattle.cckd_check.specs.Damage.{damage, unread}
use Rattle.cckd_check.specs.Look.{IsImageOf}

-- a check of the lowest level finds nothing amiss in a file, and nothing that it can't judge: it is an image whose tables are sound
pub record ChecksClean (file : List ℕ) : Type 0 where
  pub headed : IsImageOf (layout_of (headers_of file)) file
  pub whole : damage (layout_of (headers_of file)) file 0 ≡ []
  pub judged : unread (layout_of (headers_of file)) file 0 ≡ 0

-- so it does in each of nine slots that is there
abbrev pub AreClean : (ℕ → List ℕ) → Type 0
AreClean files = (slot : ℕ) → slot ≤ 8 → is_present (files slot) ≡ true → ChecksClean (files slot)
