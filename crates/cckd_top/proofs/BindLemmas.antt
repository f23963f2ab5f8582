-- Slots that get the files of a disk, one after another.
use Rattle.std.proofs.Common.{◌≡◌, ℕ, ◌+◌, ◌<◌, ◌≤◌, Option, Some, List, refl, ◌∙◌, ap, subst}
use Rattle.std.specs.Option.{SomeIff}
use Rattle.cckd_shelf.specs.declared.fault.Faults.{Faults}
use Rattle.cckd_shelf.specs.World.{World, after_bind}
use Rattle.cckd_top.specs.Names.{slot_name, after_binds}
use Rattle.std.proofs.Common.{add-one}

-- the slots below this one have their files
pub record IsBound (tells : Type 0) (old now : World) (before after : Faults) (file : List ℕ) (slots : ℕ) : Type 0 where
  pub bound : tells → now ≡ after_binds file slots old
  pub quiet : after ≡ before

pub bound_none : (tells : Type 0) (w : World) (f : Faults) (file : List ℕ) → IsBound tells w w f f file 0
bound_none tells w f file = record { bound = λ told. refl; quiet = refl }

-- the slot of a number is the number
pub slot_is : (found : Option ℕ) (slot number : ℕ) → SomeIff found (number ≤ 8) number → found ≡ Some slot → slot ≡ number
slot_is found slot number made e = let here = subst (λ (o : Option ℕ). SomeIff o (number ≤ 8) number) e made in here.1

-- a slot more
pub bound_more : (tells : Type 0) (old now then : World) (before after later : Faults) (file : List ℕ) (n slot : ℕ)
    → IsBound tells old now before after file n → slot ≡ n
    → (tells → then ≡ after_bind slot (slot_name file slot) now) → later ≡ after
    → IsBound tells old then before later file (n + 1)
bound_more tells old now then before after later file n slot so_far at bound fine = record {
  bound = λ told. rw (add-one n)
      (subst (λ (s : ℕ). then ≡ after_bind s (slot_name file s) now) at (bound told)
      ∙ ap (after_bind n (slot_name file n)) (so_far.bound told));
  quiet = fine ∙ so_far.quiet;
}
