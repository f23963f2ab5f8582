use Rattle.std.proofs.Common.{◌≡◌, ◌<◌, length, sym, Option, Some, None, IfSome, IfNone, ℕ, List}
use Rattle.cckd_memory.specs.declared.bytes.FileIn.{FileIn}
use Rattle.cckd_memory.specs.Inside.{place_in, IsFirst, HasNone}
use Rattle.cckd_memory.proofs.FileLemmas.{first_at, none_at}
use Rattle.cckd_memory.proofs.files.find.Goals as goal

none : (files : List FileIn) (name : List ℕ) (at : Option ℕ) → at ≡ place_in files name → IfNone at (HasNone files name)
none files name None e = none_at files name (sym e)
none files name (Some at) e = tt

first : (files : List FileIn) (name : List ℕ) (at : Option ℕ) → at ≡ place_in files name → IfSome at (λ i. IsFirst files name i)
first files name None e = tt
first files name (Some at) e = first_at files name at (sym e)

within : (files : List FileIn) (name : List ℕ) (at : Option ℕ) → at ≡ place_in files name → IfSome at (λ i. i < length files)
within files name None e = tt
within files name (Some at) e = (first_at files name at (sym e)).within

pub returns : goal.returns
returns c = record {
  none = none _ _ _ c.place_of.ensures;
  first = first _ _ _ c.place_of.ensures;
  within = within _ _ _ c.place_of.ensures;
}
