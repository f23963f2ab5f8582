-- What calls make of the groups that get new tables, and of where the pieces end.
use Rattle.cckd_layer.proofs.ClaimLemmas.{stages_word}
use Rattle.std.proofs.lemmas.Bool.{cases_eq}
use Rattle.cckd_base.specs.declared.entry.L2Entry.{L2Entry}
use Rattle.std.proofs.Common.{◌≡◌, ◌≤◌, ℕ, Option, IsSome, subst, inl, inr, arith}
use Rattle.cckd_tables.specs.Staging.{IsMoved}
use Rattle.cckd_layer.specs.Stands.{nothing_staged}
use Rattle.cckd_layer.specs.Mounted.{LayerState}
use Rattle.cckd_layer.specs.Writes.{IsSameFile, with_table, with_track}
use Rattle.cckd_layer.specs.Justified.{StaysInRoom, AddsInRoom}

pub room_same : (s : LayerState) → StaysInRoom s s
room_same s = record { tables = λ g moved. moved; empty = λ none. none; size = omega arith }

none_moved : (g : ℕ) → IsMoved g nothing_staged → ⊥
none_moved g h = cc

-- one after the other, under the same limit
pub room_then : (s m n : LayerState) → IsSameFile s m → StaysInRoom s m → StaysInRoom m n → StaysInRoom s n
room_then s m n same h k = record {
  tables = λ g moved. h.tables g (k.tables g moved);
  empty = λ none. k.empty (h.empty none);
  size = (let a = h.size in let b = k.size in let l = same.limit in omega (arith, a, b, l));
}

pub room_adds : (g : ℕ) (s m n : LayerState) → IsSameFile s m → StaysInRoom s m → AddsInRoom g m n → AddsInRoom g s n
room_adds g s m n same h k = record {
  tables = λ x moved. elim (k.tables x moved) [ inl was ↦ inl (h.tables x was) | inr own ↦ inr own ];
  size = (let a = h.size in let b = k.size in let l = same.limit in omega (arith, a, b, l));
}

-- a new table was staged for a group
pub room_table : (g pos : ℕ) (s next : LayerState) → next ≡ with_table g pos s next.plan → next.plan.size ≡ s.plan.size → AddsInRoom g s next
room_table g pos s next rest sized = record {
  tables = λ h moved. elim (cases_eq g h) [
    | inl same ↦ inr same
    | inr other ↦ inl (subst (λ (o : Option ℕ). IsSome o) ((stages_word g pos s.tables.stages).others h other) (subst (λ (x : LayerState). IsMoved h x.tables.stages) rest moved))
  ];
  size = omega (arith, sized);
}

-- and behind it an entry for a track
pub room_track : (g t : ℕ) (e : L2Entry) (s m n : LayerState) → IsSameFile s m → AddsInRoom g s m → n ≡ with_track t e m n.plan → n.plan.size ≤ m.plan.size → AddsInRoom g s n
room_track g t e s m n same h rest low = record {
  tables = λ x moved. h.tables x (subst (λ (y : LayerState). IsMoved x y.tables.stages) rest moved);
  size = (let a = h.size in omega (arith, a, low));
}
