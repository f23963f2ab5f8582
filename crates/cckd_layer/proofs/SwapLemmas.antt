-- Which of two places was claimed first makes no difference.
use Rattle.std.proofs.Common.{List, ◌∷◌, sym, inl, inr}
use Rattle.cckd_shelf.specs.World.{World, file_of}
use Rattle.cckd_base.specs.declared.space.Extent.{Extent}
use Rattle.cckd_layer.specs.Current.{IsInUse, IsReplaced, IsPlaced, AreClaims}
use Rattle.cckd_layer.specs.Mounted.{LayerState}
use Rattle.cckd_layer.specs.Writes.{AgreesWith}
use Rattle.cckd_layer.proofs.AccountLemmas.{accounts_same}

-- what is placed is still placed
placed_swap : (a b : Extent) (rest : List Extent) (s : LayerState) (e : Extent) → IsPlaced s.tables.stages (a ∷ b ∷ rest) e → IsPlaced s.tables.stages (b ∷ a ∷ rest) e
placed_swap a b rest s e (inl new) = inl new
placed_swap a b rest s e (inr (inl first)) = inr (inr (inl first))
placed_swap a b rest s e (inr (inr (inl second))) = inr (inl second)
placed_swap a b rest s e (inr (inr (inr other))) = inr (inr (inr other))

-- claims at places of their own still are
claims_swap : (a b : Extent) (rest : List Extent) → AreClaims (a ∷ b ∷ rest) → AreClaims (b ∷ a ∷ rest)
claims_swap a b rest (first, apart, (second, below, others)) = (second, λ among. elim among [ inl same ↦ apart (inl (sym same)) | inr more ↦ below more ], (first, λ among. apart (inr among), others))

-- a layer agrees with its file, whichever of two places was claimed first
pub agrees_swap : (a b : Extent) (rest : List Extent) (s : LayerState) (w : World) → AgreesWith (a ∷ b ∷ rest) s w → AgreesWith (b ∷ a ∷ rest) s w
agrees_swap a b rest s w g =
    let l = s.tables.layout in
    let n = s.tables.stages in
    let file = file_of w s.slot in
    let now = g.stands.now in
    record {
      stands = record {
        sure = g.stands.sure;
        now = record {
          spans = now.spans;
          accounts = accounts_same (IsInUse l n file) (IsReplaced l n file) (IsPlaced n (a ∷ b ∷ rest)) (IsInUse l n file) (IsReplaced l n file) (IsPlaced n (b ∷ a ∷ rest)) s.plan.pieces
              (λ e u. u) (λ e u. u) (λ e r. r) (λ e r. r) (placed_swap a b rest s) (placed_swap b a rest s) now.accounts;
          claims_are = claims_swap a b rest now.claims_are;
          entries = now.entries;
          words = now.words;
          lacks = now.lacks;
        };
        each = g.stands.each;
        marked = g.stands.marked;
      };
      are = g.are;
      fits = g.fits;
      empty = g.empty;
      alone = g.alone;
    }
