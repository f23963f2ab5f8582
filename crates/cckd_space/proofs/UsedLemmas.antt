-- For callers: the pieces of a file whose used spaces are given.
use Rattle.std.proofs.Common.{◌≡◌, ℕ, Bool, true, ◌&&◌, ◌==◌, ◌+◌, ◌-◌, ◌<◌, nat_lt, if◌then◌else◌, List, [], ◌∷◌, ◌++◌, refl, ◌∙◌, ap}
use Rattle.std.specs.List.{filter}
use Rattle.std.proofs.lemmas.Bool.{cond_both}
use Rattle.std.proofs.lemmas.List.Elements.{filter-append}
use Rattle.cckd_base.specs.declared.space.Extent.{Extent}
use Rattle.cckd_space.specs.declared.piece.Piece.{Piece}
use Rattle.cckd_space.specs.Pieces.{AreUsedOrFree, free_runs, pieces_of, used_piece, is_free, free_piece, free_run}

cond_run : (test : Piece → Bool) (from to : ℕ) → ((n m : ℕ) → test (free_piece n m) ≡ true) → filter test (free_run from to) ≡ free_run from to
cond_run test from to all = cond_both (nat_lt from to) (free_piece from (to - from) ∷ []) [] (λ (l : List Piece). filter test l ≡ l) (λ e. rw (all from (to - from)) refl) (λ e. refl)

-- the free ones are the free runs of the file
pub free_of_pieces : (at : ℕ) (es : List Extent) (size : ℕ) → filter is_free (pieces_of at es size) ≡ free_runs at es size
free_of_pieces at [] size = cond_run is_free at size (λ n m. refl)
free_of_pieces at (e ∷ es) size =
    filter-append is_free (free_run at e.pos) (used_piece e ∷ pieces_of (e.pos + e.size) es size)
    ∙ (ap (λ (l : List Piece). l ++ filter is_free (pieces_of (e.pos + e.size) es size)) (cond_run is_free at e.pos (λ n m. refl))
    ∙ ap (λ (l : List Piece). free_run at e.pos ++ l) (free_of_pieces (e.pos + e.size) es size))

both_append : (xs ys : List Piece) → AreUsedOrFree xs → AreUsedOrFree ys → AreUsedOrFree (xs ++ ys)
both_append [] ys a b = b
both_append (x ∷ xs) ys a b = (a.0, both_append xs ys a.1 b)

run_both : (from to : ℕ) → AreUsedOrFree (free_run from to)
run_both from to = cond_both (nat_lt from to) (free_piece from (to - from) ∷ []) [] AreUsedOrFree (λ e. (refl, tt)) (λ e. tt)

-- and there are no others
pub pieces_both : (at : ℕ) (es : List Extent) (size : ℕ) → AreUsedOrFree (pieces_of at es size)
pieces_both at [] size = run_both at size
pieces_both at (e ∷ es) size = both_append (free_run at e.pos) (used_piece e ∷ pieces_of (e.pos + e.size) es size) (run_both at e.pos) (refl, pieces_both (e.pos + e.size) es size)
