use Rattle.std.proofs.Common.{ℕ, ◌≡◌, List, ◌∷◌, [], ◌++◌, ◌∙◌, sym, ap, append_assoc}
use Rattle.std.proofs.lemmas.List.{append-nil}
use Rattle.cckd_base.specs.Track.{address_bytes, spelling, null_record_zero, end_mark}
use Rattle.cckd_base.proofs.PutLemmas.{puts_join, put_as}
use Rattle.cckd_script.specs.Filled.{filled_record}
use Rattle.cckd_script.proofs.fill.put_filled.Goals as goal

pieces : (a b c d : List ℕ) → ((a ++ b) ++ c) ++ d ≡ a ++ (b ++ (c ++ [])) ++ d
pieces a b c d =
    ap (λ (s : List ℕ). s ++ d) (append_assoc a b c ∙ ap (λ (s : List ℕ). a ++ (b ++ s)) (sym (append-nil c)))

pub returns-clause-put : goal.returns-clause-put
returns-clause-put c =
    let at = c.args.at in
    put_as _ _ _ _ _ _
    (pieces (0 ∷ address_bytes at.cyl at.head) (spelling (null_record_zero at)) (spelling (filled_record at c.args.count c.args.byte)) end_mark)
    (puts_join _ _ _ _ _ _ _ _
    (puts_join _ _ _ _ _ _ _ _
    (puts_join _ _ _ _ _ _ _ _ (puts_join _ _ _ _ _ _ _ _ c.put_bytes-end.ensures c.put_address-end.ensures) c.put_record_zero-end.ensures)
    c.put_record_one-end.ensures)
    c.put_bytes.ensures)
