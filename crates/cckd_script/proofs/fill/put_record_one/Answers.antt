use Rattle.std.proofs.Common.{ℕ, ◌∷◌, [], ◌++◌, replicate, sym, ap}
use Rattle.std.specs.Int.{w16, to_be_bytes}
use Rattle.std.proofs.lemmas.List.{length-replicate}
use Rattle.cckd_base.specs.Track.{address_bytes}
use Rattle.cckd_base.proofs.PutLemmas.{puts_join, put_as}
use Rattle.cckd_script.proofs.fill.put_record_one.Goals as goal

pub returns : goal.returns
returns c =
    let body = replicate c.args.count c.args.byte in
    put_as _ _ _ _ _ _
    (ap (λ (n : ℕ). address_bytes c.args.at.cyl c.args.at.head ++ 1 ∷ 0 ∷ [] ++ to_be_bytes w16 n ++ body) (sym (length-replicate c.args.count c.args.byte)))
    (puts_join _ _ _ _ _ _ _ _ c.put_count-end.ensures c.put_equal.ensures)
