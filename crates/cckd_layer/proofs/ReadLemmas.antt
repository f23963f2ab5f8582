-- The answer to a read, from the stored bytes to what they say.
use Rattle.std.proofs.Common.{◌≡◌, ℕ, List, ◌++◌, length, take, drop, Option, Some, None, Result, Ok, Err, IfOk, OnOk, IfErr, refl, sym, ◌∙◌, ap, subst}
use Rattle.std.specs.Option.{option_map}
use Rattle.std.proofs.Math.Seq.{take-append_seam, drop-append_seam}
use Rattle.cckd_base.specs.declared.fault.TrackFault.{TrackFault}
use Rattle.cckd_base.specs.declared.layer_fault.LayerFault.{LayerFault}
use Rattle.cckd_layer.specs.declared.held.Held.{Held}
use Rattle.cckd_layer.specs.declared.held.Held.TheVariants.{Here, Below}
use Rattle.cckd_layer.specs.Reads.{Answers, fault_in, CheckRefuses, IsReadRefusal}

len_of : Held → ℕ
len_of (Here len) = len
len_of Below = 0

-- the front of the buffer is the bytes
pub here_is : (o : Option (List ℕ)) (len : ℕ) (old new : List ℕ) → Answers o (Here len) old new → o ≡ Some (take len new)
unfolding len_of
here_is None len old new a = absurd (let e : Here len ≡ Below = a.said in cc)
here_is (Some bytes) len old new a =
    let long : len ≡ length bytes = ap len_of a.said in
    sym (ap (λ (b : List ℕ). Some b) (ap (λ (n : ℕ). take n new) long ∙ ap (take (length bytes)) a.filled ∙ take-append_seam bytes (drop (length bytes) old)))

-- and what is behind it is as it was
here_rest : (o : Option (List ℕ)) (len : ℕ) (old new : List ℕ) → Answers o (Here len) old new → drop len new ≡ drop len old
unfolding len_of
here_rest None len old new a = absurd (let e : Here len ≡ Below = a.said in cc)
here_rest (Some bytes) len old new a =
    let long : len ≡ length bytes = ap len_of a.said in
    ap (λ (n : ℕ). drop n new) long ∙ ap (drop (length bytes)) a.filled ∙ drop-append_seam bytes (drop (length bytes) old) ∙ ap (λ (n : ℕ). drop n old) (sym long)

here_long : (o : Option (List ℕ)) (len : ℕ) (old new : List ℕ) → Answers o (Here len) old new → length (take len new) ≡ len
unfolding len_of
here_long None len old new a = absurd (let e : Here len ≡ Below = a.said in cc)
here_long (Some bytes) len old new a = let e : Some bytes ≡ Some (take len new) = here_is (Some bytes) len old new a in let f : bytes ≡ take len new = cc in ap length (sym f) ∙ sym (ap len_of a.said)

-- what the bytes say, in their place
pub then_settled : (value : List ℕ → List ℕ) (o : Option (List ℕ)) (len : ℕ) (old mid new : List ℕ) (r : Result Held LayerFault) → Answers o (Here len) old mid
    → OnOk r (length (value (take len mid)) ≡ length (take len mid))
    → IfOk r (λ held. Answers (Some (value (take len mid))) held mid new)
    → IfOk r (λ held. Answers (option_map value o) held old new)
then_settled value o len old mid new (Err why) a long h = h
then_settled value o len old mid new (Ok held) a long h =
    let is : o ≡ Some (take len mid) = here_is o len old mid a in
    let n : length (value (take len mid)) ≡ len = long ∙ here_long o len old mid a in
    subst (λ (x : Option (List ℕ)). Answers (option_map value x) held old new) (sym is)
    (record {
      said = h.said;
      filled = h.filled
          ∙ ap (λ (m : ℕ). value (take len mid) ++ drop m mid) n
          ∙ ap (λ (s : List ℕ). value (take len mid) ++ s) (here_rest o len old mid a)
          ∙ ap (λ (m : ℕ). value (take len mid) ++ drop m old) (sym n);
    })

-- the check of the front of the buffer is that of the bytes
pub then_checked : (check : List ℕ → Option TrackFault) (o : Option (List ℕ)) (len : ℕ) (old mid : List ℕ) (r : Result Held LayerFault) → Answers o (Here len) old mid
    → OnOk r (check (take len mid) ≡ None) → OnOk r (fault_in check o ≡ None)
then_checked check o len old mid r a h = subst (λ (x : Option (List ℕ)). OnOk r (fault_in check x ≡ None)) (sym (here_is o len old mid a)) h

refused : (found : Option TrackFault) (why : LayerFault) → CheckRefuses found why → IsReadRefusal found why
refused None why h = absurd h
refused (Some fault) why h = subst (IsReadRefusal (Some fault)) (sym h) refl

pub then_refused : (check : List ℕ → Option TrackFault) (o : Option (List ℕ)) (len : ℕ) (old mid : List ℕ) (r : Result Held LayerFault) → Answers o (Here len) old mid
    → IfErr r (CheckRefuses (check (take len mid))) → IfErr r (IsReadRefusal (fault_in check o))
then_refused check o len old mid (Ok held) a h = h
then_refused check o len old mid (Err why) a h =
    subst (λ (x : Option (List ℕ)). IsReadRefusal (fault_in check x) why) (sym (here_is o len old mid a)) (refused (check (take len mid)) why h)
