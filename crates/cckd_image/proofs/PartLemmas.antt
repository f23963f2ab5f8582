-- Parts written one behind another.
use Rattle.std.proofs.Common.{◌≡◌, ℕ, List, [], ◌∷◌, ◌++◌, ◌+◌, ◌<◌, length, take, drop, refl, sym, ◌∙◌, ap, arith, suc}
use Rattle.std.proofs.lemmas.List.{append_assoc}
use Rattle.std.specs.Prelude.{slice_index}
use Rattle.std.proofs.Math.Seq.{take-add}
use Rattle.std.proofs.lemmas.List.{take_all, drop-drop, drop_more}
use Rattle.cckd_base.specs.Numbers.{bytes_at}

-- parts behind a front, one after another
abbrev pub behind : List ℕ → List (List ℕ) → List ℕ
behind front [] = front
behind front (part ∷ parts) = behind (front ++ part) parts

-- the same parts, each before all that follow
abbrev pub before : List ℕ → List (List ℕ) → List ℕ
before part [] = part
before part (next ∷ parts) = part ++ before next parts

behind_longer : (a b : List ℕ) (parts : List (List ℕ)) → behind (a ++ b) parts ≡ a ++ behind b parts
behind_longer a b [] = refl
behind_longer a b (part ∷ parts) =
    ap (λ (x : List ℕ). behind x parts) (append_assoc a b part) ∙ behind_longer a (b ++ part) parts

pub behind_is_before : (part : List ℕ) (parts : List (List ℕ)) → behind part parts ≡ before part parts
behind_is_before part [] = refl
behind_is_before part (next ∷ parts) = behind_longer part next parts ∙ ap (λ (x : List ℕ). part ++ x) (behind_is_before next parts)

-- a part at a place, and what follows it
pub joined : (bytes : List ℕ) (place n m : ℕ) {part rest : List ℕ} → part ≡ bytes_at bytes place n
    → rest ≡ bytes_at bytes (place + n) m → part ++ rest ≡ bytes_at bytes place (n + m)
joined bytes place n m e f =
    (λ i. e i ++ f i) ∙ ap (λ (x : List ℕ). bytes_at bytes place n ++ take m x) (sym (drop-drop n place bytes))
    ∙ sym (take-add n m (drop place bytes))

-- a byte at a place, and what follows it
pub joined_byte : (bytes : List ℕ) (place m : ℕ) {rest : List ℕ} → place < length bytes → rest ≡ bytes_at bytes (place + 1) m
    → slice_index bytes place ∷ rest ≡ bytes_at bytes place (suc m)
joined_byte bytes place m within f =
    ap (λ (x : List ℕ). slice_index bytes place ∷ x) f ∙ ap (take (suc m)) (sym (drop_more bytes place 0 within))

-- the two halves of the headers
pub halves : (headers first second : List ℕ) → length headers ≡ 1024 → first ≡ bytes_at headers 0 512
    → second ≡ bytes_at headers 512 512 → first ++ second ≡ headers
halves headers first second long e f = joined headers 0 512 512 e f ∙ take_all 1024 headers (omega arith)
