-- Texts that are put piece by piece.
use Rattle.std.proofs.Common.{◌≡◌, ℕ, List, ◌++◌, ap, subst, append_assoc}
use Rattle.cckd_dasdinit.specs.Text.{counts_text}
use Rattle.cckd_base.specs.Put.{IsPut}
use Rattle.cckd_base.proofs.PutLemmas.{puts_join, put_as}

-- four of them
pub four_put : (x y z w : List ℕ) (a b c d : ℕ) (old first second third new : List ℕ) → IsPut 0 a x old first → IsPut a b y first second → IsPut b c z second third
    → IsPut c d w third new → IsPut 0 d ((x ++ (y ++ z)) ++ w) old new
four_put x y z w a b c d old first second third new one two three four =
    let xy = puts_join 0 a b x y old first second one two in
    let xyz = puts_join 0 b c (x ++ y) z old second third xy three in
    put_as 0 d (((x ++ y) ++ z) ++ w) ((x ++ (y ++ z)) ++ w) old new (ap (λ (t : List ℕ). t ++ w) (append_assoc x y z))
    (puts_join 0 c d ((x ++ y) ++ z) w old third new xyz four)

-- counts that are put as other numbers are put as these
pub counts_put : (c h g l c' h' g' l' at end : ℕ) (old new : List ℕ) → c ≡ c' → h ≡ h' → g ≡ g' → l ≡ l' → IsPut at end (counts_text c h g l) old new
    → IsPut at end (counts_text c' h' g' l') old new
counts_put c h g l c' h' g' l' at end old new c_is h_is g_is l_is put =
    subst (λ (n : ℕ). IsPut at end (counts_text n h' g' l') old new) c_is
    (subst (λ (n : ℕ). IsPut at end (counts_text c n g' l') old new) h_is
    (subst (λ (n : ℕ). IsPut at end (counts_text c h n l') old new) g_is
    (subst (λ (n : ℕ). IsPut at end (counts_text c h g n) old new) l_is put)))
