-- Items that are taken in turn.
use Rattle.std.proofs.Common.{◌≡◌, ℕ, ◌+◌, ◌<◌, ◌≤◌, ◌≢◌, length, take, drop, get_or, take_all, inl, inr, cond, List, [], ◌∷◌, ◌++◌, Option, Some, None, Ok, refl, sym, ◌∙◌, ap, subst, arith, append_assoc}
use Rattle.std.specs.Option.{option_map, option_to_list, is_none}
use Rattle.std.specs.List.{flat_map}
use Rattle.std.proofs.lemmas.Grind.{flat_map-append}
use Rattle.std.proofs.lemmas.List.{append-nil, take_more, take-append-drop}
use Rattle.std.proofs.lemmas.List.Sorted.{IsPermutation-to_front}
use Rattle.cckd_base.specs.declared.space.Extent.{Extent}
use Rattle.cckd_base.specs.declared.misfit.Misfit.{Misfit}
use Rattle.cckd_base.specs.declared.misfit.Misfit.TheVariants.{Overlap}
use Rattle.cckd_base.specs.Survey.{Item, met, kept_with, misfit_beside, kept_after, misfits_after, placed_among, by_position}
use Rattle.cckd_tables.specs.declared.progress.Progress.{Progress}
use Rattle.cckd_tables.specs.declared.progress.Until.{Until}
use Rattle.cckd_tables.specs.declared.progress.Until.TheVariants.{FirstMisfit}
use Rattle.cckd_tables.specs.Inside.{TakesFront, IsFormed, AreFormed, IsUnderWay, Takes, TakesSome}
use Rattle.cckd_tables.specs.Kept.{HaveBytes, ShareNone}
use Rattle.cckd_tables.proofs.MeetLemmas.{apart_more, met_by_position}
use Rattle.cckd_tables.proofs.OrderLemmas.{same_order, all_between}

-- two rows of items
kept_append : (kept : List Extent) (is js : List Item) → kept_after kept (is ++ js) ≡ kept_after (kept_after kept is) js
kept_append kept [] js = refl
kept_append kept (i ∷ is) js = kept_append (kept_with kept i) is js

pub misfits_append : (kept : List Extent) (is js : List Item) → misfits_after kept (is ++ js) ≡ misfits_after kept is ++ misfits_after (kept_after kept is) js
misfits_append kept [] js = refl
misfits_append kept (i ∷ is) js =
    ap (λ (ms : List Misfit). option_to_list (misfit_beside kept i) ++ ms) (misfits_append (kept_with kept i) is js)
    ∙ sym (append_assoc (option_to_list (misfit_beside kept i)) _ _)

pub takes_none : (n : ℕ) (a : Progress) → IsUnderWay n a → Takes n [] a a
takes_none n a u = record { kept = refl; misfits = sym (append-nil a.misfits.items); under_way = u }

pub takes_then : (n : ℕ) (is js : List Item) (a b c : Progress) → Takes n is a b → Takes n js b c → Takes n (is ++ js) a c
takes_then n is js a b c f g = record {
  kept = g.kept ∙ ap (λ (ks : List Extent). kept_after ks js) f.kept ∙ sym (kept_append a.spaces.items is js);
  misfits = g.misfits ∙ ap (λ (ks : List Extent). b.misfits.items ++ misfits_after ks js) f.kept
      ∙ ap (λ (ms : List Misfit). ms ++ misfits_after (kept_after a.spaces.items is) js) f.misfits
      ∙ append_assoc a.misfits.items (misfits_after a.spaces.items is) (misfits_after (kept_after a.spaces.items is) js)
      ∙ sym (ap (λ (ms : List Misfit). a.misfits.items ++ ms) (misfits_append a.spaces.items is js));
  under_way = g.under_way;
}

pub takes_same : (n : ℕ) (is js : List Item) (a b : Progress) → is ≡ js → Takes n is a b → Takes n js a b
takes_same n is js a b e t = subst (λ (ks : List Item). Takes n ks a b) e t

pub some_then : (n : ℕ) (a b c : Progress) → TakesSome n a b → TakesSome n b c → TakesSome n a c
some_then n a b c f g = record { items = f.items ++ g.items; takes = takes_then n f.items g.items a b c f.takes g.takes }

-- one space
met_misfit : (kept : List Extent) (first e : Extent) → met kept e ≡ Some first → misfits_after kept (Ok (Some e) ∷ []) ≡ Overlap first e ∷ []
met_misfit kept first e h =
    ap (λ (m : Option Extent). option_to_list (option_map (λ (x : Extent). Overlap x e) m) ++ []) h

met_kept : (kept : List Extent) (first e : Extent) → met kept e ≡ Some first → kept_after kept (Ok (Some e) ∷ []) ≡ kept
met_kept kept first e h = ap (λ (m : Option Extent). cond (is_none m) (kept ++ e ∷ []) kept) h

unmet_misfit : (kept : List Extent) (e : Extent) → met kept e ≡ None → misfits_after kept (Ok (Some e) ∷ []) ≡ []
unmet_misfit kept e h = ap (λ (m : Option Extent). option_to_list (option_map (λ (x : Extent). Overlap x e) m) ++ []) h

unmet_kept : (kept : List Extent) (e : Extent) → met kept e ≡ None → kept_after kept (Ok (Some e) ∷ []) ≡ kept ++ e ∷ []
unmet_kept kept e h = ap (λ (m : Option Extent). cond (is_none m) (kept ++ e ∷ []) kept) h

pub takes_met : (n : ℕ) (a b : Progress) (first e : Extent) → IsUnderWay n a → met a.kept e ≡ Some first
    → b.spaces ≡ a.spaces → b.kept ≡ a.kept → b.misfits.items ≡ a.misfits.items ++ Overlap first e ∷ [] → Takes n (Ok (Some e) ∷ []) a b
takes_met n a b first e u h s k m =
    let meets : met a.spaces.items e ≡ Some first =
    sym (met_by_position a.spaces.items e) ∙ ap (λ (ks : List Extent). met ks e) (sym u.found) ∙ h in
    record {
      kept = ap (λ v. v.items) s ∙ sym (met_kept a.spaces.items first e meets);
      misfits = m ∙ ap (λ (ms : List Misfit). a.misfits.items ++ ms) (sym (met_misfit a.spaces.items first e meets));
      under_way = record {
        formed = subst (λ v. AreFormed n v.items) (sym s) u.formed;
        apart = subst (λ v. ShareNone v.items) (sym s) u.apart;
        found = k ∙ u.found ∙ ap (λ v. by_position v.items) (sym s);
      };
    }

formed_push : (n : ℕ) (xs : List Extent) (e : Extent) → AreFormed n xs → IsFormed n e → AreFormed n (xs ++ e ∷ [])
formed_push n [] e f g = (g, tt)
formed_push n (x ∷ xs) e f g = (f.0, formed_push n xs e f.1 g)

pub have_bytes : (n : ℕ) (xs : List Extent) → AreFormed n xs → HaveBytes xs
have_bytes n xs f = all_between (IsFormed n) (λ (e : Extent). 1 ≤ e.size) (λ e g. let s = g.some in let h = g.holds in omega arith) xs f

pub takes_unmet : (n : ℕ) (a b : Progress) (e : Extent) → IsUnderWay n a → IsFormed n e → met a.kept e ≡ None
    → b.spaces.items ≡ a.spaces.items ++ e ∷ [] → b.kept ≡ placed_among e a.kept → b.misfits ≡ a.misfits → Takes n (Ok (Some e) ∷ []) a b
takes_unmet n a b e u f h s k m =
    let unmet : met a.spaces.items e ≡ None =
    sym (met_by_position a.spaces.items e) ∙ ap (λ (ks : List Extent). met ks e) (sym u.found) ∙ h in
    let formed = formed_push n a.spaces.items e u.formed f in
    let apart = apart_more a.spaces.items e u.apart unmet in
    record {
      kept = s ∙ sym (unmet_kept a.spaces.items e unmet);
      misfits = ap (λ v. v.items) m ∙ sym (append-nil a.misfits.items)
          ∙ ap (λ (ms : List Misfit). a.misfits.items ++ ms) (sym (unmet_misfit a.spaces.items e unmet));
      under_way = record {
        formed = subst (AreFormed n) (sym s) formed;
        apart = subst ShareNone (sym s) apart;
        found = k ∙ ap (placed_among e) u.found
            ∙ same_order (a.spaces.items ++ e ∷ []) (e ∷ a.spaces.items) (have_bytes n (a.spaces.items ++ e ∷ []) formed) apart (IsPermutation-to_front a.spaces.items e)
            ∙ ap by_position (sym s);
      };
    }

-- the tables in turn
pub row_more : (entries : Extent → List Item) (tables : List Extent) (i : ℕ) (d : Extent) → i < length tables
    → flat_map entries (take i tables) ++ entries (get_or tables i d) ≡ flat_map entries (take (i + 1) tables)
row_more entries tables i d l =
    sym (ap (flat_map entries) (take_more tables i d l) ∙ flat_map-append entries (take i tables) (get_or tables i d ∷ [])
    ∙ ap (λ (is : List Item). flat_map entries (take i tables) ++ is) (append-nil (entries (get_or tables i d))))

row_parts : (entries : Extent → List Item) (tables : List Extent) (i : ℕ) → flat_map entries tables ≡ flat_map entries (take i tables) ++ flat_map entries (drop i tables)
row_parts entries tables i =
    ap (flat_map entries) (sym (take-append-drop i tables)) ∙ flat_map-append entries (take i tables) (drop i tables)

pub ended_early : (n : ℕ) (until : Until) (entries : Extent → List Item) (tables : List Extent) (i : ℕ) (a b : Progress)
    → Takes n (flat_map entries (take i tables)) a b → (until ≡ FirstMisfit) × (b.misfits.items ≢ []) → TakesFront n until (flat_map entries tables) a b
ended_early n until entries tables i a b t r = record {
  front = flat_map entries (take i tables);
  left = flat_map entries (drop i tables);
  parts = row_parts entries tables i;
  takes = t;
  reached = inr r;
}

pub went_to_the_end : (n : ℕ) (until : Until) (entries : Extent → List Item) (tables : List Extent) (i : ℕ) (a b : Progress)
    → Takes n (flat_map entries (take i tables)) a b → length tables ≤ i → TakesFront n until (flat_map entries tables) a b
went_to_the_end n until entries tables i a b t l = record {
  front = flat_map entries (take i tables);
  left = [];
  parts = ap (flat_map entries) (sym (take_all i tables l)) ∙ sym (append-nil (flat_map entries (take i tables)));
  takes = t;
  reached = inl refl;
}
