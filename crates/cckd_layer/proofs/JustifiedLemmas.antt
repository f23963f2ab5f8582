-- A layer that finds no room tells why, by its file alone.
use Rattle.cckd_layer.proofs.ClosedLayerLemmas.{ends_with}
use Rattle.cckd_layer.proofs.SurveyedLemmas.{found_whole}
use Rattle.cckd_layer.proofs.ClosedImageLemmas.{pieces_are}
use Rattle.cckd_layer.proofs.StandLemmas.{stands_sits}
use Rattle.cckd_base.specs.Survey.{used_spaces}
use Rattle.cckd_layer.specs.Stands.{nothing_staged}
use Rattle.std.proofs.Common.{◌≡◌, ◌⊎◌, ℕ, zero, suc, ◌+◌, ◌*◌, ◌-◌, ◌/◌, ◌%◌, ◌<◌, ◌≤◌, ◌==◌, ◌&&◌, not, Bool, true, false, cond, List, [], ◌∷◌, length, Option, Some, None, IsSome, refl, sym, ◌∙◌, ap, subst, inl, inr, arith}
use Rattle.std.proofs.lemmas.Bool.{cases_eq, cond-true, cond-false, eq-eqb, ne_eqb}
use Rattle.std.specs.Option.{option_map}
use Rattle.cckd_shelf.specs.World.{World, file_of}
use Rattle.cckd_base.specs.declared.geometry.Layout.{Layout}
use Rattle.cckd_base.specs.declared.space.Extent.{Extent}
use Rattle.cckd_base.specs.declared.space.Full.{Full}
use Rattle.cckd_base.specs.Entry.{see_parent, word_at}
use Rattle.cckd_space.specs.declared.piece.Piece.{Piece}
use Rattle.cckd_space.specs.Pieces.{IsLaid, first, has_room, aligned_up, used_end, reserved_piece, largest, pieces_of}
use Rattle.cckd_space.specs.Plan.{Plan, size_with, with_reserved, reserved_by, size_at}
use Rattle.cckd_space.proofs.LaidLemmas.{up, used_end_within, laid_reserved_in, laid_appended}
use Rattle.cckd_tables.specs.Staging.{Stages, IsMoved, place_for}
use Rattle.cckd_tables.specs.Looking.{HasAlignedTable}
use Rattle.cckd_layer.specs.Current.{IsPlaced, NamesAligned, Current}
use Rattle.cckd_layer.specs.Mounted.{LayerState}
use Rattle.cckd_layer.specs.Puts.{IsReserved, HasNoRoom}
use Rattle.cckd_layer.specs.Writes.{IsDenied, HaveNoPlaces, claimed_view, with_plan}
use Rattle.cckd_layer.specs.Preparing.{WantsTable, LacksRoom}
use Rattle.cckd_layer.specs.Justified.{names_aligned, lacking, IsOneOf, IsJustified, Attempt}
use Rattle.cckd_layer.proofs.SpanLemmas.{placed_end}

-- ---- numbers in lists, each once

abbrev without : ℕ → List ℕ → List ℕ
without g [] = []
without g (x ∷ xs) = cond (x == g) xs (x ∷ without g xs)

abbrev AreDistinct : List ℕ → Type 0
AreDistinct [] = Unit {0}
AreDistinct (g ∷ gs) = (IsOneOf g gs → ⊥) × AreDistinct gs

without_same : (g x : ℕ) (xs : List ℕ) → x ≡ g → without g (x ∷ xs) ≡ xs
without_same g x xs e = cond-true (x == g) xs (x ∷ without g xs) (eq-eqb x g e)

without_other : (g x : ℕ) (xs : List ℕ) → (x ≡ g → ⊥) → without g (x ∷ xs) ≡ x ∷ without g xs
without_other g x xs e = cond-false (x == g) xs (x ∷ without g xs) (ne_eqb x g e)

lacking_step : (word : ℕ → ℕ) (x : ℕ) (xs ys : List ℕ) → lacking word xs ≡ suc (lacking word ys) → lacking word (x ∷ xs) ≡ suc (lacking word (x ∷ ys))
lacking_step word x xs ys e = by (names_aligned (word x))
  where
    by : (b : Bool) → cond b (lacking word xs) (suc (lacking word xs)) ≡ suc (cond b (lacking word ys) (suc (lacking word ys)))
    by true = e
    by false = ap (λ (n : ℕ). suc n) e

lacking_without : (word : ℕ → ℕ) (g : ℕ) (xs : List ℕ) → IsOneOf g xs → names_aligned (word g) ≡ false → lacking word xs ≡ suc (lacking word (without g xs))
lacking_without word g [] there none = absurd there
lacking_without word g (x ∷ xs) there none = by (cases_eq x g) there (λ later. lacking_without word g xs later none)
  where
    by : (x ≡ g) ⊎ (x ≡ g → ⊥) → (x ≡ g) ⊎ IsOneOf g xs → (IsOneOf g xs → lacking word xs ≡ suc (lacking word (without g xs))) → lacking word (x ∷ xs) ≡ suc (lacking word (without g (x ∷ xs)))
    by (inl same) at next =
        cond-false (names_aligned (word x)) (lacking word xs) (suc (lacking word xs)) (ap (λ (k : ℕ). names_aligned (word k)) same ∙ none)
        ∙ ap (λ (l : List ℕ). suc (lacking word l)) (sym (without_same g x xs same))
    by (inr other) (inl same) next = absurd (other same)
    by (inr other) (inr later) next =
        lacking_step word x xs (without g xs) (next later)
        ∙ ap (λ (l : List ℕ). suc (lacking word l)) (sym (without_other g x xs other))

one_without : (g h : ℕ) (xs : List ℕ) → (h ≡ g → ⊥) → IsOneOf h xs → IsOneOf h (without g xs)
one_without g h [] apart there = absurd there
one_without g h (x ∷ xs) apart there = by (cases_eq x g) there (λ later. one_without g h xs apart later)
  where
    by : (x ≡ g) ⊎ (x ≡ g → ⊥) → (x ≡ h) ⊎ IsOneOf h xs → (IsOneOf h xs → IsOneOf h (without g xs)) → IsOneOf h (without g (x ∷ xs))
    by (inl same) (inl here) next = absurd (apart (sym here ∙ same))
    by (inl same) (inr later) next = subst (IsOneOf h) (sym (without_same g x xs same)) later
    by (inr other) (inl here) next = subst (IsOneOf h) (sym (without_other g x xs other)) (inl here)
    by (inr other) (inr later) next = subst (IsOneOf h) (sym (without_other g x xs other)) (inr (next later))

-- distinct groups that lack a table are no more than those that lack one of a list that has them
no_more : (word : ℕ → ℕ) (gs xs : List ℕ) → AreDistinct gs → ((g : ℕ) → IsOneOf g gs → IsOneOf g xs) → ((g : ℕ) → IsOneOf g gs → names_aligned (word g) ≡ false) → length gs ≤ lacking word xs
no_more word [] xs d all none = omega arith
no_more word (g ∷ gs) xs d all none =
    let rest : length gs ≤ lacking word (without g xs) = no_more word gs (without g xs) d.1
    (λ h later. one_without g h xs (λ same. d.0 (subst (λ (k : ℕ). IsOneOf k gs) same later)) (all h (inr later)))
    (λ h later. none h (inr later)) in
    omega (arith, rest, lacking_without word g xs (all g (inl refl)) (none g (inl refl)))

-- ---- words

-- a word that names no table at a multiple of 8
pub names_none : (word : ℕ) → (NamesAligned word → ⊥) → names_aligned word ≡ false
names_none word none = by (word == 0) (word == see_parent) (word % 8 == 0) refl refl refl
  where
    by : (a b d : Bool) → (word == 0) ≡ a → (word == see_parent) ≡ b → (word % 8 == 0) ≡ d → not a && (not b && d) ≡ false
    by true b d e f h = refl
    by false true d e f h = refl
    by false false false e f h = refl
    by false false true e f h = absurd (none (((λ zero. absurd (let k : true ≡ false = sym (eq-eqb word 0 zero) ∙ e in cc)), (λ parent. absurd (let k : true ≡ false = sym (eq-eqb word see_parent parent) ∙ f in cc))), let x = h in eq_of (word % 8) 0 h))
      where
        eq_of : (x y : ℕ) → (x == y) ≡ true → x ≡ y
        eq_of x y e = elim (cases_eq x y) [ inl same ↦ same | inr other ↦ absurd (let k : true ≡ false = sym e ∙ ne_eqb x y other in cc) ]

-- ---- new tables past the file

-- so many groups, each once, whose new tables begin below a place
record LieBelow (s : Stages) (count place : ℕ) : Type 0 where
  groups : List ℕ
  counted : length groups ≡ count
  distinct : AreDistinct groups
  each : (g : ℕ) → IsOneOf g groups → (pos : ℕ) × (place_for g s.words ≡ Some pos) × (pos + 2048 ≤ place)

-- from the file's end on, each 2,048 bytes of the pieces are those of another group's new table
tables_beyond : (l : Layout) (s : Stages) (plan : Plan) (file : List ℕ) → Current l s [] plan file → (m : ℕ) → aligned_up (length file) + 2048 * m < plan.size + 2048 → LieBelow s m (aligned_up (length file) + 2048 * m)
tables_beyond l s plan file c zero low = record { groups = []; counted = refl; distinct = tt; each = λ g none. absurd none }
tables_beyond l s plan file c (suc m) low =
    let rest = tables_beyond l s plan file c m (omega (arith, low)) in
    let r = c.spans.tight (aligned_up (length file) + 2048 * m) (omega arith) (omega (arith, low)) in
    let n = c.accounts.reserved.named (reserved_piece r.pos r.size) r.there refl in
    let first = r.low in
    let last = r.high in
    let here = ap (λ (p : Piece). p.pos) n.2 in
    let long = ap (λ (p : Piece). p.size) n.2 in
    by rest n.0 n.1 (omega (arith, here, first)) (omega (arith, here, long, last))
  where
    by : LieBelow s m (aligned_up (length file) + 2048 * m) → (e : Extent) → IsPlaced s [] e → e.pos ≤ aligned_up (length file) + 2048 * m → aligned_up (length file) + 2048 * m < e.pos + e.size
        → LieBelow s (suc m) (aligned_up (length file) + 2048 * suc m)
    by rest e (inr none) first last = absurd none
    by rest e (inl (inr track)) first last =
        let k = track.1 in
        let snug = (c.entries track.0 k.entry k.named).snug k.place in
        let pos = ap (λ (x : Extent). x.pos) k.is in
        let size = ap (λ (x : Extent). x.size) k.is in
        absurd (let end = up (length file) in omega (arith, snug, pos, size, last, end))
    by rest e (inl (inl table)) first last =
        let g = table.0 in
        let k = table.1 in
        let pos = ap (λ (x : Extent). x.pos) k.is in
        let size = ap (λ (x : Extent). x.size) k.is in
        let counted = rest.counted in
        record {
          groups = g ∷ rest.groups;
          counted = omega (arith, counted);
          distinct = (
            λ again.
                let o = rest.each g again in
                let same : o.0 ≡ k.pos = (let f : Some o.0 ≡ Some k.pos = sym o.1 ∙ k.named in cc) in
                omega (arith, o.2, same, pos, size, last),
            rest.distinct,
          );
          each = λ h one. elim one [
            | inl same ↦ (k.pos, ap (λ (x : ℕ). place_for x s.words) (sym same) ∙ k.named, omega (arith, pos, first))
            | inr later ↦ let o = rest.each h later in (o.0, o.1, omega (arith, o.2))
          ];
        }

-- ---- a layer that lacks room

laid_placed : (need : ℕ) (plan : Plan) → 0 < need → IsLaid 0 plan.pieces plan.size → IsLaid 0 (with_reserved need plan.pieces) (size_with need plan)
laid_placed need plan some laid = by (first (has_room need) plan.pieces)
  where
    by : (o : Option Piece) → IsLaid 0 (reserved_by (option_map (λ p. aligned_up p.pos) o) need plan.pieces) (size_at (option_map (λ p. aligned_up p.pos) o) need plan)
    by (Some p) = laid_reserved_in (has_room need) need some (λ p e. e) plan.pieces plan.size laid
    by None = laid_appended need plan.pieces plan.size some laid

-- how far the pieces may reach where no end was found
pub reaches : (need : ℕ) (plan : Plan) (full : Full) (far : ℕ) → HasNoRoom need plan full → used_end plan.pieces ≤ far → plan.limit < aligned_up far + need
reaches need plan full far lacks end = let e = lacks.no_end in omega (arith, e, end)

-- a held table adds its bytes
held_far : (old held : Plan) (far : ℕ) → IsReserved 2048 old held → IsLaid 0 old.pieces old.size → old.size ≤ far → used_end held.pieces ≤ aligned_up far + 2048
held_far old held far r laid low =
    let laid_held = laid_placed 2048 old (omega arith) laid in
    let within = used_end_within (with_reserved 2048 old.pieces) (size_with 2048 old) laid_held in
    let made = ap used_end r.becomes.made in
    let end = used_end_within old.pieces old.size laid in
    elim (placed_end 2048 old) [
      | inl same ↦ omega (arith, made, within, same, low)
      | inr grown ↦ let g = grown.0 in omega (arith, made, within, g, end, low)
    ]

module _ (s : LayerState) (w : World) (t : ℕ) (need : Option ℕ) (full : Full) (lacks : LacksRoom s w t need full) (a : Attempt)
    (tried : (g : ℕ) → IsMoved g s.tables.stages → IsOneOf g a.groups) (own : IsOneOf (t / 256) a.groups) (low : t / 256 < s.tables.layout.groups) where
  abbrev groups : List ℕ
  groups = a.groups

  abbrev l : Layout
  l = s.tables.layout

  abbrev file : List ℕ
  file = file_of w s.slot

  now : Current l s.tables.stages [] lacks.tried file
  now = lacks.agrees.stands.now

  abbrev count : ℕ
  count = (lacks.tried.size - aligned_up (length file) + 2047) / 2048

  beyond : LieBelow s.tables.stages count (aligned_up (length file) + 2048 * count)
  beyond = tables_beyond l s.tables.stages lacks.tried file now count (let k = now.spans.covers in omega (arith, k))

  moved : (g : ℕ) → IsOneOf g beyond.groups → IsMoved g s.tables.stages
  moved g one = let o = beyond.each g one in subst (λ (x : Option ℕ). IsSome x) (sym o.1) refl

  far : lacks.tried.size ≤ aligned_up (length file) + 2048 * count
  far = omega arith

  staged_lack : count ≤ lacking (word_at l file) groups
  staged_lack =
      let k = no_more (word_at l file) beyond.groups groups beyond.distinct (λ g one. tried g (moved g one)) (λ g one. names_none (word_at l file g) (now.lacks g (moved g one))) in
      let n = beyond.counted in
      omega (arith, k, n)

  own_lacks : (HasAlignedTable s.tables (t / 256) → ⊥) → count + 1 ≤ lacking (word_at l file) groups
  own_lacks none =
      let g = t / 256 in
      let here : names_aligned (word_at l file g) ≡ false = names_none (word_at l file g) (λ names. none (inr (subst NamesAligned (lacks.agrees.are.words g low) names))) in
      let k = no_more (word_at l file) (g ∷ beyond.groups) groups ((λ again. none (inl (moved g again))), beyond.distinct)
      (λ h one. elim one [ inl same ↦ subst (λ (x : ℕ). IsOneOf x groups) same own | inr later ↦ tried h (moved h later) ])
      (λ h one. elim one [ inl same ↦ subst (λ (x : ℕ). names_aligned (word_at l file x) ≡ false) same here | inr later ↦ names_none (word_at l file h) (now.lacks h (moved h later)) ]) in
      let n = beyond.counted in
      omega (arith, k, n)

  -- where nothing is staged, the pieces are those of the file
  pieces_now : s.tables.stages ≡ nothing_staged → lacks.tried.pieces ≡ pieces_of 0 (used_spaces l file) (length file)
  pieces_now none =
      let whole = (stands_sits (claimed_view [] (with_plan s lacks.tried)) s.slot w lacks.agrees.stands).whole in
      let bare : Current l nothing_staged [] lacks.tried file = subst (λ (st : Stages). Current l st [] lacks.tried file) none now in
      let size : lacks.tried.size ≡ length file = (let e = ends_with l lacks.tried file bare in let k = now.spans.covers in omega (arith, e, k)) in
      pieces_are l lacks.tried file (found_whole l file whole) size bare lacks.none.leaving lacks.none.pending

  -- neither for the table, nor for the track beside it
  pub justified : a.limit ≡ s.plan.limit → ((n : ℕ) → need ≡ Some n → n ≡ aligned_up a.given) → a.group ≡ t / 256 → (a.quiet ≡ true → s.tables.stages ≡ nothing_staged) → IsJustified a l file full
  justified same_limit is group quiet = by lacks.wanted lacks.wants lacks.lacks
    where
      limit : lacks.tried.limit ≡ a.limit
      limit = lacks.limit ∙ sym same_limit

      -- behind a hardening the group has no table, where one is wanted
      not_wanted : (HasAlignedTable s.tables (t / 256) → ⊥) → names_aligned (word_at l file a.group) ≡ true → ⊥
      not_wanted none aligned =
          let here = names_none (word_at l file (t / 256)) (λ names. none (inr (subst NamesAligned (lacks.agrees.are.words (t / 256) low) names))) in
          let e : true ≡ false = sym aligned ∙ (ap (λ (g : ℕ). names_aligned (word_at l file g)) group ∙ here) in
          cc

      told : (n : ℕ) (plan : Plan) → HasNoRoom n plan full → (full.need ≡ n) × (full.largest < n) × (full.room < n)
      told n plan denied =
          let a = ap (λ (x : Full). x.need) denied.numbers_are in
          let b = ap (λ (x : Full). x.largest) denied.numbers_are in
          let d = ap (λ (x : Full). x.room) denied.numbers_are in
          let piece = denied.no_piece in
          let end = denied.no_end in
          (a, omega (arith, b, piece), omega (arith, d, end))

      table : (HasAlignedTable s.tables (t / 256) → ⊥) → HasNoRoom 2048 lacks.tried full → IsJustified a l file full
      table none denied =
          let k = told 2048 lacks.tried denied in
          let used = used_end_within lacks.tried.pieces lacks.tried.size now.spans.laid in
          let reach = reaches 2048 lacks.tried full lacks.tried.size denied used in
          record {
            asked = inl k.0;
            no_piece = omega (arith, k.0, k.1);
            no_end = omega (arith, k.0, k.2);
            tight = omega (arith, k.0, reach, far, limit, staged_lack);
            none_fits = λ hard aligned. absurd (not_wanted none aligned);
          }

      track : (n : ℕ) → need ≡ Some n → HasNoRoom n lacks.tried full → IsJustified a l file full
      track n some denied =
          let k = told n lacks.tried denied in
          let used = used_end_within lacks.tried.pieces lacks.tried.size now.spans.laid in
          let reach = reaches n lacks.tried full lacks.tried.size denied used in
          record {
            asked = inr (k.0 ∙ is n some);
            no_piece = omega (arith, k.0, k.1);
            no_end = omega (arith, k.0, k.2);
            tight = omega (arith, k.0, reach, far, limit, staged_lack);
            none_fits = λ hard aligned.
                let piece = denied.no_piece in
                let same = ap largest (pieces_now (quiet hard)) in
                omega (arith, k.0, piece, same);
          }

      beside : (held : Plan) (n : ℕ) → need ≡ Some n → (HasAlignedTable s.tables (t / 256) → ⊥) → IsReserved 2048 lacks.tried held → HasNoRoom n held full → IsJustified a l file full
      beside held n some none r denied =
          let k = told n held denied in
          let used = held_far lacks.tried held lacks.tried.size r now.spans.laid (omega arith) in
          let reach = reaches n held full (aligned_up lacks.tried.size + 2048) denied used in
          let same = r.becomes.limit in
          let more = own_lacks none in
          record {
            asked = inr (k.0 ∙ is n some);
            no_piece = omega (arith, k.0, k.1);
            no_end = omega (arith, k.0, k.2);
            tight = omega (arith, k.0, reach, far, limit, same, more);
            none_fits = λ hard aligned. absurd (not_wanted none aligned);
          }

      by : (b : Bool) → WantsTable s t b → HaveNoPlaces b need lacks.tried full → IsJustified a l file full
      by true wants (inl denied) = table (wants.new refl) denied
      by false wants (inl denied) = absurd denied
      by true wants (inr held) = two need refl held.2
        where
          two : (o : Option ℕ) → need ≡ o → IsDenied o held.0 full → IsJustified a l file full
          two None e denied = absurd denied
          two (Some n) e denied = beside held.0 n e (wants.new refl) held.1 denied
      by false wants (inr held) = two need refl held.2
        where
          two : (o : Option ℕ) → need ≡ o → IsDenied o held.0 full → IsJustified a l file full
          two None e denied = absurd denied
          two (Some n) e denied = track n e (subst (λ (p : Plan). HasNoRoom n p full) held.1 denied)
