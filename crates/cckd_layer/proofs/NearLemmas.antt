-- A file with new tables at places that are reserved: what it names is as it was.
use Rattle.std.proofs.Common.{◌≡◌, ℕ, suc, ◌+◌, ◌<◌, ◌≤◌, true, false, List, [], ◌∷◌, length, Some, get_or, refl, sym, ◌∙◌, ap, inl, inr, arith}
use Rattle.std.specs.List.{AllByRecursion}
use Rattle.std.specs.List.Sorted.{IsStrictlyIncreasing}
use Rattle.cckd_base.specs.declared.geometry.Layout.{Layout}
use Rattle.cckd_base.specs.declared.space.Extent.{Extent}
use Rattle.cckd_base.specs.Numbers.{bytes_at}
use Rattle.cckd_base.specs.Geometry.{area_of, format_limit}
use Rattle.cckd_base.specs.Entry.{word_at, entry_at}
use Rattle.cckd_base.specs.Survey.{table_space}
use Rattle.cckd_base.specs.Image.{ShareNoByte, IsImage}
use Rattle.cckd_base.proofs.HeaderLemmas.{headed_layout, headed_short}
use Rattle.cckd_base.proofs.PlaceLemmas.{part_same, inside_first, table_inside}
use Rattle.cckd_space.specs.declared.piece.Piece.{Piece}
use Rattle.cckd_space.specs.Pieces.{Has, IsLaid}
use Rattle.cckd_space.specs.Plan.{Plan}
use Rattle.cckd_space.proofs.PlaceLemmas.{laid_apart, has_within}
use Rattle.cckd_tables.specs.declared.staged.StagedWord.{StagedWord}
use Rattle.cckd_tables.specs.Staging.{Stages, place_for}
use Rattle.cckd_tables.specs.Blend.{AreBesideNew, Near}
use Rattle.cckd_tables.specs.Commit.{staged_groups}
use Rattle.cckd_tables.proofs.StagedLemmas.{place_own}
use Rattle.cckd_layer.specs.Sits.{identifiers_for, held_kind, IsHeld, Rests, Sits}
use Rattle.cckd_layer.specs.Current.{IsPlaced, placed_piece, Accounts}
use Rattle.cckd_layer.proofs.NamedLemmas.{KeepsNamed, named_stays}
use Rattle.cckd_layer.proofs.HeadLemmas.{headers_kept, headed_kept}
use Rattle.cckd_layer.proofs.FillLemmas.{StaysWhole}

-- what is held shares no byte with what is placed
pub held_placed_apart : (ps : List Piece) (end a n : ℕ) (x : Extent) → IsLaid 0 ps end → Has (placed_piece x) ps → IsHeld ps a n → ShareNoByte a n x.pos x.size
held_placed_apart ps end a n x laid there h = elim (laid_apart 0 ps end h.piece (placed_piece x) laid h.there there) [
  | inl same ↦ absurd (let e : true ≡ false = sym h.kind ∙ ap (λ (p : Piece). held_kind p.kind) same in cc)
  | inr far ↦ inside_first h.piece.pos h.piece.size x.pos x.size far a n h.low h.high
]

blank_word : StagedWord
blank_word = record { group = 0; pos = 0 }

all_words : (P : StagedWord → Type 0) (ws : List StagedWord) → ((i : ℕ) → i < length ws → P (get_or ws i blank_word)) → AllByRecursion P ws
all_words P [] h = tt
all_words P (w ∷ ws) h = (h 0 (omega arith), all_words P ws (λ i low. h (suc i) (omega (arith, low))))

-- what holds of each staged word that is found by its group, holds of all
pub all_found : (P : StagedWord → Type 0) (ws : List StagedWord) → IsStrictlyIncreasing (staged_groups ws) → ((w : StagedWord) → place_for w.group ws ≡ Some w.pos → P w) → AllByRecursion P ws
all_found P ws rising h = all_words P ws (λ i low. h (get_or ws i blank_word) (place_own ws i blank_word rising low))

-- the new tables of what is staged are placed
pub new_placed : (s : Stages) (claims : List Extent) (g pos : ℕ) → place_for g s.words ≡ Some pos → IsPlaced s claims (table_space g pos)
new_placed s claims g pos named = inl (inl (g, record { pos = pos; named = named; is = refl }))

-- a range that is held lies beside them
pub held_beside : (s : Stages) (claims : List Extent) (U L : Extent → Type 0) (ps : List Piece) (end a n : ℕ) → IsStrictlyIncreasing (staged_groups s.words) → IsLaid 0 ps end → Accounts U L (IsPlaced s claims) ps → IsHeld ps a n
    → AreBesideNew s.words a n
held_beside s claims U L ps end a n rising laid acc h =
    all_found (λ w. ShareNoByte a n w.pos 2048) s.words rising
    (λ w named. held_placed_apart ps end a n (table_space w.group w.pos) laid (acc.reserved.there (table_space w.group w.pos) (new_placed s claims w.group w.pos named)) h)

all_weaker : (P Q : StagedWord → Type 0) (ws : List StagedWord) → ((w : StagedWord) → P w → Q w) → AllByRecursion P ws → AllByRecursion Q ws
all_weaker P Q [] step h = tt
all_weaker P Q (w ∷ ws) step h = (step w h.0, all_weaker P Q ws step h.1)

-- a part of such a range is as it was
pub near_part : (s : Stages) (was file : List ℕ) (a n p m : ℕ) → Near s was file → AreBesideNew s.words a n → a ≤ p → p + m ≤ a + n → p + m ≤ length was → bytes_at file p m ≡ bytes_at was p m
near_part s was file a n p m near beside low high within =
    part_same was file p m within near.no_shorter (λ i from to. near.outside i (omega (arith, to, within))
    (all_weaker (λ w. ShareNoByte a n w.pos 2048) (λ w. ShareNoByte i 1 w.pos 2048) s.words (λ w far. inside_first a n w.pos 2048 far i 1 (omega (arith, from, low)) (omega (arith, to, high))) beside))

pub near_named : (l : Layout) (s : Stages) (claims : List Extent) (U L : Extent → Type 0) (ps : List Piece) (end : ℕ) (was file : List ℕ) → IsStrictlyIncreasing (staged_groups s.words) → IsLaid 0 ps end
    → Accounts U L (IsPlaced s claims) ps → IsImage l was → Rests l ps was → Near s was file → KeepsNamed l was file
near_named l s claims U L ps end was file rising laid acc image r near =
    let beside : (a n : ℕ) → IsHeld ps a n → AreBesideNew s.words a n = λ a n h. held_beside s claims U L ps end a n rising laid acc h in
    record {
      no_shorter = near.no_shorter;
      area = λ p m low high. near_part s was file 0 (area_of l.groups) p m near (beside 0 (area_of l.groups) r.area) (omega arith) (omega (arith, high)) (omega (arith, high, image.area));
      tables = λ g low place p m from to.
          let k = table_inside l (length was) g (word_at l was g) (image.words g low) place in
          near_part s was file (word_at l was g) 2048 p m near (beside (word_at l was g) 2048 (r.tables g low place)) from to (omega (arith, to, k.1));
      tracks = λ t low place p m from to.
          let e = entry_at l was t in
          let k = image.snug t low place in
          near_part s was file e.pos e.size p m near (beside e.pos e.size (r.tracks t low place)) from to (omega (arith, to, k));
    }

-- the file is no longer than an image may be
near_short : (s : Stages) (claims : List Extent) (U L : Extent → Type 0) (plan : Plan) (was file : List ℕ) → IsStrictlyIncreasing (staged_groups s.words) → IsLaid 0 plan.pieces plan.size → plan.size ≤ format_limit
    → Accounts U L (IsPlaced s claims) plan.pieces → length was ≤ format_limit → Near s was file → length file ≤ format_limit
near_short s claims U L plan was file rising laid short acc low near =
    near.no_longer format_limit low (all_found (λ w. w.pos + 2048 ≤ format_limit) s.words rising
    (λ w named.
    let e = has_within 0 plan.pieces plan.size (placed_piece (table_space w.group w.pos)) laid (acc.reserved.there (table_space w.group w.pos) (new_placed s claims w.group w.pos named)) in
    omega (arith, e, short)))

-- an outcome that sits in the pieces stays whole by new tables
pub near_whole : (l : Layout) (s : Stages) (claims : List Extent) (U L : Extent → Type 0) (plan : Plan) (was file : List ℕ) → IsStrictlyIncreasing (staged_groups s.words) → IsLaid 0 plan.pieces plan.size → plan.size ≤ format_limit
    → Accounts U L (IsPlaced s claims) plan.pieces → Sits l plan.pieces was → Near s was file → StaysWhole l was file
near_whole l s claims U L plan was file rising laid short acc sits near =
    let stays = named_stays l was file (headed_layout (identifiers_for l) l was sits.whole.headed) sits.whole.image (near_named l s claims U L plan.pieces plan.size was file rising laid acc sits.whole.image sits.rests near) in
    let beside = held_beside s claims U L plan.pieces plan.size 0 (area_of l.groups) rising laid acc sits.rests.area in
    let headers = headers_kept was file (omega (arith, sits.whole.image.area)) near.no_shorter
    (λ i low. near.outside i (omega (arith, low, sits.whole.image.area))
    (all_weaker (λ w. ShareNoByte 0 (area_of l.groups) w.pos 2048) (λ w. ShareNoByte i 1 w.pos 2048) s.words (λ w far. inside_first 0 (area_of l.groups) w.pos 2048 far i 1 (omega arith) (omega (arith, low))) beside)) in
    record {
      whole = record {
        headed = headed_kept (identifiers_for l) l was file headers near.no_shorter
            (near_short s claims U L plan was file rising laid short acc (headed_short (identifiers_for l) l was sits.whole.headed) near) sits.whole.headed;
        image = stays.image;
      };
      stays = stays;
      headers = headers;
    }
