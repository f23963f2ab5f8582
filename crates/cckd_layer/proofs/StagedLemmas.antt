-- The file now and the pieces, and what holds between calls, once an entry or a word is staged.
use Rattle.std.proofs.Common.{◌≡◌, ℕ, ◌/◌, ◌<◌, List, ◌∷◌, length, Option, Some, None, IsSome, refl, sym, ◌∙◌, ap, subst, inl, inr, ◌+◌, arith, ◌≤◌}
use Rattle.std.specs.Option.{unwrap_or}
use Rattle.std.proofs.lemmas.Bool.{cases_eq}
use Rattle.cckd_shelf.specs.World.{World, file_of}
use Rattle.cckd_base.specs.declared.geometry.Layout.{Layout}
use Rattle.cckd_base.specs.declared.entry.L2Entry.{L2Entry}
use Rattle.cckd_base.specs.declared.space.Extent.{Extent}
use Rattle.cckd_base.specs.declared.space.Owner.TheVariants.{Nobody, Track}
use Rattle.cckd_base.specs.Geometry.{track_count}
use Rattle.cckd_base.specs.Entry.{word_at, entry_at, bytes_by_entry}
use Rattle.cckd_base.specs.Image.{IsPlace}
use Rattle.cckd_base.proofs.PlaceLemmas.{place_or_not}
use Rattle.cckd_space.specs.declared.piece.Piece.{Piece}
use Rattle.cckd_space.specs.Pieces.{IsLaid, aligned_up}
use Rattle.cckd_space.specs.Plan.{Plan, Becomes}
use Rattle.cckd_tables.specs.Staging.{Stages, IsStaged, IsMoved, entry_for, place_for}
use Rattle.cckd_layer.specs.Held.{NullBytes, Stores, held}
use Rattle.cckd_layer.specs.Current.{stored_space, claim, IsInUse, IsReplaced, IsPlaced, AreClaims, Accounts, Spans, CanBeEntry, CanBeWord, Current, NamesAligned}
use Rattle.cckd_layer.specs.Stands.{LayerView, Stands}
use Rattle.cckd_layer.specs.Acts.{StagesEntry, StagesWord, left_at, given_back, GivesBack, MayGiveBack}
use Rattle.cckd_layer.proofs.AccountLemmas.{placed_at, accounts_same, accounts_given, accounts_cut}
use Rattle.cckd_layer.proofs.SpanLemmas.{KeepsHeld, keeps_in, keeps_twice, keeps_sits, held_left, held_given, held_cut, spans_left, spans_given, spans_same}
use Rattle.cckd_layer.proofs.StageLemmas.{left_is, left_none, not_place, entry_leaves, owner_fresh, owner_again, entry_takes, entry_takes_none, owners_differ, among_owner, some_staged, use_as, replaced_as, table_leaves, word_takes, word_moved}

-- A staged entry takes the claim of its space, where it names one. These claims are left.
pub record Takes (e : L2Entry) (claims rest : List Extent) : Type 0 where
  pub space : IsPlace e.pos → claims ≡ claim e.pos e.size ∷ rest
  pub nothing : (IsPlace e.pos → ⊥) → claims ≡ rest

rest_claims : (e : L2Entry) (claims rest : List Extent) → Takes e claims rest → AreClaims claims → AreClaims rest
rest_claims e claims rest takes are = elim (place_or_not e.pos) [
  | inl place ↦ let k : AreClaims (claim e.pos e.size ∷ rest) = subst AreClaims (takes.space place) are in k.2
  | inr none ↦ subst AreClaims (takes.nothing (not_place e.pos none)) are
]

-- what is reserved, once the track's old new space, if there is one, was taken out
entry_reserved : (s n : Stages) (t : ℕ) (e : L2Entry) → StagesEntry t e s n → (U L R : Extent → Type 0) (claims rest : List Extent) (ps : List Piece) → Takes e claims rest → AreClaims claims
    → ((x : Extent) → R x → IsPlaced s claims x × (x.owner ≡ Track t → ⊥)) → ((x : Extent) → IsPlaced s claims x → (x.owner ≡ Track t → ⊥) → R x)
    → Accounts U L R ps → Accounts U L (IsPlaced n rest) ps
entry_reserved s n t e st U L R claims rest ps takes are out back a = elim (place_or_not e.pos) [
  | inl place ↦
      let same = takes.space place in
      entry_takes s n t e st U L R rest ps place (subst AreClaims same are)
      (λ x h. let k = out x h in (subst (λ (cs : List Extent). IsPlaced s cs x) same k.0, k.1))
      (λ x h own. back x (subst (λ (cs : List Extent). IsPlaced s cs x) (sym same) h) own) a
  | inr none ↦
      let same = takes.nothing (not_place e.pos none) in
      entry_takes_none s n t e st U L R rest ps (not_place e.pos none) (subst AreClaims same are)
      (λ x h. let k = out x h in (subst (λ (cs : List Extent). IsPlaced s cs x) same k.0, k.1))
      (λ x h own. back x (subst (λ (cs : List Extent). IsPlaced s cs x) (sym same) h) own) a
]

-- the entries that are staged then can be
entries_can : (l : Layout) (s n : Stages) (file : List ℕ) (t : ℕ) (e : L2Entry) → StagesEntry t e s n → ((u : ℕ) (x : L2Entry) → entry_for u s.entries ≡ Some x → CanBeEntry l s file u x)
    → CanBeEntry l s file t e → (u : ℕ) (x : L2Entry) → entry_for u n.entries ≡ Some x → CanBeEntry l n file u x
entries_can l s n file t e st old here u x h = elim (cases_eq t u) [
  | inl same ↦
      let there : entry_for t n.entries ≡ Some x = subst (λ (k : ℕ). entry_for k n.entries ≡ Some x) (sym same) h in
      let one : e ≡ x = (let f : Some e ≡ Some x = sym st.here ∙ there in cc) in
      subst (λ (k : ℕ). CanBeEntry l n file k x) same (subst (CanBeEntry l n file t) one (moved t e here))
  | inr other ↦ moved u x (old u x (sym (st.others u other) ∙ h))
]
  where
    moved : (u : ℕ) (x : L2Entry) → CanBeEntry l s file u x → CanBeEntry l n file u x
    moved u x k = record {
      low = k.low;
      fits = k.fits;
      snug = k.snug;
      tabled = elim k.tabled [ inl m ↦ inl (subst (λ (o : Option ℕ). IsSome o) (sym (st.words (u / 256))) m) | inr stands ↦ inr stands ];
    }

words_can : (l : Layout) (s n : Stages) (t : ℕ) (e : L2Entry) → StagesEntry t e s n → ((g pos : ℕ) → place_for g s.words ≡ Some pos → CanBeWord l g pos)
    → (g pos : ℕ) → place_for g n.words ≡ Some pos → CanBeWord l g pos
words_can l s n t e st old g pos h = old g pos (sym (st.words g) ∙ h)

-- no group gets another table
lacks_can : (l : Layout) (s n : Stages) (file : List ℕ) (t : ℕ) (e : L2Entry) → StagesEntry t e s n → ((g : ℕ) → IsMoved g s → NamesAligned (word_at l file g) → ⊥) → (g : ℕ) → IsMoved g n → NamesAligned (word_at l file g) → ⊥
lacks_can l s n file t e st old g moved = old g (subst (λ (x : Option ℕ). IsSome x) (st.words g) moved)

left_spans : (old new : Plan) (file : List ℕ) (pos : ℕ) → Becomes old new (left_at pos old.pieces) old.size → IsLaid 0 new.pieces new.size → Spans old file → Spans new file
left_spans old new file pos b laid s = elim (place_or_not pos) [
  | inl place ↦ spans_left old new file pos (subst (λ (ps : List Piece). Becomes old new ps old.size) (left_is pos old.pieces place) b) laid s
  | inr none ↦ spans_same old new file (b.made ∙ left_none pos old.pieces none) b.sized b.limit s
]

left_held : (pos : ℕ) (ps : List Piece) (end : ℕ) → IsLaid 0 ps end → KeepsHeld ps (left_at pos ps)
left_held pos ps end laid = elim (place_or_not pos) [
  | inl place ↦ subst (KeepsHeld ps) (sym (left_is pos ps place)) (held_left pos ps end laid)
  | inr none ↦ subst (KeepsHeld ps) (sym (left_none pos ps none)) (keeps_in ps ps (λ p k h. h))
]

-- an entry is staged for a track that had none, and the space of the file's entry leaves
pub current_staged : (l : Layout) (s n : Stages) (claims rest : List Extent) (old new : Plan) (file : List ℕ) (t : ℕ) (e : L2Entry) → entry_for t s.entries ≡ None → StagesEntry t e s n
    → CanBeEntry l s file t e → Takes e claims rest → Becomes old new (left_at (entry_at l file t).pos old.pieces) old.size → IsLaid 0 new.pieces new.size
    → Current l s claims old file → Current l n rest new file
current_staged l s n claims rest old new file t e fresh st can takes b laid c = record {
  spans = left_spans old new file (entry_at l file t).pos b laid c.spans;
  accounts = subst (Accounts (IsInUse l n file) (IsReplaced l n file) (IsPlaced n rest)) (sym b.made)
      (entry_reserved s n t e st (IsInUse l n file) (IsReplaced l n file) (IsPlaced s claims) claims rest (left_at (entry_at l file t).pos old.pieces) takes c.claims_are
      (λ x h. (
        h,
        λ own. elim h [
          | inl new ↦ owner_fresh s t fresh x new own
          | inr among ↦ let none = among_owner claims x c.claims_are among in let k : Nobody ≡ Track t = sym none ∙ own in cc
        ],
      ))
      (λ x h own. h)
      (entry_leaves l s n file t e can.low fresh st (IsPlaced s claims) old.pieces old.size c.spans.laid c.accounts));
  claims_are = rest_claims e claims rest takes c.claims_are;
  entries = entries_can l s n file t e st c.entries can;
  words = words_can l s n t e st c.words;
  lacks = lacks_can l s n file t e st c.lacks;
}

-- ---- a track that is staged gets another entry, and the space of its staged one is given back

given_accounts : (U L : Extent → Type 0) (s : Stages) (claims : List Extent) (old new : Plan) (len t : ℕ) (o : L2Entry) → entry_for t s.entries ≡ Some o → IsPlace o.pos → IsLaid 0 old.pieces old.size
    → MayGiveBack o.pos len old new → Accounts U L (IsPlaced s claims) old.pieces
    → GivesBack o.pos len old new × Accounts U L (λ x. IsPlaced s claims x × (x ≡ stored_space t o → ⊥)) new.pieces
given_accounts U L s claims old new len t o again place laid may a =
    let z = stored_space t o in
    let rz : IsPlaced s claims z = inl (inr (t, record { entry = o; named = again; place = place; is = refl })) in
    let f = placed_at z old.pieces old.size laid (a.reserved.there z rz) in
    let b = may.given (subst (λ (p : Option Piece). IsSome p) (sym f) refl) in (
      b,
      subst (Accounts U L (λ x. IsPlaced s claims x × (x ≡ z → ⊥))) (sym b.made)
          (accounts_cut U L (λ x. IsPlaced s claims x × (x ≡ z → ⊥)) len old.size (given_back z.pos old.pieces) (accounts_given U L (IsPlaced s claims) z old.pieces old.size laid rz a)),
    )

-- what is staged stays staged
again_staged : (s n : Stages) (t : ℕ) (e : L2Entry) → StagesEntry t e s n → (u : ℕ) → IsStaged u s → IsStaged u n
again_staged s n t e st u h = elim (cases_eq t u) [
  | inl same ↦ subst (λ (k : ℕ). IsStaged k n) same (some_staged t e n st.here)
  | inr other ↦ subst (λ (o : Option L2Entry). IsSome o) (sym (st.others u other)) h
]

again_unstaged : (s n : Stages) (t : ℕ) (e o : L2Entry) → StagesEntry t e s n → entry_for t s.entries ≡ Some o → (u : ℕ) → IsStaged u n → IsStaged u s
again_unstaged s n t e o st again u h = elim (cases_eq t u) [
  | inl same ↦ subst (λ (k : ℕ). IsStaged k s) same (some_staged t o s again)
  | inr other ↦ subst (λ (x : Option L2Entry). IsSome x) (st.others u other) h
]

again_moved : (s n : Stages) (t : ℕ) (e : L2Entry) → StagesEntry t e s n → (g : ℕ) → IsMoved g s → IsMoved g n
again_moved s n t e st g h = subst (λ (x : Option ℕ). IsSome x) (sym (st.words g)) h

again_unmoved : (s n : Stages) (t : ℕ) (e : L2Entry) → StagesEntry t e s n → (g : ℕ) → IsMoved g n → IsMoved g s
again_unmoved s n t e st g h = subst (λ (x : Option ℕ). IsSome x) (st.words g) h

-- the track's staged entry names no space: the pieces stay
pub current_again_none : (l : Layout) (s n : Stages) (claims rest : List Extent) (plan : Plan) (file : List ℕ) (t : ℕ) (e o : L2Entry) → entry_for t s.entries ≡ Some o → (IsPlace o.pos → ⊥) → StagesEntry t e s n
    → CanBeEntry l s file t e → Takes e claims rest → Current l s claims plan file → Current l n rest plan file
current_again_none l s n claims rest plan file t e o again none st can takes c = record {
  spans = c.spans;
  accounts = entry_reserved s n t e st (IsInUse l n file) (IsReplaced l n file) (IsPlaced s claims) claims rest plan.pieces takes c.claims_are
      (λ x h. (
        h,
        λ own. elim h [
          | inl new ↦ none (owner_again s t o again x new own).1
          | inr among ↦ let nobody = among_owner claims x c.claims_are among in let k : Nobody ≡ Track t = sym nobody ∙ own in cc
        ],
      ))
      (λ x h own. h)
      (accounts_same (IsInUse l s file) (IsReplaced l s file) (IsPlaced s claims) (IsInUse l n file) (IsReplaced l n file) (IsPlaced s claims) plan.pieces
      (use_as l s n file (again_unmoved s n t e st) (again_unstaged s n t e o st again)) (use_as l n s file (again_moved s n t e st) (again_staged s n t e st))
      (replaced_as l s n file (again_moved s n t e st) (again_staged s n t e st)) (replaced_as l n s file (again_unmoved s n t e st) (again_unstaged s n t e o st again))
      (λ x h. h) (λ x h. h) c.accounts);
  claims_are = rest_claims e claims rest takes c.claims_are;
  entries = entries_can l s n file t e st c.entries can;
  words = words_can l s n t e st c.words;
  lacks = lacks_can l s n file t e st c.lacks;
}

-- it names one: that is given back
pub current_again : (l : Layout) (s n : Stages) (claims rest : List Extent) (old new : Plan) (file : List ℕ) (t : ℕ) (e o : L2Entry) → entry_for t s.entries ≡ Some o → IsPlace o.pos → StagesEntry t e s n
    → CanBeEntry l s file t e → Takes e claims rest → MayGiveBack o.pos (length file) old new → IsLaid 0 new.pieces new.size → 0 < old.size → Current l s claims old file → Current l n rest new file
current_again l s n claims rest old new file t e o again place st can takes may laid full c =
    let z = stored_space t o in
    let k = given_accounts (IsInUse l s file) (IsReplaced l s file) s claims old new (length file) t o again place c.spans.laid may c.accounts in
    let R : Extent → Type 0 = λ x. IsPlaced s claims x × (x ≡ z → ⊥) in
    let within : o.pos + o.size ≤ aligned_up (length file) = (let n = (c.entries t o again).snug place in omega (arith, n)) in
    record {
      spans = spans_given old new file o.pos o.size (c.accounts.reserved.there z (inl (inr (t, record { entry = o; named = again; place = place; is = refl })))) (inl within) k.0 laid full c.spans;
      accounts = entry_reserved s n t e st (IsInUse l n file) (IsReplaced l n file) R claims rest new.pieces takes c.claims_are
          (λ x h. (
            h.0,
            λ own. elim h.0 [
              | inl fresh ↦ h.1 (owner_again s t o again x fresh own).0
              | inr among ↦ let nobody = among_owner claims x c.claims_are among in let q : Nobody ≡ Track t = sym nobody ∙ own in cc
            ],
          ))
          (λ x h own. (h, owners_differ x z own))
          (accounts_same (IsInUse l s file) (IsReplaced l s file) R (IsInUse l n file) (IsReplaced l n file) R new.pieces
          (use_as l s n file (again_unmoved s n t e st) (again_unstaged s n t e o st again)) (use_as l n s file (again_moved s n t e st) (again_staged s n t e st))
          (replaced_as l s n file (again_moved s n t e st) (again_staged s n t e st)) (replaced_as l n s file (again_unmoved s n t e st) (again_unstaged s n t e o st again))
          (λ x h. h) (λ x h. h) k.1);
      claims_are = rest_claims e claims rest takes c.claims_are;
      entries = entries_can l s n file t e st c.entries can;
      words = words_can l s n t e st c.words;
      lacks = lacks_can l s n file t e st c.lacks;
    }

-- ---- a word is staged for a group that had none, and the group's table leaves

pub current_word : (l : Layout) (s n : Stages) (rest : List Extent) (old new : Plan) (file : List ℕ) (g pos : ℕ) → place_for g s.words ≡ None → StagesWord g pos s n → CanBeWord l g pos → (NamesAligned (word_at l file g) → ⊥)
    → Becomes old new (left_at (word_at l file g) old.pieces) old.size → IsLaid 0 new.pieces new.size
    → Current l s (claim pos 2048 ∷ rest) old file → Current l n rest new file
current_word l s n rest old new file g pos fresh st can none b laid c = record {
  spans = left_spans old new file (word_at l file g) b laid c.spans;
  accounts = subst (Accounts (IsInUse l n file) (IsReplaced l n file) (IsPlaced n rest)) (sym b.made)
      (word_takes l s n file g pos can.low fresh st (IsInUse l n file) (IsReplaced l n file) rest (left_at (word_at l file g) old.pieces) c.claims_are
      (table_leaves l s n file g pos can.low fresh st (IsPlaced s (claim pos 2048 ∷ rest)) old.pieces old.size c.spans.laid c.accounts));
  claims_are = c.claims_are.2;
  entries = λ t e h.
      let k = c.entries t e (sym (st.entries t) ∙ h) in
      record {
        low = k.low;
        fits = k.fits;
        snug = k.snug;
        tabled = elim k.tabled [ inl m ↦ inl (word_moved l s n file g pos can.low fresh st (t / 256) m) | inr stands ↦ inr stands ];
      };
  words = λ h p k. elim (cases_eq g h) [
    | inl same ↦
        let there : place_for g n.words ≡ Some p = subst (λ (x : ℕ). place_for x n.words ≡ Some p) (sym same) k in
        let one : pos ≡ p = (let f : Some pos ≡ Some p = sym st.here ∙ there in cc) in
        subst (λ (x : ℕ). CanBeWord l x p) same (subst (CanBeWord l g) one can)
    | inr other ↦ c.words h p (sym (st.others h other) ∙ k)
  ];
  lacks = λ h moved. elim (cases_eq g h) [
    | inl same ↦ subst (λ (x : ℕ). NamesAligned (word_at l file x) → ⊥) same none
    | inr other ↦ c.lacks h (subst (λ (x : Option ℕ). IsSome x) (st.others h other) moved)
  ];
}

-- ---- what holds between calls

-- the pieces change and what is staged does, and no byte of the file
pub stands_by : (v : LayerView) (s : Stages) (claims : List Extent) (plan : Plan) (slot : ℕ) (w : World) → KeepsHeld v.plan.pieces plan.pieces → Current v.layout s claims plan (file_of w slot)
    → Stands v slot w → Stands (record v { stages = s; claims = claims; plan = plan }) slot w
stands_by v s claims plan slot w keeps now h = record {
  sure = h.sure;
  now = now;
  each = λ f o. keeps_sits v.layout v.plan.pieces plan.pieces f keeps (h.each f o);
  marked = h.marked;
}

pub stands_staged : (v : LayerView) (n : Stages) (rest : List Extent) (new : Plan) (slot : ℕ) (w : World) (t : ℕ) (e : L2Entry) → entry_for t v.stages.entries ≡ None → StagesEntry t e v.stages n
    → CanBeEntry v.layout v.stages (file_of w slot) t e → Takes e v.claims rest
    → Becomes v.plan new (left_at (entry_at v.layout (file_of w slot) t).pos v.plan.pieces) v.plan.size → IsLaid 0 new.pieces new.size
    → Stands v slot w → Stands (record v { stages = n; claims = rest; plan = new }) slot w
stands_staged v n rest new slot w t e fresh st can takes b laid h =
    let pos = (entry_at v.layout (file_of w slot) t).pos in
    stands_by v n rest new slot w (subst (KeepsHeld v.plan.pieces) (sym b.made) (left_held pos v.plan.pieces v.plan.size h.now.spans.laid))
    (current_staged v.layout v.stages n v.claims rest v.plan new (file_of w slot) t e fresh st can takes b laid h.now) h

pub stands_again_none : (v : LayerView) (n : Stages) (rest : List Extent) (slot : ℕ) (w : World) (t : ℕ) (e o : L2Entry) → entry_for t v.stages.entries ≡ Some o → (IsPlace o.pos → ⊥) → StagesEntry t e v.stages n
    → CanBeEntry v.layout v.stages (file_of w slot) t e → Takes e v.claims rest → Stands v slot w → Stands (record v { stages = n; claims = rest }) slot w
stands_again_none v n rest slot w t e o again none st can takes h =
    stands_by v n rest v.plan slot w (keeps_in v.plan.pieces v.plan.pieces (λ p k m. m))
    (current_again_none v.layout v.stages n v.claims rest v.plan (file_of w slot) t e o again none st can takes h.now) h

pub stands_again : (v : LayerView) (n : Stages) (rest : List Extent) (new : Plan) (slot : ℕ) (w : World) (t : ℕ) (e o : L2Entry) → entry_for t v.stages.entries ≡ Some o → IsPlace o.pos → StagesEntry t e v.stages n
    → CanBeEntry v.layout v.stages (file_of w slot) t e → Takes e v.claims rest → MayGiveBack o.pos (length (file_of w slot)) v.plan new → IsLaid 0 new.pieces new.size → 0 < v.plan.size
    → Stands v slot w → Stands (record v { stages = n; claims = rest; plan = new }) slot w
stands_again v n rest new slot w t e o again place st can takes may laid full h =
    let c = h.now in
    let k = given_accounts (IsInUse v.layout v.stages (file_of w slot)) (IsReplaced v.layout v.stages (file_of w slot)) v.stages v.claims v.plan new (length (file_of w slot)) t o again place c.spans.laid may c.accounts in
    let mid = given_back o.pos v.plan.pieces in
    stands_by v n rest new slot w
    (keeps_twice v.plan.pieces mid new.pieces (held_given o.pos v.plan.pieces) (subst (KeepsHeld mid) (sym k.0.made) (held_cut (length (file_of w slot)) v.plan.size mid)))
    (current_again v.layout v.stages n v.claims rest v.plan new (file_of w slot) t e o again place st can takes may laid full c) h

pub stands_word : (v : LayerView) (n : Stages) (rest : List Extent) (new : Plan) (slot : ℕ) (w : World) (g pos : ℕ) → v.claims ≡ claim pos 2048 ∷ rest → place_for g v.stages.words ≡ None → StagesWord g pos v.stages n
    → CanBeWord v.layout g pos → (NamesAligned (word_at v.layout (file_of w slot) g) → ⊥) → Becomes v.plan new (left_at (word_at v.layout (file_of w slot) g) v.plan.pieces) v.plan.size → IsLaid 0 new.pieces new.size
    → Stands v slot w → Stands (record v { stages = n; claims = rest; plan = new }) slot w
stands_word v n rest new slot w g pos claimed fresh st can none b laid h =
    let old = word_at v.layout (file_of w slot) g in
    stands_by v n rest new slot w (subst (KeepsHeld v.plan.pieces) (sym b.made) (left_held old v.plan.pieces v.plan.size h.now.spans.laid))
    (current_word v.layout v.stages n rest v.plan new (file_of w slot) g pos fresh st can none b laid (subst (λ (cs : List Extent). Current v.layout v.stages cs v.plan (file_of w slot)) claimed h.now)) h

-- ---- the layer's map

-- it has the entry's bytes for the track, and is as before for the others
pub map_staged : (null : NullBytes) (l : Layout) (s n : Stages) (file : List ℕ) (t : ℕ) (e : L2Entry) → StagesEntry t e s n
    → Stores (track_count l.geo) t (bytes_by_entry null l file t e) (held null l s file) (held null l n file)
map_staged null l s n file t e st = record {
  here = ap (λ (o : Option L2Entry). bytes_by_entry null l file t (unwrap_or o (entry_at l file t))) st.here;
  others = λ u low other. ap (λ (o : Option L2Entry). bytes_by_entry null l file u (unwrap_or o (entry_at l file u))) (st.others u other);
}

-- a staged word changes no track
pub map_word : (null : NullBytes) (l : Layout) (s n : Stages) (file : List ℕ) (g pos : ℕ) → StagesWord g pos s n → (t : ℕ) → held null l n file t ≡ held null l s file t
map_word null l s n file g pos st t = ap (λ (o : Option L2Entry). bytes_by_entry null l file t (unwrap_or o (entry_at l file t))) (st.entries t)
