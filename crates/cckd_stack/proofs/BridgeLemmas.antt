-- What a stop may leave of a layer, as the layer says it and as the stack does; and the stack that was mounted.
use Rattle.std.proofs.Common.{◌≡◌, ◌⊎◌, ⊎_elim, ℕ, zero, suc, ◌+◌, ◌-◌, ◌<◌, ◌≤◌, nat_lt, List, [], ◌∷◌, length, Option, Some, None, inl, inr, refl, sym, ◌∙◌, ap, subst, arith}
use Rattle.std.specs.Prelude.{if◌then◌else◌}
use Rattle.std.proofs.lemmas.Bool.{cases_lt, lt-ltb, le-ltb}
use Rattle.cckd_base.specs.declared.geometry.Geometry.{Geometry}
use Rattle.cckd_base.specs.declared.geometry.Layout.{Layout}
use Rattle.cckd_base.specs.Geometry.{track_count}
use Rattle.cckd_base.specs.Track.{null_track}
use Rattle.cckd_base.specs.Header.{base_identifier, shadow_identifier}
use Rattle.cckd_base.specs.Image.{IsHeaded, IsSound}
use Rattle.cckd_base.proofs.ImageLemmas.{survey_of_image}
use Rattle.cckd_layer.specs.Sits.{IsWhole, identifiers_for}
use Rattle.cckd_layer.specs.Held.{IsLater, Keeps, held, held_in}
use Rattle.cckd_layer.specs.Stands.{nothing_staged}
use Rattle.cckd_layer.specs.Mounted.{LayerState, IsFresh, IsOf}
use Rattle.cckd_tables.specs.Staging.{Stages}
use Rattle.cckd_stack.specs.Layers.{Layer, layer_count}
use Rattle.cckd_stack.specs.Answers.{Pair}
use Rattle.cckd_stack.specs.Stops.{IsAmong, TrackLies}
use Rattle.cckd_stack.specs.Opened.{HoldsLayer, StandIn, Opens, held_tracks}
use Rattle.cckd_stack.proofs.CoveredLemmas.{sound_is_covered}
use Rattle.cckd_stack.specs.Tops.{HoldsLies, laters_of}
use Rattle.cckd_stack.specs.Stacked.{StackState, IsStack, AreLayersFrom, map_of, maps_of, map_at, stack_to, stack_by, stack_of}
use Rattle.cckd_stack.specs.Mounting.{IsMounted, AreFreshFrom, AreOfFrom, roles_in, identifiers_in}
use Rattle.cckd_stack.proofs.LayerListLemmas.{maps_length}

-- ---- what was written later

among_later : (ps : List Pair) (t : ℕ) (bytes : List ℕ) → IsAmong t bytes ps → IsLater (laters_of ps) t (Some bytes)
among_later [] t bytes h = h
among_later (p ∷ ps) t bytes (inl here) = inl (here.0, ap (λ (b : List ℕ). Some b) (sym here.1))
among_later (p ∷ ps) t bytes (inr there) = inr (among_later ps t bytes there)

later_among : (ps : List Pair) (t : ℕ) (o : Option (List ℕ)) → IsLater (laters_of ps) t o → (bytes : List ℕ) × (o ≡ Some bytes) × IsAmong t bytes ps
later_among [] t o h = absurd h
later_among (p ∷ ps) t o (inl here) = (p.1, here.1, inl (here.0, refl))
later_among (p ∷ ps) t o (inr there) = let h = later_among ps t o there in (h.0, h.1, inr h.2)

-- ---- one file

-- a whole image of a layout is a sound one, by what it begins with
pub whole_sound : (l : Layout) (identifier file : List ℕ) → identifier ∷ [] ≡ identifiers_for l → IsWhole l file → IsSound (identifier ∷ []) l file
whole_sound l identifier file named whole = record {
  headed = subst (λ (ids : List (List ℕ)). IsHeaded ids l file) (sym named) whole.headed;
  clean = survey_of_image l file whole.image;
}

track_within : (ps : List Pair) (t : ℕ) (old new : Option (List ℕ)) → (new ≡ old) ⊎ IsLater (laters_of ps) t new → TrackLies t ps old new
track_within ps t old new (inl same) = inl same
track_within ps t old new (inr later) = inr (later_among ps t new later)

pub within_track : (ps : List Pair) (t : ℕ) (old new : Option (List ℕ)) → TrackLies t ps old new → (new ≡ old) ⊎ IsLater (laters_of ps) t new
within_track ps t old new (inl same) = inl same
within_track ps t old new (inr later) = inr (subst (IsLater (laters_of ps) t) (sym later.1) (among_later ps t later.0 later.2))

pub held_low : (l : Layout) (file : List ℕ) (t : ℕ) → t < track_count l.geo → held_tracks l file t ≡ held_in null_track l file t
held_low l file t low = rw (lt-ltb t (track_count l.geo) low)

pub held_high : (l : Layout) (file : List ℕ) (t : ℕ) → track_count l.geo ≤ t → held_tracks l file t ≡ None
held_high l file t high = rw (le-ltb t (track_count l.geo) high)

-- what a layer keeps of a file is what the stack keeps, where the hardened layer has nothing past the last track
pub keeps_holds : (l : Layout) (g : Geometry) (identifier : List ℕ) (hard : Layer) (ps : List Pair) (file : List ℕ) → identifier ∷ [] ≡ identifiers_for l → l.geo ≡ g
    → ((t : ℕ) → track_count g ≤ t → hard t ≡ None) → Keeps null_track l hard (laters_of ps) file → HoldsLies identifier g hard ps file
keeps_holds l g identifier hard ps file named shape past keeps = record {
  layer = held_tracks l file;
  holds = record { layout = l; sound = whole_sound l identifier file named keeps.whole; geometry = shape; covered = sound_is_covered (identifier ∷ []) l file (whole_sound l identifier file named keeps.whole); held = refl };
  lies = λ t. ⊎_elim
      (λ (low : t < track_count l.geo).
      subst (TrackLies t ps (hard t)) (sym (held_low l file t low)) (track_within ps t (hard t) (held_in null_track l file t) (keeps.lies.each t low)))
      (λ (high : track_count l.geo ≤ t). inl (held_high l file t high ∙ sym (past t (subst (λ (x : Geometry). track_count x ≤ t) shape high))))
      (cases_lt t (track_count l.geo));
}

-- and back, where the file is a whole image of the layer's layout
pub holds_keeps : (l : Layout) (g : Geometry) (identifier : List ℕ) (hard : Layer) (ps : List Pair) (file : List ℕ) → IsWhole l file → HoldsLies identifier g hard ps file
    → Keeps null_track l hard (laters_of ps) file
holds_keeps l g identifier hard ps file whole h =
    let same : h.holds.layout ≡ l = h.holds.sound.headed.says ∙ sym whole.headed.says in
    let held : h.layer ≡ held_tracks l file = h.holds.held ∙ ap (λ (x : Layout). held_tracks x file) same in
    record {
      whole = whole;
      lies = record {
        each = λ t low.
            let here : h.layer t ≡ held_in null_track l file t = ap (λ (m : Layer). m t) held ∙ held_low l file t low in
            within_track ps t (hard t) (held_in null_track l file t) (subst (TrackLies t ps (hard t)) here (h.lies t));
      };
    }

-- ---- the stack that was mounted

fresh_map : (s : LayerState) (file : List ℕ) → s.tables.stages ≡ nothing_staged → map_of null_track s file ≡ held_tracks s.tables.layout file
fresh_map s file none =
    ap {B = Layer} (λ (stages : Stages) (t : ℕ). if nat_lt t (track_count s.tables.layout.geo) then held null_track s.tables.layout stages file t else None) none

-- what the file of a slot begins with
abbrev pub identifier_in : ℕ → List ℕ
identifier_in zero = base_identifier
identifier_in (suc n) = shadow_identifier

only_one : (slot : ℕ) → identifiers_in slot ≡ identifier_in slot ∷ []
only_one zero = refl
only_one (suc n) = refl

holds_fresh : (limit slot : ℕ) (g : Geometry) (file : List ℕ) (s : LayerState) → IsFresh slot limit s → IsOf (roles_in slot) file s → s.tables.layout.geo ≡ g
    → HoldsLayer (identifier_in slot) g file (map_of null_track s file)
holds_fresh limit slot g file s fresh of shape = record {
  layout = s.tables.layout;
  sound = subst (λ (ids : List (List ℕ)). IsSound ids s.tables.layout file) (only_one slot) of.sound;
  geometry = shape;
  covered = sound_is_covered (identifiers_in slot) s.tables.layout file of.sound;
  held = fresh_map s file fresh.stages;
}

holds_at : (limit slot k n : ℕ) (g : Geometry) (files : ℕ → List ℕ) (layers : List LayerState) → k ≡ slot + n → n < length layers → AreFreshFrom limit slot layers → AreOfFrom files slot layers
    → AreLayersFrom g slot layers → HoldsLayer (identifier_in k) g (files k) (map_at (maps_of null_track layers files) n)
holds_at limit slot k n g files [] e low fresh of are = absurd (omega (arith, low))
holds_at limit slot k zero g files (x ∷ xs) e low fresh of are =
    let same : slot ≡ k = omega (arith, e) in
    subst (λ (j : ℕ). HoldsLayer (identifier_in j) g (files j) (map_of null_track x (files x.slot))) same
    (subst (λ (j : ℕ). HoldsLayer (identifier_in slot) g (files slot) (map_of null_track x (files j))) (sym are.0.slot_is) (holds_fresh limit slot g (files slot) x fresh.0 of.0 are.0.shape))
holds_at limit slot k (suc n) g files (x ∷ xs) e low fresh of are = holds_at limit (suc slot) k n g files xs (omega (arith, e)) (omega (arith, low)) fresh.1 of.1 are.1

pub count_to : (maps : List Layer) (n : ℕ) → layer_count (stack_to maps n) ≡ n + 1
count_to maps zero = refl
count_to maps (suc n) = ap (λ (k : ℕ). k + 1) (count_to maps n) ∙ (omega arith)

stand_to : (limit n : ℕ) (g : Geometry) (files : ℕ → List ℕ) (layers : List LayerState) → n < length layers → AreFreshFrom limit 0 layers → AreOfFrom files 0 layers → AreLayersFrom g 0 layers
    → StandIn g files (stack_to (maps_of null_track layers files) n)
stand_to limit zero g files layers low fresh of are = holds_at limit 0 0 0 g files layers refl low fresh of are
stand_to limit (suc n) g files layers low fresh of are =
    let maps = maps_of null_track layers files in
    let top : suc n ≡ layer_count (stack_to maps n) = omega (arith, count_to maps n) in (
      stand_to limit n g files layers (omega (arith, low)) fresh of are,
      subst (λ (k : ℕ). HoldsLayer shadow_identifier g (files k) (map_at maps (suc n))) top (holds_at limit 0 (suc n) (suc n) g files layers (omega arith) low fresh of are),
    )

-- the files open to the stack that was mounted of them
pub mounted_opens : (limit : ℕ) (files : ℕ → List ℕ) (s : StackState) → IsStack s → AreFreshFrom limit 0 s.layers → IsMounted files s → Opens s.geometry files (stack_of null_track s.layers files)
mounted_opens limit files s is fresh mounted =
    let maps = maps_of null_track s.layers files in
    let long : length maps ≡ length s.layers = maps_length null_track s.layers files in
    let count : layer_count (stack_by maps) ≡ length s.layers = omega (arith, count_to maps (length maps - 1), long, is.some) in
    record {
      stand = stand_to limit (length maps - 1) s.geometry files s.layers (omega (arith, long, is.some)) fresh mounted.are is.layers;
      few = omega (arith, count, is.few);
      above = λ slot high low. mounted.row.none slot (omega (arith, count, high)) low;
    }
