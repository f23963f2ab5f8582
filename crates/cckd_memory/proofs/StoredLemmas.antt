-- The nine slots and the files of a stage in memory stay as the events say.
use Rattle.std.proofs.Common.{◌≡◌, ℕ, ◌<◌, ◌==◌, Bool, true, false, cond, List, [], ◌∷◌, length, map, take, zero, suc, set, Option, Some, None, unwrap_or, option_map, refl, sym, ◌∙◌, ap, subst, inl, inr, arith}
use Rattle.std.specs.Prelude.{◌&&◌, ◌||◌, not}
use Rattle.std.proofs.Math.Path.{fun_ext}
use Rattle.std.specs.Str.{bytes_eq}
use Rattle.std.proofs.lemmas.Bool.{cases_Bool, cond-true, cond-false, eq-eqb, ne_eqb, eqb-true, eqb-false}
use Rattle.std.proofs.lemmas.List.{length-set, length-map, get_or-set_same, get_or-set_other}
use Rattle.cckd_memory.specs.declared.places.Place.{Place}
use Rattle.cckd_shelf.specs.Files.{overlaid}
use Rattle.cckd_shelf.specs.Events.{Event, Bound, Name, Named, Nameless, is_name, name_of, was_bound, is_same, named_by, goes_by, is_about, held_now, file_now}
use Rattle.cckd_shelf.specs.World.{World, with_file, with_present}
use Rattle.cckd_shelf.proofs.NameLemmas.{same_text, text_is, same_is, name_was_bound}
use Rattle.cckd_memory.specs.Ops.{event_of, write_op, cut_op}
use Rattle.cckd_memory.specs.Inside.{IsStored, no_place, place_at, without, content, content_by, loose_after, with_content}

abbrev pub the_world : (List ℕ → Option (List ℕ)) → List Event → List ℕ → World
the_world files events script = record { files = files; events = events; script = script }

map_at : (f : Place → Place) → f no_place ≡ no_place → (ps : List Place) (k : ℕ) → place_at (map f ps) k ≡ f (place_at ps k)
map_at f e [] k = sym e
map_at f e (p ∷ ps) zero = refl
map_at f e (p ∷ ps) (suc k) = map_at f e ps k

without_name : (name : List ℕ) (p : Place) → (without name p).name ≡ cond (is_name p.name name) None p.name
without_name name p = elim (is_name p.name name) as (λ b. (cond b no_place p).name ≡ cond b None p.name) [ true ↦ refl | false ↦ refl ]

content_is : (files : List ℕ → Option (List ℕ)) (ps : List Place) (es : List Event) (slot : ℕ) (own : Option (List ℕ)) → IsStored files ps es → (place_at ps slot).name ≡ own
    → content_by files own (place_at ps slot).loose ≡ held_now es (named_by slot own)
content_is files ps es slot None h e = h.nameless slot e
content_is files ps es slot (Some name) h e = h.named name (name_was_bound es slot name (sym (h.names slot) ∙ e))

-- a slot holds the file that it has now
pub stored_content : (files : List ℕ → Option (List ℕ)) (ps : List Place) (es : List Event) (slot : ℕ) → IsStored files ps es → content files (place_at ps slot) ≡ file_now es slot
stored_content files ps es slot h =
    content_is files ps es slot (place_at ps slot).name h refl ∙ ap (λ (o : Option (List ℕ)). held_now es (named_by slot o)) (h.names slot)

-- a slot gets the file of a name

begun_holds : (here bound : Bool) (bytes now : List ℕ) (files : List ℕ → Option (List ℕ)) (name other : List ℕ)
    → here ≡ bytes_eq name other → bytes ≡ unwrap_or (files name) [] → (bound ≡ true → unwrap_or (files other) [] ≡ now) → (here || bound) ≡ true
    → unwrap_or (files other) [] ≡ unwrap_or (cond (here && not bound) (Some bytes) None) now
begun_holds true true bytes now files name other e same kept k = kept refl
begun_holds true false bytes now files name other e same kept k =
    ap (λ (n : List ℕ). unwrap_or (files n) []) (sym (text_is name other (sym e))) ∙ sym same
begun_holds false bound bytes now files name other e same kept k = kept k

lost_by : (lost : Bool) (p : Place) (now : List ℕ) → (p.name ≡ None → p.loose ≡ now) → (cond lost no_place p).name ≡ None
    → (cond lost no_place p).loose ≡ unwrap_or (cond lost (Some []) None) now
lost_by true p now h e = refl
lost_by false p now h e = h e

lost : (o own : Option (List ℕ)) (name now : List ℕ) (p : Place) → p.name ≡ o → o ≡ own → (p.name ≡ None → p.loose ≡ now) → (without name p).name ≡ None
    → (without name p).loose ≡ unwrap_or (cond (is_name own name) (Some []) None) now
lost o own name now p e f h none =
    lost_by (is_name p.name name) p now h none ∙ ap (λ (x : Option (List ℕ)). unwrap_or (cond (is_name x name) (Some []) None) now) (e ∙ f)

pub stored_bind : (files : List ℕ → Option (List ℕ)) (ps : List Place) (es : List Event) (slot : ℕ) (name bytes : List ℕ)
    → IsStored files ps es → slot < 9 → bytes ≡ unwrap_or (files name) []
    → IsStored files (set (map (without name) ps) slot (record { name = Some name; loose = [] })) (Bound slot name bytes ∷ es)
stored_bind files ps es slot name bytes h low e =
    let long : slot < length (map (without name) ps) = omega (arith, length-map ps (without name), h.nine) in
    let own : place_at (set (map (without name) ps) slot (record { name = Some name; loose = [] })) slot ≡ record { name = Some name; loose = [] } =
    get_or-set_same (map (without name) ps) slot _ no_place long in
    record {
      nine = length-set (map (without name) ps) slot _ ∙ (length-map ps (without name) ∙ h.nine);
      names = λ k. elim (cases_Bool (slot == k)) [
        | inl a ↦ let here : slot ≡ k = eqb-true slot k a in
            subst (λ (n : ℕ). (place_at (set (map (without name) ps) slot (record { name = Some name; loose = [] })) n).name ≡ name_of (Bound slot name bytes ∷ es) k) here
            (ap (λ (p : Place). p.name) own ∙ sym (cond-true (slot == k) (Some name) _ a))
        | inr a ↦ let other : k ≡ slot → ⊥ = λ q. eqb-false slot k a (sym q) in
            ap (λ (p : Place). p.name) (get_or-set_other (map (without name) ps) slot k _ no_place other ∙ map_at (without name) refl ps k)
            ∙ (without_name name (place_at ps k)
            ∙ (ap (λ (o : Option (List ℕ)). cond (is_name o name) None o) (h.names k) ∙ sym (cond-false (slot == k) (Some name) _ a)))
      ];
      named = λ other k. begun_holds (bytes_eq name other) (was_bound es other) bytes (held_now es (Named other)) files name other refl e (h.named other) k;
      nameless = λ k none. elim (cases_Bool (slot == k)) [
        | inl a ↦ let here : slot ≡ k = eqb-true slot k a in
            let has : Some name ≡ None = sym (ap (λ (p : Place). p.name) own) ∙ subst (λ (n : ℕ). (place_at (set (map (without name) ps) slot (record { name = Some name; loose = [] })) n).name ≡ None) (sym here) none in
            cc
        | inr a ↦ let other : k ≡ slot → ⊥ = λ q. eqb-false slot k a (sym q) in
            let at : place_at (set (map (without name) ps) slot (record { name = Some name; loose = [] })) k ≡ without name (place_at ps k) =
            get_or-set_other (map (without name) ps) slot k _ no_place other ∙ map_at (without name) refl ps k in
            ap (λ (p : Place). p.loose) at
            ∙ lost (place_at ps k).name (name_of es k) name (held_now es (Nameless k)) (place_at ps k) refl (h.names k) (h.nameless k) (sym (ap (λ (p : Place). p.name) at) ∙ none)
      ];
    }

-- the files after the one of a slot's name got other bytes
pub record Puts (files new : List ℕ → Option (List ℕ)) (own : Option (List ℕ)) (bytes : List ℕ) : Type 0 where
  pub here : (name : List ℕ) → own ≡ Some name → unwrap_or (new name) [] ≡ bytes
  pub others : (name other : List ℕ) → own ≡ Some name → bytes_eq name other ≡ false → new other ≡ files other
  pub none : own ≡ None → (other : List ℕ) → new other ≡ files other

pub puts_file : (files new : List ℕ → Option (List ℕ)) (own : Option (List ℕ)) (bytes : List ℕ)
    → ((other : List ℕ) → new other ≡ with_file files own bytes other) → Puts files new own bytes
puts_file files new own bytes h = record {
  here = λ name e. ap (λ (o : Option (List ℕ)). unwrap_or o []) (h name ∙ (ap (λ (o : Option (List ℕ)). with_file files o bytes name) e ∙ cond-true (bytes_eq name name) (Some bytes) (files name) (same_text name)));
  others = λ name other e k. h other ∙ (ap (λ (o : Option (List ℕ)). with_file files o bytes other) e ∙ cond-false (bytes_eq name other) (Some bytes) (files other) k);
  none = λ e other. h other ∙ ap (λ (o : Option (List ℕ)). with_file files o bytes other) e;
}

cut_or_absent : (o : Option (List ℕ)) (len : ℕ) → unwrap_or (option_map (λ (_ : List ℕ). take len (unwrap_or o [])) o) [] ≡ take len (unwrap_or o [])
cut_or_absent None zero = refl
cut_or_absent None (suc len) = refl
cut_or_absent (Some bytes) len = refl

pub puts_cut : (files new : List ℕ → Option (List ℕ)) (own : Option (List ℕ)) (loose : List ℕ) (len : ℕ)
    → ((other : List ℕ) → new other ≡ with_present files own (take len (content_by files own loose)) other) → Puts files new own (take len (content_by files own loose))
puts_cut files new None loose len h = record {
  here = λ name e. cc;
  others = λ name other e k. cc;
  none = λ e other. h other;
}
puts_cut files new (Some own) loose len h = record {
  here = λ name e. let same : own ≡ name = cc in
      subst (λ (n : List ℕ). unwrap_or (new n) [] ≡ take len (unwrap_or (files own) [])) same
      (ap (λ (o : Option (List ℕ)). unwrap_or o []) (h own ∙ cond-true (bytes_eq own own) (option_map (λ (_ : List ℕ). take len (unwrap_or (files own) [])) (files own)) (files own) (same_text own)) ∙ cut_or_absent (files own) len);
  others = λ name other e k. let same : name ≡ own = cc in
      h other ∙ cond-false (bytes_eq own other) _ (files other) (subst (λ (n : List ℕ). bytes_eq n other ≡ false) same k);
  none = λ e other. cc;
}

-- The file of one slot gets other bytes. What its name then holds, and any other one,
named_holds : (files new : List ℕ → Option (List ℕ)) (slot : ℕ) (own : Option (List ℕ)) (bytes now other : List ℕ) → Puts files new own bytes
    → unwrap_or (files other) [] ≡ now → unwrap_or (new other) [] ≡ cond (is_same (named_by slot own) (Named other)) bytes now
named_holds files new slot None bytes now other puts e = ap (λ (o : Option (List ℕ)). unwrap_or o []) (puts.none refl other) ∙ e
named_holds files new slot (Some own) bytes now other puts e =
    elim (cases_Bool (bytes_eq own other)) [
      | inl k ↦ puts.here other (ap (λ (n : List ℕ). Some n) (text_is own other k)) ∙ sym (cond-true (bytes_eq own other) bytes now k)
      | inr k ↦ ap (λ (o : Option (List ℕ)). unwrap_or o []) (puts.others own other refl k) ∙ (e ∙ sym (cond-false (bytes_eq own other) bytes now k))
    ]

-- and what a slot without a name holds
own_loose : (slot : ℕ) (own : Option (List ℕ)) (old bytes now : List ℕ) → own ≡ None → loose_after own old bytes ≡ cond (is_same (named_by slot own) (Nameless slot)) bytes now
own_loose slot None old bytes now e = sym (cond-true (slot == slot) bytes now (eq-eqb slot slot refl))
own_loose slot (Some name) old bytes now e = cc

other_loose : (slot k : ℕ) (own : Option (List ℕ)) (bytes now : List ℕ) → (slot ≡ k → ⊥) → now ≡ cond (is_same (named_by slot own) (Nameless k)) bytes now
other_loose slot k None bytes now apart = sym (cond-false (slot == k) bytes now (ne_eqb slot k apart))
other_loose slot k (Some name) bytes now apart = refl

pub stored_change : (files new : List ℕ → Option (List ℕ)) (ps : List Place) (es more : List Event) (slot : ℕ) (bytes : List ℕ)
    → IsStored files ps es → slot < 9 → Puts files new (name_of es slot) bytes
    → ((k : ℕ) → name_of more k ≡ name_of es k) → ((name : List ℕ) → was_bound more name ≡ was_bound es name)
    → ((name : Name) → held_now more name ≡ cond (is_about es slot name) bytes (held_now es name))
    → IsStored new (set ps slot (with_content (place_at ps slot) bytes)) more
stored_change files new ps es more slot bytes h low puts named bound changed =
    let long : slot < length ps = omega (arith, h.nine) in
    let own : place_at (set ps slot (with_content (place_at ps slot) bytes)) slot ≡ with_content (place_at ps slot) bytes = get_or-set_same ps slot _ no_place long in
    record {
      nine = length-set ps slot _ ∙ h.nine;
      names = λ k. elim (cases_Bool (slot == k)) [
        | inl a ↦ let here : slot ≡ k = eqb-true slot k a in
            subst (λ (n : ℕ). (place_at (set ps slot (with_content (place_at ps slot) bytes)) n).name ≡ name_of more n) here
            (ap (λ (p : Place). p.name) own ∙ (h.names slot ∙ sym (named slot)))
        | inr a ↦ ap (λ (p : Place). p.name) (get_or-set_other ps slot k _ no_place (λ q. eqb-false slot k a (sym q))) ∙ (h.names k ∙ sym (named k))
      ];
      named = λ other k. named_holds files new slot (name_of es slot) bytes (held_now es (Named other)) other puts (h.named other (sym (bound other) ∙ k)) ∙ sym (changed (Named other));
      nameless = λ k none. elim (cases_Bool (slot == k)) [
        | inl a ↦ let here : slot ≡ k = eqb-true slot k a in
            subst (λ (n : ℕ). (place_at (set ps slot (with_content (place_at ps slot) bytes)) n).name ≡ None → (place_at (set ps slot (with_content (place_at ps slot) bytes)) n).loose ≡ held_now more (Nameless n)) here
            (λ free. ap (λ (p : Place). p.loose) own
            ∙ (own_loose slot (place_at ps slot).name (place_at ps slot).loose bytes (held_now es (Nameless slot)) (sym (ap (λ (p : Place). p.name) own) ∙ free)
            ∙ (ap (λ (o : Option (List ℕ)). cond (is_same (named_by slot o) (Nameless slot)) bytes (held_now es (Nameless slot))) (h.names slot) ∙ sym (changed (Nameless slot))))) none
        | inr a ↦ let at : place_at (set ps slot (with_content (place_at ps slot) bytes)) k ≡ place_at ps k = get_or-set_other ps slot k _ no_place (λ q. eqb-false slot k a (sym q)) in
            ap (λ (p : Place). p.loose) at ∙ (h.nameless k (sym (ap (λ (p : Place). p.name) at) ∙ none)
            ∙ (other_loose slot k (name_of es slot) bytes (held_now es (Nameless k)) (eqb-false slot k a) ∙ sym (changed (Nameless k))))
      ];
    }

-- what is done to a slot's own file, said of the file of any name
own_file : (f : List ℕ → List ℕ) (es : List Event) (slot : ℕ) (name : Name)
    → cond (is_about es slot name) (f (held_now es name)) (held_now es name) ≡ cond (is_about es slot name) (f (file_now es slot)) (held_now es name)
own_file f es slot name =
    elim (cases_Bool (is_about es slot name)) [
      | inl a ↦ ap (λ (n : Name). cond (is_about es slot name) (f (held_now es n)) (held_now es name)) (sym (same_is (goes_by es slot) name a))
      | inr a ↦ cond-false (is_about es slot name) _ (held_now es name) a ∙ sym (cond-false (is_about es slot name) (f (file_now es slot)) (held_now es name) a)
    ]

named_write : (half : Bool) (slot position : ℕ) (bytes : List ℕ) (es : List Event) (k : ℕ) → name_of (event_of (write_op half slot position bytes) ∷ es) k ≡ name_of es k
named_write true slot position bytes es k = refl
named_write false slot position bytes es k = refl

bound_write : (half : Bool) (slot position : ℕ) (bytes : List ℕ) (es : List Event) (name : List ℕ) → was_bound (event_of (write_op half slot position bytes) ∷ es) name ≡ was_bound es name
bound_write true slot position bytes es name = refl
bound_write false slot position bytes es name = refl

held_write : (half : Bool) (slot position : ℕ) (bytes : List ℕ) (es : List Event) (name : Name)
    → held_now (event_of (write_op half slot position bytes) ∷ es) name ≡ cond (is_about es slot name) (overlaid (held_now es name) position bytes) (held_now es name)
held_write true slot position bytes es name = refl
held_write false slot position bytes es name = refl

-- after a write, whole or half
pub stored_overlay : (files new : List ℕ → Option (List ℕ)) (ps : List Place) (es : List Event) (half : Bool) (slot position : ℕ) (bytes : List ℕ) (p changed : Place)
    → IsStored files ps es → slot < 9 → p ≡ place_at ps slot
    → ((other : List ℕ) → new other ≡ with_file files p.name (overlaid (content files p) position bytes) other)
    → changed ≡ with_content p (overlaid (content files p) position bytes)
    → IsStored new (set ps slot changed) (event_of (write_op half slot position bytes) ∷ es)
stored_overlay files new ps es half slot position bytes p changed h low here puts place =
    let own : p.name ≡ name_of es slot = ap (λ (q : Place). q.name) here ∙ h.names slot in
    let was : content files p ≡ file_now es slot = ap (content files) here ∙ stored_content files ps es slot h in
    subst (λ (q : Place). IsStored new (set ps slot q) (event_of (write_op half slot position bytes) ∷ es))
    (ap (λ (q : Place). with_content q (overlaid (content files p) position bytes)) (sym here) ∙ sym place)
    (stored_change files new ps es (event_of (write_op half slot position bytes) ∷ es) slot (overlaid (content files p) position bytes) h low
    (puts_file files new (name_of es slot) _ (λ other. puts other ∙ ap (λ (o : Option (List ℕ)). with_file files o (overlaid (content files p) position bytes) other) own))
    (named_write half slot position bytes es) (bound_write half slot position bytes es)
    (λ name. held_write half slot position bytes es name
    ∙ (own_file (λ f. overlaid f position bytes) es slot name ∙ ap (λ f. cond (is_about es slot name) (overlaid f position bytes) (held_now es name)) (sym was))))

pub files_overlay : (files new : List ℕ → Option (List ℕ)) (ps : List Place) (es : List Event) (slot position : ℕ) (bytes : List ℕ) (p : Place)
    → IsStored files ps es → p ≡ place_at ps slot
    → ((other : List ℕ) → new other ≡ with_file files p.name (overlaid (content files p) position bytes) other)
    → new ≡ with_file files (name_of es slot) (overlaid (file_now es slot) position bytes)
files_overlay files new ps es slot position bytes p h here puts =
    let own : p.name ≡ name_of es slot = ap (λ (q : Place). q.name) here ∙ h.names slot in
    let was : content files p ≡ file_now es slot = ap (content files) here ∙ stored_content files ps es slot h in
    fun_ext (λ other. puts other ∙ (ap (λ (o : Option (List ℕ)). with_file files o (overlaid (content files p) position bytes) other) own
    ∙ ap (λ f. with_file files (name_of es slot) (overlaid f position bytes) other) was))

named_cut : (half : Bool) (slot len : ℕ) (es : List Event) (k : ℕ) → name_of (event_of (cut_op half slot len) ∷ es) k ≡ name_of es k
named_cut true slot len es k = refl
named_cut false slot len es k = refl

bound_cut : (half : Bool) (slot len : ℕ) (es : List Event) (name : List ℕ) → was_bound (event_of (cut_op half slot len) ∷ es) name ≡ was_bound es name
bound_cut true slot len es name = refl
bound_cut false slot len es name = refl

held_cut : (half : Bool) (slot len : ℕ) (es : List Event) (name : Name)
    → held_now (event_of (cut_op half slot len) ∷ es) name ≡ cond (is_about es slot name) (take len (held_now es name)) (held_now es name)
held_cut true slot len es name = refl
held_cut false slot len es name = refl

-- after a cut, whole or half
pub stored_cut : (files new : List ℕ → Option (List ℕ)) (ps : List Place) (es : List Event) (half : Bool) (slot len : ℕ) (p changed : Place)
    → IsStored files ps es → slot < 9 → p ≡ place_at ps slot
    → ((other : List ℕ) → new other ≡ with_present files p.name (take len (content files p)) other)
    → changed ≡ with_content p (take len (content files p))
    → IsStored new (set ps slot changed) (event_of (cut_op half slot len) ∷ es)
stored_cut files new ps es half slot len p changed h low here puts place =
    let own : p.name ≡ name_of es slot = ap (λ (q : Place). q.name) here ∙ h.names slot in
    let was : content files p ≡ file_now es slot = ap (content files) here ∙ stored_content files ps es slot h in
    subst (λ (q : Place). IsStored new (set ps slot q) (event_of (cut_op half slot len) ∷ es))
    (ap (λ (q : Place). with_content q (take len (content files p))) (sym here) ∙ sym place)
    (stored_change files new ps es (event_of (cut_op half slot len) ∷ es) slot (take len (content files p)) h low
    (subst (λ (o : Option (List ℕ)). Puts files new o (take len (content files p))) own (puts_cut files new p.name p.loose len puts))
    (named_cut half slot len es) (bound_cut half slot len es)
    (λ name. held_cut half slot len es name
    ∙ (own_file (take len) es slot name ∙ ap (λ f. cond (is_about es slot name) (take len f) (held_now es name)) (sym was))))

pub files_cut : (files new : List ℕ → Option (List ℕ)) (ps : List Place) (es : List Event) (slot len : ℕ) (p : Place)
    → IsStored files ps es → p ≡ place_at ps slot
    → ((other : List ℕ) → new other ≡ with_present files p.name (take len (content files p)) other)
    → new ≡ with_present files (name_of es slot) (take len (file_now es slot))
files_cut files new ps es slot len p h here puts =
    let own : p.name ≡ name_of es slot = ap (λ (q : Place). q.name) here ∙ h.names slot in
    let was : content files p ≡ file_now es slot = ap (content files) here ∙ stored_content files ps es slot h in
    fun_ext (λ other. puts other ∙ (ap (λ (o : Option (List ℕ)). with_present files o (take len (content files p)) other) own
    ∙ ap (λ f. with_present files (name_of es slot) (take len f) other) was))

-- worlds with the same parts
pub same_world : {files new : List ℕ → Option (List ℕ)} {events more : List Event} {script : List ℕ} → files ≡ new → events ≡ more
    → the_world files events script ≡ the_world new more script
same_world {files} {new} {events} {more} {script} e f =
    ap (λ (x : List ℕ → Option (List ℕ)). the_world x events script) e ∙ ap (λ (x : List Event). the_world new x script) f
