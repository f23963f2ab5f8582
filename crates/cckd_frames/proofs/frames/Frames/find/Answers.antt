use Rattle.std.proofs.Common.{◌≡◌, ℕ, List, refl, sym, ap, ◌∙◌, subst}
use Rattle.cckd_frames.specs.Frames.{Kept, frame_of, promoted, with_entries}
use Rattle.cckd_frames.specs.Table.{IsSound, IsTable}
use Rattle.cckd_frames.proofs.Calls.{moved, seen, found_at, none_at, kept_here, seen_used, seen_none, seen_brought, in_count}
use Rattle.cckd_frames.proofs.States.{peeked, sound_brought}
use Rattle.cckd_frames.proofs.frames.Frames.find.Goals as goal

pub returns-in_default-clause-found : goal.returns-in_default-clause-found
returns-in_default-clause-found c =
    let i = c.self.inside in
    let at = sym c.frame_with.ensures ∙ c.in_default.is in
    sym at ∙ (peeked i.count i.frame_len i.used i.nodes.words i.bytes.bytes c.self.invariant.0 c.args.key ∙ ap (λ (k : Kept). frame_of c.args.key k.entries) c.self.view_is)

pub returns-in_default-clause-order : goal.returns-in_default-clause-order
returns-in_default-clause-order c =
    let i = c.self.inside in
    let at = sym c.frame_with.ensures ∙ c.in_default.is in
    let none = none_at i.count i.frame_len i.used i.nodes.words i.bytes.bytes c.self.invariant.0 c.args.key at in
    subst (λ (k : Kept). k ≡ with_entries k (promoted c.args.key k.entries)) c.self.view_is (rw (none, promoted) refl)

pub returns-in_default-clause-kept : goal.returns-in_default-clause-kept
returns-in_default-clause-kept c = let i = c.self.inside in kept_here i.count i.frame_len i.used i.nodes.words i.bytes.bytes c.self.invariant.0 c.args.self.now c.self.view_is

pub bring-requires-clause-frame : goal.bring-requires-clause-frame
bring-requires-clause-frame c =
    let i = c.self.inside in
    let at = sym c.frame_with.ensures ∙ c.in-Some.is in
    in_count i.count i.frame_len i.used i.nodes.words i.bytes.bytes c.self.invariant.0 c.in-Some.frame (found_at i.count i.frame_len i.used i.nodes.words i.bytes.bytes c.self.invariant.0 c.args.key c.in-Some.frame at).0

pub invariant_of-self : goal.invariant_of-self
invariant_of-self c =
    let i = c.self.inside in let x = c.in-Some.frame in
    let at = sym c.frame_with.ensures ∙ c.in-Some.is in
    let h = (found_at i.count i.frame_len i.used i.nodes.words i.bytes.bytes c.self.invariant.0 c.args.key x at).0 in
    let back = c.bring.ensures.brought in (
      subst (λ (l : List ℕ). IsSound i.count i.frame_len i.used l i.bytes.bytes) (sym back)
          (sound_brought i.count i.frame_len i.used i.nodes.words i.bytes.bytes c.self.invariant.0 x h (subst (λ (l : List ℕ). IsTable i.count l) back c.bring.ensures.table)),
      moved i.count i.frame_len c.bring.ensures.first c.self.invariant.1,
    )

pub returns-clause-found : goal.returns-clause-found
returns-clause-found c =
    let i = c.self.inside in
    let at = sym c.frame_with.ensures ∙ c.in-Some.is in
    sym at ∙ (peeked i.count i.frame_len i.used i.nodes.words i.bytes.bytes c.self.invariant.0 c.args.key ∙ ap (λ (k : Kept). frame_of c.args.key k.entries) c.self.view_is)

pub returns-clause-order : goal.returns-clause-order
returns-clause-order c =
    let i = c.self.inside in let x = c.in-Some.frame in
    let at = sym c.frame_with.ensures ∙ c.in-Some.is in
    let f = found_at i.count i.frame_len i.used i.nodes.words i.bytes.bytes c.self.invariant.0 c.args.key x at in
    let back = c.bring.ensures.brought in
    seen_brought i.count i.frame_len i.used i.nodes.words i.bytes.bytes c.self.invariant.0 c.args.self.now c.self.view_is c.args.key x
    c.bring.new.nodes.words back f.0 f.1

pub returns-clause-kept : goal.returns-clause-kept
returns-clause-kept c =
    let i = c.self.inside in let ws = c.bring.new.nodes.words in
    kept_here i.count i.frame_len i.used ws i.bytes.bytes (invariant_of-self c).0 (seen i.count i.frame_len i.used ws i.bytes.bytes) refl

pub returns-in_default-clause-absent : goal.returns-in_default-clause-absent
returns-in_default-clause-absent c =
    let i = c.self.inside in
    let at = sym c.frame_with.ensures ∙ c.in_default.is in
    λ _. seen_none i.count i.frame_len i.used i.nodes.words i.bytes.bytes c.self.invariant.0 c.args.self.now c.self.view_is c.args.key (none_at i.count i.frame_len i.used i.nodes.words i.bytes.bytes c.self.invariant.0 c.args.key at)

pub returns-clause-used : goal.returns-clause-used
returns-clause-used c =
    let i = c.self.inside in let x = c.in-Some.frame in let ws = c.bring.new.nodes.words in
    let at = sym c.frame_with.ensures ∙ c.in-Some.is in
    seen_used i.count i.frame_len i.used ws i.bytes.bytes (invariant_of-self c).0 x (found_at i.count i.frame_len i.used i.nodes.words i.bytes.bytes c.self.invariant.0 c.args.key x at).0
