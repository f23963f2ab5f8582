use Rattle.std.proofs.Common.{◌≡◌, ℕ, List, refl, sym, ap, ◌∙◌, subst}
use Rattle.cckd_frames.specs.Frames.{Entry, Kept, with_entries, with_mark}
use Rattle.cckd_frames.specs.Table.{IsSound, IsTable}
use Rattle.cckd_frames.proofs.Calls.{moved, seen, used_here, in_count, kept_here, seen_used}
use Rattle.cckd_frames.proofs.Writes.{sound_marked, entries_marked}
use Rattle.cckd_frames.proofs.frames.Frames.mark.Goals as goal

pub put_mark-requires-clause-frame : goal.put_mark-requires-clause-frame
put_mark-requires-clause-frame c =
    let i = c.self.inside in in_count i.count i.frame_len i.used i.nodes.words i.bytes.bytes c.self.invariant.0 c.args.f.0 (used_here i.count i.frame_len i.used i.nodes.words i.bytes.bytes c.self.invariant.0 c.args.self.now c.self.view_is c.args.f.0 c.requires)

pub invariant_of-self : goal.invariant_of-self
invariant_of-self c =
    let i = c.self.inside in let x = c.args.f.0 in
    let back = c.put_mark.ensures.marked in (
      subst (λ (l : List ℕ). IsSound i.count i.frame_len i.used l i.bytes.bytes) (sym back)
          (sound_marked i.count i.frame_len i.used i.nodes.words i.bytes.bytes c.self.invariant.0 x c.args.at (subst (λ (l : List ℕ). IsTable i.count l) back c.put_mark.ensures.table)),
      moved i.count i.frame_len c.put_mark.ensures.first c.self.invariant.1,
    )

pub returns-clause-marked : goal.returns-clause-marked
returns-clause-marked c =
    let i = c.self.inside in let x = c.args.f.0 in
    let h = used_here i.count i.frame_len i.used i.nodes.words i.bytes.bytes c.self.invariant.0 c.args.self.now c.self.view_is x c.requires in
    let back = c.put_mark.ensures.marked in
    subst (λ (k : Kept). seen i.count i.frame_len i.used (c.put_mark.new.nodes.words) i.bytes.bytes ≡ with_entries k (with_mark x c.args.at k.entries)) c.self.view_is
    (ap (λ (l : List ℕ). seen i.count i.frame_len i.used l i.bytes.bytes) back
    ∙ ap (λ (es : List Entry). with_entries (seen i.count i.frame_len i.used i.nodes.words i.bytes.bytes) es) (entries_marked i.count i.frame_len i.used i.nodes.words i.bytes.bytes c.self.invariant.0 x c.args.at h))

pub returns-clause-kept : goal.returns-clause-kept
returns-clause-kept c =
    let i = c.self.inside in let ws = c.put_mark.new.nodes.words in
    kept_here i.count i.frame_len i.used ws i.bytes.bytes (invariant_of-self c).0 (seen i.count i.frame_len i.used ws i.bytes.bytes) refl

pub returns-clause-used : goal.returns-clause-used
returns-clause-used c =
    let i = c.self.inside in let x = c.args.f.0 in let ws = c.put_mark.new.nodes.words in
    seen_used i.count i.frame_len i.used ws i.bytes.bytes (invariant_of-self c).0 x (used_here i.count i.frame_len i.used i.nodes.words i.bytes.bytes c.self.invariant.0 c.args.self.now c.self.view_is x c.requires)
