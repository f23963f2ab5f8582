use Rattle.std.proofs.Common.{◌≡◌, ◌*◌, ◌≤◌, ℕ, List, length, refl, sym, ap, ◌∙◌, subst, arith}
use Rattle.cckd_frames.specs.Frames.{Entry, Kept, with_entries, with_body}
use Rattle.cckd_frames.specs.Store.{over}
use Rattle.cckd_frames.specs.Table.{IsSound, IsTable}
use Rattle.cckd_frames.proofs.ByteLemmas.{length-over, length-part}
use Rattle.cckd_frames.proofs.Calls.{moved, seen, used_here, in_count, kept_here, seen_used}
use Rattle.cckd_frames.proofs.Writes.{frame_inside, sound_len, entries_copied}
use Rattle.cckd_frames.proofs.frames.Frames.copy.Goals as goal

pub part_mut-requires : goal.part_mut-requires
part_mut-requires c =
    let i = c.self.inside in let x = c.args.f.0 in
    let hx = used_here i.count i.frame_len i.used i.nodes.words i.bytes.bytes c.self.invariant.0 c.args.self.now c.self.view_is x c.requires.used in
    let fits = subst (λ (k : Kept). length c.args.bytes.now ≤ k.frame_len) (sym c.self.view_is) c.requires.fits in
    let inside = frame_inside i.count i.frame_len i.used i.nodes.words i.bytes.bytes c.self.invariant.0 x hx in omega arith

pub put_len-requires-clause-frame : goal.put_len-requires-clause-frame
put_len-requires-clause-frame c =
    let i = c.self.inside in in_count i.count i.frame_len i.used i.nodes.words i.bytes.bytes c.self.invariant.0 c.args.f.0 (used_here i.count i.frame_len i.used i.nodes.words i.bytes.bytes c.self.invariant.0 c.args.self.now c.self.view_is c.args.f.0 c.requires.used)

pub invariant_of-self : goal.invariant_of-self
invariant_of-self c =
    let i = c.self.inside in let x = c.args.f.0 in let n = length c.args.bytes.now in let at = x * i.frame_len in
    let hx = used_here i.count i.frame_len i.used i.nodes.words i.bytes.bytes c.self.invariant.0 c.args.self.now c.self.view_is x c.requires.used in
    let fits = subst (λ (k : Kept). n ≤ k.frame_len) (sym c.self.view_is) c.requires.fits in
    let back = c.put_len.ensures.len in
    let inside = frame_inside i.count i.frame_len i.used i.nodes.words i.bytes.bytes c.self.invariant.0 x hx in (
      subst (λ (l : List ℕ). IsSound i.count i.frame_len i.used l (over at n i.bytes.bytes c.copy_from_slice.new.self)) (sym back)
          (sound_len i.count i.frame_len i.used i.nodes.words i.bytes.bytes c.self.invariant.0 x n (over at n i.bytes.bytes c.copy_from_slice.new.self) (in_count i.count i.frame_len i.used i.nodes.words i.bytes.bytes c.self.invariant.0 x hx) fits
          (length-over at n i.bytes.bytes c.copy_from_slice.new.self (omega arith)) (subst (λ (l : List ℕ). IsTable i.count l) back c.put_len.ensures.table)),
      moved i.count i.frame_len c.put_len.ensures.first c.self.invariant.1,
    )

pub copy_from_slice-requires : goal.copy_from_slice-requires
copy_from_slice-requires c =
    let i = c.self.inside in let x = c.args.f.0 in let n = length c.args.bytes.now in
    let hx = used_here i.count i.frame_len i.used i.nodes.words i.bytes.bytes c.self.invariant.0 c.args.self.now c.self.view_is x c.requires.used in
    let fits = subst (λ (k : Kept). n ≤ k.frame_len) (sym c.self.view_is) c.requires.fits in
    let inside = frame_inside i.count i.frame_len i.used i.nodes.words i.bytes.bytes c.self.invariant.0 x hx in
    ap (λ (l : List ℕ). length l) c.part_mut.ensures.value ∙ length-part (x * i.frame_len) n i.bytes.bytes (omega arith)

pub returns-clause-copied : goal.returns-clause-copied
returns-clause-copied c =
    let i = c.self.inside in let x = c.args.f.0 in let bytes = c.args.bytes.now in let n = length bytes in let at = x * i.frame_len in
    let hx = used_here i.count i.frame_len i.used i.nodes.words i.bytes.bytes c.self.invariant.0 c.args.self.now c.self.view_is x c.requires.used in
    let fits = subst (λ (k : Kept). n ≤ k.frame_len) (sym c.self.view_is) c.requires.fits in
    subst (λ (k : Kept). seen i.count i.frame_len i.used c.put_len.new.nodes.words (over at n i.bytes.bytes c.copy_from_slice.new.self) ≡ with_entries k (with_body x bytes k.entries)) c.self.view_is
    ((λ j. seen i.count i.frame_len i.used (c.put_len.ensures.len j) (over at n i.bytes.bytes (c.copy_from_slice.ensures.after j)))
    ∙ ap (λ (es : List Entry). with_entries (seen i.count i.frame_len i.used i.nodes.words i.bytes.bytes) es) (entries_copied i.count i.frame_len i.used i.nodes.words i.bytes.bytes c.self.invariant.0 x bytes hx fits))

pub returns-clause-used : goal.returns-clause-used
returns-clause-used c =
    let i = c.self.inside in let x = c.args.f.0 in let ws = c.put_len.new.nodes.words in
    let bs = over (x * i.frame_len) (length c.args.bytes.now) i.bytes.bytes c.copy_from_slice.new.self in
    seen_used i.count i.frame_len i.used ws bs (invariant_of-self c).0 x (used_here i.count i.frame_len i.used i.nodes.words i.bytes.bytes c.self.invariant.0 c.args.self.now c.self.view_is x c.requires.used)

pub returns-clause-kept : goal.returns-clause-kept
returns-clause-kept c =
    let i = c.self.inside in let ws = c.put_len.new.nodes.words in
    let bs = over (c.args.f.0 * i.frame_len) (length c.args.bytes.now) i.bytes.bytes c.copy_from_slice.new.self in
    kept_here i.count i.frame_len i.used ws bs (invariant_of-self c).0 (seen i.count i.frame_len i.used ws bs) refl
