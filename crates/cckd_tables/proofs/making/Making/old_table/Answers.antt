use Rattle.std.proofs.Common.{◌≡◌, ◌/◌, ℕ, List, slice_index, refl, sym, ◌∙◌, ap}
use Rattle.cckd_base.specs.Numbers.{bytes_at}
use Rattle.cckd_base.specs.Entry.{entry_at}
use Rattle.cckd_base.specs.Image.{IsPlace}
use Rattle.cckd_shelf.specs.Seen.{seen, Tells}
use Rattle.cckd_shelf.specs.World.{IsSure, file_of}
use Rattle.cckd_tables.specs.Cells.{entry_among}
use Rattle.cckd_tables.specs.Making.{tables_of}
use Rattle.cckd_tables.proofs.MakingLemmas.{old_cached, old_read}
use Rattle.cckd_tables.proofs.LookLemmas.{on_ok_where}
use Rattle.cckd_tables.proofs.CacheLemmas.{frame_whole, table_peeked}
use Rattle.cckd_tables.proofs.making.Making.old_table.Goals as goal

pub copy_from_slice-requires : goal.copy_from_slice-requires
copy_from_slice-requires g c =
    let cache = c.args.self.now.cache.now in
    c.requires.size ∙ sym (frame_whole c.in-Some.frame.0 cache.entries c.bytes.result.now c.bytes.ensures c.in-Some.ensures.used c.requires.making.cache.whole)

pub returns-in-Some-clause-entries : goal.returns-in-Some-clause-entries
returns-in-Some-clause-entries g c = λ told sure t own.
    let m = c.args.self.now in
    let file = file_of (g.T.Shows.world c.args.stage.now) c.args.slot in
    let word = slice_index m.words.now c.args.group in
    let place : IsPlace word = (c.if-word-eq0.false, c.if-word.false) in
    let peeked = table_peeked m.cache.now c.args.group c.in-Some.frame.0 c.bytes.result.now c.requires.making.cache c.in-Some.ensures.found c.bytes.ensures in
    ap (λ (bs : List ℕ). entry_among m.layout.now.order bs t) c.copy_from_slice.ensures.after
    ∙ old_cached (tables_of m) file c.bytes.result.now c.args.group word t (c.requires.of told sure) c.requires.group refl place peeked own

pub returns-in-None-clause-entries : goal.returns-in-None-clause-entries
returns-in-None-clause-entries g c =
    let m = c.args.self.now in
    let s = seen g.T.Shows c.args.stage.now in
    let file = file_of (g.T.Shows.world c.args.stage.now) c.args.slot in
    let word = slice_index m.words.now c.args.group in
    let table = c.read_table.new.table in
    let place : IsPlace word = (c.if-word-eq0.false, c.if-word.false) in
    on_ok_where c.read_table.result (Tells s) (IsSure s.world) (table ≡ bytes_at file word 2048)
    ((t : ℕ) → t / 256 ≡ c.args.group → entry_among m.layout.now.order table t ≡ entry_at m.layout.now file t)
    (λ told sure is t own. old_read (tables_of m) file table c.args.group word t (c.requires.of told sure) c.requires.group refl place is own)
    c.read_table.ensures.bytes
