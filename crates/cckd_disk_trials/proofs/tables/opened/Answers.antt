use Rattle.std.proofs.Common.{◌≤◌, length, sym, ◌∙◌, subst, arith}
use Rattle.cckd_base.specs.Geometry.{area_of}
use Rattle.cckd_shelf.specs.Seen.{seen}
use Rattle.cckd_shelf.specs.World.{World, IsSure, file_of}
use Rattle.cckd_tables.specs.Tables.{TableView, HasTables, AreOf}
use Rattle.cckd_tables.proofs.CallerLemmas.{sound_tables, loaded_of}
use Rattle.cckd_disk_trials.proofs.tables.opened.Goals as goal

pub returns-clause-of : goal.returns-clause-of
returns-clause-of g c = λ told sure_now.
    let l = c.args.l.now in
    let slot = c.args.slot in
    let before = seen g.T.Shows c.len.new.self in
    let mid = seen g.T.Shows c.scan.new.stage in
    let scanned = c.scan.ensures.reads.kept told in
    let loaded = c.load_words.ensures.looks.kept told in
    let sure_mid : IsSure mid.world = subst IsSure loaded sure_now in
    let first = seen g.T.Shows c.args.stage.now in
    let kept = c.len.ensures.kept told in
    let sure_before : IsSure before.world = subst IsSure scanned sure_mid in
    let sure_first : IsSure first.world = subst IsSure kept sure_before in
    let long = c.in_ok-len.ensures.len told sure_first in
    let room : area_of l.groups ≤ length (file_of first.world slot) = omega arith in
    let area : area_of l.groups ≤ length (file_of mid.world slot)
    = subst (λ (w : World). area_of l.groups ≤ length (file_of w slot)) (sym (scanned ∙ kept)) room in
    let sound : HasTables l (file_of mid.world slot)
    = subst (λ (w : World). HasTables l (file_of w slot)) (sym scanned) (sound_tables l (file_of before.world slot) (c.in-Ok.ensures.survey told sure_before).0) in
    let made = c.in_ok-tables.ensures.new in
    let of = loaded_of slot mid c.in_ok-tables.tables c.load_words.new.self c.in_ok-load_words.ensures.loaded
    (λ t s. subst (λ (v : TableView). area_of v.layout.groups ≤ length (file_of mid.world slot)) (sym made) area)
    (λ t s. subst (λ (v : TableView). HasTables v.layout (file_of mid.world slot)) (sym made) sound) in
    subst (λ (w : World). AreOf c.load_words.new.self (file_of w slot)) (sym loaded) (of told sure_mid)
