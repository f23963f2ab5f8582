use Rattle.std.proofs.Common.{◌≡◌, ℕ, List, false, length, take, Result, OnOk, OnErr, refl, sym, ◌∙◌, ap, subst, arith}
use Rattle.cckd_shelf.specs.declared.fault.Failed.{Failed}
use Rattle.cckd_shelf.specs.Seen.{seen, Makes, MayMake}
use Rattle.cckd_shelf.specs.World.{after_write, after_torn}
use Rattle.cckd_shelf.specs.Frame.{OnlyIn}
use Rattle.cckd_shelf.proofs.FrameLemmas.{only_wrote}
use Rattle.cckd_base.specs.declared.space.Extent.{Extent}
use Rattle.cckd_space.specs.Pieces.{aligned_up}
use Rattle.cckd_layer.specs.Current.{claim, IsAmong}
use Rattle.cckd_layer.specs.Mounted.{LayerState}
use Rattle.cckd_layer.specs.Storing.{stored_as, padded, IsOneWrite}
use Rattle.cckd_layer.specs.Writes.{StopsWithinWith, KeepsMapWith}
use Rattle.cckd_layer.proofs.ReservedLemmas.{put_agrees, put_within}
use Rattle.cckd_layer.proofs.StoreLemmas.{filled_items, padded_length, one_write}
use Rattle.cckd_layer.specs.Headed.{KeepsHeadersWith}
use Rattle.cckd_layer.proofs.HeadedLemmas.{put_headers}
use Rattle.cckd_layer.proofs.layer.Layer.put_reserved.Goals as goal

pub returns-in_default-clause-stopped : goal.returns-in_default-clause-stopped
returns-in_default-clause-stopped g c =
    let i = c.self.inside in
    let value = stored_as g.U.Unit.value c.args.form c.args.bytes.now in
    let items = ap (λ (l : List ℕ). length l) c.as_mut_slice.ensures.value in
    let same : c.as_slice.result.now ≡ c.fill_padded-count.new.buffer =
    c.as_slice.ensures.value ∙ filled_items i.buffer.len i.buffer.items c.fill_padded-count.new.buffer (sym (c.fill_padded-count.ensures.len ∙ items)) (sym (c.fill_padded-count.ensures.len ∙ c.as_mut_slice.ensures.len)) in
    let front : take c.fill_padded-count.result c.as_slice.result.now ≡ padded value = ap (take c.fill_padded-count.result) same ∙ c.fill_padded-count.ensures.front in
    let old = seen g.T.Shows c.args.stage.now in
    let new = seen g.T.Shows c.write_front-written.new.stage in
    let result = c.write_front-written.result in
    let written = subst (λ (b : List ℕ). OnOk result (Makes (after_write i.slot c.args.pos b) old new)) front c.write_front-written.ensures.written in
    let torn = subst (λ (b : List ℕ). OnErr result (MayMake (after_torn i.slot c.args.pos b) old new)) front c.write_front-written.ensures.torn in
    let s : LayerState = record { slot = i.slot; header = i.header; tables = i.tables; plan = i.space; marked = i.marked; hardened = i.hardened; broken = i.broken } in
    let long : length (padded value) ≡ aligned_up (length c.args.bytes.now) = padded_length value ∙ ap aligned_up c.fill_padded-count.ensures.long in
    subst (λ (x : LayerState). (claims : List Extent) → IsAmong (claim c.args.pos (aligned_up (length c.args.bytes.now))) claims → StopsWithinWith claims g.U.Unit.null_bytes x old new) c.self.view_is
    (λ claims among. put_within claims g.U.Unit.null_bytes s old new c.args.pos (padded value) result (omega (arith, long, c.requires.some)) (subst (λ (n : ℕ). IsAmong (claim c.args.pos n) claims) (sym long) among) written torn)

pub returns-in_default-clause-others : goal.returns-in_default-clause-others
returns-in_default-clause-others g c =
    let i = c.self.inside in
    let value = stored_as g.U.Unit.value c.args.form c.args.bytes.now in
    let items = ap (λ (l : List ℕ). length l) c.as_mut_slice.ensures.value in
    let same : c.as_slice.result.now ≡ c.fill_padded-count.new.buffer =
    c.as_slice.ensures.value ∙ filled_items i.buffer.len i.buffer.items c.fill_padded-count.new.buffer (sym (c.fill_padded-count.ensures.len ∙ items)) (sym (c.fill_padded-count.ensures.len ∙ c.as_mut_slice.ensures.len)) in
    let front : take c.fill_padded-count.result c.as_slice.result.now ≡ padded value = ap (take c.fill_padded-count.result) same ∙ c.fill_padded-count.ensures.front in
    let old = seen g.T.Shows c.args.stage.now in
    let new = seen g.T.Shows c.write_front-written.new.stage in
    let result = c.write_front-written.result in
    let written = subst (λ (b : List ℕ). OnOk result (Makes (after_write i.slot c.args.pos b) old new)) front c.write_front-written.ensures.written in
    let torn = subst (λ (b : List ℕ). OnErr result (MayMake (after_torn i.slot c.args.pos b) old new)) front c.write_front-written.ensures.torn in
    subst (λ (x : LayerState). OnlyIn x.slot old new) c.self.view_is (only_wrote i.slot c.args.pos (padded value) old new result written torn)

pub returns-clause-stopped : goal.returns-clause-stopped
returns-clause-stopped g c =
    let i = c.self.inside in
    let value = stored_as g.U.Unit.value c.args.form c.args.bytes.now in
    let items = ap (λ (l : List ℕ). length l) c.as_mut_slice.ensures.value in
    let same : c.as_slice.result.now ≡ c.fill_padded-count.new.buffer =
    c.as_slice.ensures.value ∙ filled_items i.buffer.len i.buffer.items c.fill_padded-count.new.buffer (sym (c.fill_padded-count.ensures.len ∙ items)) (sym (c.fill_padded-count.ensures.len ∙ c.as_mut_slice.ensures.len)) in
    let front : take c.fill_padded-count.result c.as_slice.result.now ≡ padded value = ap (take c.fill_padded-count.result) same ∙ c.fill_padded-count.ensures.front in
    let old = seen g.T.Shows c.args.stage.now in
    let new = seen g.T.Shows c.write_front-written.new.stage in
    let result = c.write_front-written.result in
    let written = subst (λ (b : List ℕ). OnOk result (Makes (after_write i.slot c.args.pos b) old new)) front c.write_front-written.ensures.written in
    let torn = subst (λ (b : List ℕ). OnErr result (MayMake (after_torn i.slot c.args.pos b) old new)) front c.write_front-written.ensures.torn in
    let s : LayerState = record { slot = i.slot; header = i.header; tables = i.tables; plan = i.space; marked = i.marked; hardened = i.hardened; broken = i.broken } in
    let long : length (padded value) ≡ aligned_up (length c.args.bytes.now) = padded_length value ∙ ap aligned_up c.fill_padded-count.ensures.long in
    subst (λ (x : LayerState). (claims : List Extent) → IsAmong (claim c.args.pos (aligned_up (length c.args.bytes.now))) claims → StopsWithinWith claims g.U.Unit.null_bytes x old new) c.self.view_is
    (λ claims among. put_within claims g.U.Unit.null_bytes s old new c.args.pos (padded value) result (omega (arith, long, c.requires.some)) (subst (λ (n : ℕ). IsAmong (claim c.args.pos n) claims) (sym long) among) written torn)

pub returns-clause-others : goal.returns-clause-others
returns-clause-others g c =
    let i = c.self.inside in
    let value = stored_as g.U.Unit.value c.args.form c.args.bytes.now in
    let items = ap (λ (l : List ℕ). length l) c.as_mut_slice.ensures.value in
    let same : c.as_slice.result.now ≡ c.fill_padded-count.new.buffer =
    c.as_slice.ensures.value ∙ filled_items i.buffer.len i.buffer.items c.fill_padded-count.new.buffer (sym (c.fill_padded-count.ensures.len ∙ items)) (sym (c.fill_padded-count.ensures.len ∙ c.as_mut_slice.ensures.len)) in
    let front : take c.fill_padded-count.result c.as_slice.result.now ≡ padded value = ap (take c.fill_padded-count.result) same ∙ c.fill_padded-count.ensures.front in
    let old = seen g.T.Shows c.args.stage.now in
    let new = seen g.T.Shows c.write_front-written.new.stage in
    let result = c.write_front-written.result in
    let written = subst (λ (b : List ℕ). OnOk result (Makes (after_write i.slot c.args.pos b) old new)) front c.write_front-written.ensures.written in
    let torn = subst (λ (b : List ℕ). OnErr result (MayMake (after_torn i.slot c.args.pos b) old new)) front c.write_front-written.ensures.torn in
    subst (λ (x : LayerState). OnlyIn x.slot old new) c.self.view_is (only_wrote i.slot c.args.pos (padded value) old new result written torn)

pub returns-clause-made : goal.returns-clause-made
returns-clause-made g c =
    let i = c.self.inside in
    let value = stored_as g.U.Unit.value c.args.form c.args.bytes.now in
    let items = ap (λ (l : List ℕ). length l) c.as_mut_slice.ensures.value in
    let same : c.as_slice.result.now ≡ c.fill_padded-count.new.buffer =
    c.as_slice.ensures.value ∙ filled_items i.buffer.len i.buffer.items c.fill_padded-count.new.buffer (sym (c.fill_padded-count.ensures.len ∙ items)) (sym (c.fill_padded-count.ensures.len ∙ c.as_mut_slice.ensures.len)) in
    let front : take c.fill_padded-count.result c.as_slice.result.now ≡ padded value = ap (take c.fill_padded-count.result) same ∙ c.fill_padded-count.ensures.front in
    let old = seen g.T.Shows c.args.stage.now in
    let new = seen g.T.Shows c.write_front-written.new.stage in
    let result = c.write_front-written.result in
    let written = subst (λ (b : List ℕ). OnOk result (Makes (after_write i.slot c.args.pos b) old new)) front c.write_front-written.ensures.written in
    let torn = subst (λ (b : List ℕ). OnErr result (MayMake (after_torn i.slot c.args.pos b) old new)) front c.write_front-written.ensures.torn in
    subst (λ (x : LayerState). Makes (after_write x.slot c.args.pos (padded value)) old new) c.self.view_is
    (subst (λ (r : Result (Unit {0}) Failed). OnOk r (Makes (after_write i.slot c.args.pos (padded value)) old new)) c.in-Ok.is written)

pub returns-clause-map : goal.returns-clause-map
returns-clause-map g c =
    let i = c.self.inside in
    let value = stored_as g.U.Unit.value c.args.form c.args.bytes.now in
    let items = ap (λ (l : List ℕ). length l) c.as_mut_slice.ensures.value in
    let same : c.as_slice.result.now ≡ c.fill_padded-count.new.buffer =
    c.as_slice.ensures.value ∙ filled_items i.buffer.len i.buffer.items c.fill_padded-count.new.buffer (sym (c.fill_padded-count.ensures.len ∙ items)) (sym (c.fill_padded-count.ensures.len ∙ c.as_mut_slice.ensures.len)) in
    let front : take c.fill_padded-count.result c.as_slice.result.now ≡ padded value = ap (take c.fill_padded-count.result) same ∙ c.fill_padded-count.ensures.front in
    let old = seen g.T.Shows c.args.stage.now in
    let new = seen g.T.Shows c.write_front-written.new.stage in
    let result = c.write_front-written.result in
    let written = subst (λ (b : List ℕ). OnOk result (Makes (after_write i.slot c.args.pos b) old new)) front c.write_front-written.ensures.written in
    let torn = subst (λ (b : List ℕ). OnErr result (MayMake (after_torn i.slot c.args.pos b) old new)) front c.write_front-written.ensures.torn in
    let s : LayerState = record { slot = i.slot; header = i.header; tables = i.tables; plan = i.space; marked = i.marked; hardened = i.hardened; broken = i.broken } in
    let next : LayerState = record { slot = i.slot; header = i.header; tables = i.tables; plan = i.space; marked = i.marked; hardened = false; broken = i.broken } in
    let long : length (padded value) ≡ aligned_up (length c.args.bytes.now) = padded_length value ∙ ap aligned_up c.fill_padded-count.ensures.long in
    let made = subst (λ (r : Result (Unit {0}) Failed). OnOk r (Makes (after_write i.slot c.args.pos (padded value)) old new)) c.in-Ok.is written in
    subst (λ (x : LayerState). (claims : List Extent) → IsAmong (claim c.args.pos (aligned_up (length c.args.bytes.now))) claims → KeepsMapWith claims claims g.U.Unit.null_bytes x next old new) c.self.view_is
    (λ claims among told a. put_agrees claims g.U.Unit.null_bytes s next old new c.args.pos (padded value) (omega (arith, long, c.requires.some)) (subst (λ (n : ℕ). IsAmong (claim c.args.pos n) claims) (sym long) among) refl (made told) a)

pub returns-in_default-clause-alone : goal.returns-in_default-clause-alone
returns-in_default-clause-alone g c =
    let i = c.self.inside in
    let value = stored_as g.U.Unit.value c.args.form c.args.bytes.now in
    let items = ap (λ (l : List ℕ). length l) c.as_mut_slice.ensures.value in
    let same : c.as_slice.result.now ≡ c.fill_padded-count.new.buffer =
    c.as_slice.ensures.value ∙ filled_items i.buffer.len i.buffer.items c.fill_padded-count.new.buffer (sym (c.fill_padded-count.ensures.len ∙ items)) (sym (c.fill_padded-count.ensures.len ∙ c.as_mut_slice.ensures.len)) in
    let front : take c.fill_padded-count.result c.as_slice.result.now ≡ padded value = ap (take c.fill_padded-count.result) same ∙ c.fill_padded-count.ensures.front in
    let old = seen g.T.Shows c.args.stage.now in
    let new = seen g.T.Shows c.write_front-written.new.stage in
    let result = c.write_front-written.result in
    let written = subst (λ (b : List ℕ). OnOk result (Makes (after_write i.slot c.args.pos b) old new)) front c.write_front-written.ensures.written in
    let torn = subst (λ (b : List ℕ). OnErr result (MayMake (after_torn i.slot c.args.pos b) old new)) front c.write_front-written.ensures.torn in
    subst (λ (x : LayerState). IsOneWrite x.slot (padded value) old new) c.self.view_is (one_write i.slot c.args.pos (padded value) old new result written torn)

pub returns-clause-alone : goal.returns-clause-alone
returns-clause-alone g c =
    let i = c.self.inside in
    let value = stored_as g.U.Unit.value c.args.form c.args.bytes.now in
    let items = ap (λ (l : List ℕ). length l) c.as_mut_slice.ensures.value in
    let same : c.as_slice.result.now ≡ c.fill_padded-count.new.buffer =
    c.as_slice.ensures.value ∙ filled_items i.buffer.len i.buffer.items c.fill_padded-count.new.buffer (sym (c.fill_padded-count.ensures.len ∙ items)) (sym (c.fill_padded-count.ensures.len ∙ c.as_mut_slice.ensures.len)) in
    let front : take c.fill_padded-count.result c.as_slice.result.now ≡ padded value = ap (take c.fill_padded-count.result) same ∙ c.fill_padded-count.ensures.front in
    let old = seen g.T.Shows c.args.stage.now in
    let new = seen g.T.Shows c.write_front-written.new.stage in
    let result = c.write_front-written.result in
    let written = subst (λ (b : List ℕ). OnOk result (Makes (after_write i.slot c.args.pos b) old new)) front c.write_front-written.ensures.written in
    let torn = subst (λ (b : List ℕ). OnErr result (MayMake (after_torn i.slot c.args.pos b) old new)) front c.write_front-written.ensures.torn in
    subst (λ (x : LayerState). IsOneWrite x.slot (padded value) old new) c.self.view_is (one_write i.slot c.args.pos (padded value) old new result written torn)

pub returns-in_default-clause-headers : goal.returns-in_default-clause-headers
returns-in_default-clause-headers g c =
    let i = c.self.inside in
    let value = stored_as g.U.Unit.value c.args.form c.args.bytes.now in
    let items = ap (λ (l : List ℕ). length l) c.as_mut_slice.ensures.value in
    let same : c.as_slice.result.now ≡ c.fill_padded-count.new.buffer =
    c.as_slice.ensures.value ∙ filled_items i.buffer.len i.buffer.items c.fill_padded-count.new.buffer (sym (c.fill_padded-count.ensures.len ∙ items)) (sym (c.fill_padded-count.ensures.len ∙ c.as_mut_slice.ensures.len)) in
    let front : take c.fill_padded-count.result c.as_slice.result.now ≡ padded value = ap (take c.fill_padded-count.result) same ∙ c.fill_padded-count.ensures.front in
    let old = seen g.T.Shows c.args.stage.now in
    let new = seen g.T.Shows c.write_front-written.new.stage in
    let result = c.write_front-written.result in
    let written = subst (λ (b : List ℕ). OnOk result (Makes (after_write i.slot c.args.pos b) old new)) front c.write_front-written.ensures.written in
    let torn = subst (λ (b : List ℕ). OnErr result (MayMake (after_torn i.slot c.args.pos b) old new)) front c.write_front-written.ensures.torn in
    let s : LayerState = record { slot = i.slot; header = i.header; tables = i.tables; plan = i.space; marked = i.marked; hardened = i.hardened; broken = i.broken } in
    let long : length (padded value) ≡ aligned_up (length c.args.bytes.now) = padded_length value ∙ ap aligned_up c.fill_padded-count.ensures.long in
    subst (λ (x : LayerState). (claims : List Extent) → IsAmong (claim c.args.pos (aligned_up (length c.args.bytes.now))) claims → KeepsHeadersWith claims x old new) c.self.view_is
    (λ claims among. put_headers claims s old new c.args.pos (padded value) result (omega (arith, long, c.requires.some)) (subst (λ (n : ℕ). IsAmong (claim c.args.pos n) claims) (sym long) among) written torn)

pub returns-clause-headers : goal.returns-clause-headers
returns-clause-headers g c =
    let i = c.self.inside in
    let value = stored_as g.U.Unit.value c.args.form c.args.bytes.now in
    let items = ap (λ (l : List ℕ). length l) c.as_mut_slice.ensures.value in
    let same : c.as_slice.result.now ≡ c.fill_padded-count.new.buffer =
    c.as_slice.ensures.value ∙ filled_items i.buffer.len i.buffer.items c.fill_padded-count.new.buffer (sym (c.fill_padded-count.ensures.len ∙ items)) (sym (c.fill_padded-count.ensures.len ∙ c.as_mut_slice.ensures.len)) in
    let front : take c.fill_padded-count.result c.as_slice.result.now ≡ padded value = ap (take c.fill_padded-count.result) same ∙ c.fill_padded-count.ensures.front in
    let old = seen g.T.Shows c.args.stage.now in
    let new = seen g.T.Shows c.write_front-written.new.stage in
    let result = c.write_front-written.result in
    let written = subst (λ (b : List ℕ). OnOk result (Makes (after_write i.slot c.args.pos b) old new)) front c.write_front-written.ensures.written in
    let torn = subst (λ (b : List ℕ). OnErr result (MayMake (after_torn i.slot c.args.pos b) old new)) front c.write_front-written.ensures.torn in
    let s : LayerState = record { slot = i.slot; header = i.header; tables = i.tables; plan = i.space; marked = i.marked; hardened = i.hardened; broken = i.broken } in
    let long : length (padded value) ≡ aligned_up (length c.args.bytes.now) = padded_length value ∙ ap aligned_up c.fill_padded-count.ensures.long in
    subst (λ (x : LayerState). (claims : List Extent) → IsAmong (claim c.args.pos (aligned_up (length c.args.bytes.now))) claims → KeepsHeadersWith claims x old new) c.self.view_is
    (λ claims among. put_headers claims s old new c.args.pos (padded value) result (omega (arith, long, c.requires.some)) (subst (λ (n : ℕ). IsAmong (claim c.args.pos n) claims) (sym long) among) written torn)
