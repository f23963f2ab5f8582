use Rattle.std.proofs.Common.{◌≡◌, ◌≢◌, ℕ, sym, ◌∙◌, ap, subst}
use Rattle.cckd_shelf.specs.Seen.{Seen, seen}
use Rattle.cckd_base.specs.declared.geometry.Geometry.{Geometry}
use Rattle.cckd_base.specs.declared.geometry.Layout.{Layout}
use Rattle.cckd_base.specs.declared.open_fault.OpenFault.{OpenFault}
use Rattle.cckd_base.specs.declared.open_fault.OpenFault.TheVariants.{Mismatch}
use Rattle.cckd_layer.specs.Reads.{OfFile}
use Rattle.cckd_stack.specs.Mounting.{IsSlotCause}
use Rattle.cckd_stack.proofs.mounting.mount_shaped.Goals as goal

-- a shape that is the file's can't differ, as far as it is told
never_differs : (shape found : Geometry) (slot : ℕ) (s : Seen) (why : OpenFault) → why ≡ Mismatch slot shape found → found ≢ shape → OfFile slot (λ file. found ≡ shape) s
    → IsSlotCause shape slot s why
never_differs shape found slot s why is differs same =
    subst (IsSlotCause shape slot s) (sym is) (λ told sure. absurd (differs (same told sure)))

pub returns-in-Err-check_shape-clause-cause : goal.returns-in-Err-check_shape-clause-cause
returns-in-Err-check_shape-clause-cause g c =
    never_differs c.args.shape.now c.layout.result.geo c.args.slot (seen g.T.Shows c.args.stage.now) c.in-Err-check_shape.fault
    c.in-Err-check_shape.ensures.differs.0 c.in-Err-check_shape.ensures.differs.1
    (λ told sure. ap (λ (l : Layout). l.geo) (c.layout.ensures.value ∙ (c.in-Ok.ensures.opened told sure).sound.headed.says) ∙ c.requires.says told sure)
