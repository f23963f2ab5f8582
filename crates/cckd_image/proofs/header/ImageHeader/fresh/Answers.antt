use Rattle.std.proofs.Common.{◌≡◌, length, None, sym, subst}
use Rattle.cckd_base.specs.Header.{header_fault}
use Rattle.cckd_image.specs.Image.{identifiers_of, header_bytes}
use Rattle.cckd_image.specs.Fresh.{new_layout}
use Rattle.cckd_image.specs.declared.header.ImageHeader.{ImageHeader}
use Rattle.cckd_image.proofs.FreshLemmas.{new_sound, new_long}
use Rattle.cckd_image.proofs.header.ImageHeader.fresh.Goals as goal

pub returns-clause-sound : goal.returns-clause-sound
returns-clause-sound c = λ len fits.
    subst (λ (h : ImageHeader). header_fault (identifiers_of c.args.roles) (header_bytes h) len ≡ None) (sym c.new_headers.ensures)
    (new_sound c.args.roles c.args.l.now len c.requires fits)

pub returns-clause-length : goal.returns-clause-length
returns-clause-length c =
    subst (λ (h : ImageHeader). length (header_bytes h) ≡ 1024) (sym c.new_headers.ensures) (new_long (new_layout c.args.roles c.args.l.now))
