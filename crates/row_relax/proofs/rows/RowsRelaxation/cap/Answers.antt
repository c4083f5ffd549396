-- The domains of the view are those of the area.
use Rattle.std.proofs.Common.{◌∙◌, List, ap, sym}
use Rattle.row_kit.specs.declared.domain.Domain.{Domain}
use Rattle.dual_bound.specs.Cap.{cert_cap}
use Rattle.row_relax.specs.Steps.{row_steps}
use Rattle.row_relax.proofs.Marks.{domains-views, fits_slots}
use Rattle.row_relax.proofs.rows.RowsRelaxation.cap.Goals as goal

pub cap-requires : goal.cap-requires
cap-requires c = fits_slots c.args.self.now.program c.args.area.now c.requires

pub returns : goal.returns
unfolding row_steps
returns c = c.cap.ensures.cap ∙ sym (ap (λ (ds : List Domain). cert_cap c.args.self.now.program ds c.args.cert.now) (domains-views c.args.area.now))
