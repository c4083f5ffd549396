-- The views of the marks that are left; the domains are normal by the area.
use Rattle.std.proofs.Common.{◌∙◌, ◌+◌}
use Rattle.row_relax.proofs.Marks.{fits_now, fits_slots, take-views}
use Rattle.row_relax.proofs.rows.RowsRelaxation.back.Goals as goal

pub returns-clause-views : goal.returns-clause-views
returns-clause-views c = take-views (c.args.mark + 1) c.args.area.now c.back.new.self c.back.ensures.marks

pub returns-clause-fits : goal.returns-clause-fits
returns-clause-fits c = fits_now c.args.self.now.program c.back.new.self (c.back.ensures.slots ∙ fits_slots c.args.self.now.program c.args.area.now c.requires.fits) c.slot_count-slots.ensures.normal
