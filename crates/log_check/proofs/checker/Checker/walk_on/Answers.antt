-- The rooms say what the view settles to.
use Rattle.std.proofs.Common.{◌∙◌, ap, sym}
use Rattle.row_relax.specs.Choices.{settled_in}
use Rattle.row_relax.proofs.Marks.{domains-views, fits_slots}
use Rattle.log_check.proofs.checker.Checker.walk_on.Goals as goal

pub settle-cap-requires-clause-slots : goal.settle-cap-requires-clause-slots
settle-cap-requires-clause-slots c = fits_slots c.args.rows.now.program c.args.self.now.area c.requires.fits

pub take_point-requires-clause-cap : goal.take_point-requires-clause-cap
take_point-requires-clause-cap c =
    c.settle-cap.ensures.cap ∙ sym (ap (settled_in c.args.rows.now) (domains-views c.args.self.now.area))
