-- The domains of the view are those of the area.
use Rattle.std.proofs.Common.{◌∙◌, ap, sym}
use Rattle.std.specs.List.{list_any}
use Rattle.row_kit.specs.Area.{present}
use Rattle.range_prop.specs.Cut.{is_bare}
use Rattle.range_prop.proofs.CutLaws.{bare_decides}
use Rattle.row_relax.specs.Steps.{row_steps}
use Rattle.row_relax.proofs.Marks.{domains-views}
use Rattle.row_relax.proofs.rows.RowsRelaxation.empty.Goals as goal

pub returns : goal.returns
unfolding row_steps
returns c = bare_decides c.has_empty.result (present c.args.area.now) c.has_empty.ensures.bare.0 c.has_empty.ensures.bare.1 ∙ sym (ap (list_any is_bare) (domains-views c.args.area.now))
