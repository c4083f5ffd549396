-- The domains of the view are those of the area.
use Rattle.std.proofs.Common.{◌∙◌, List, ap, length, sym, take}
use Rattle.row_kit.specs.declared.program.Program.{Program}
use Rattle.row_kit.specs.Area.{present}
use Rattle.row_relax.specs.Choices.{settled_in}
use Rattle.row_relax.specs.Settle.{settled}
use Rattle.row_relax.proofs.Choosing.{first-settled}
use Rattle.row_relax.proofs.Marks.{domains-views, fits_slots}
use Rattle.row_relax.proofs.rows.RowsRelaxation.settle.Goals as goal

pub returns : goal.returns
returns c =
    let rows = c.args.self.now in
    let ds = present c.args.area.now in
    c.settle.ensures
    ∙ ap (λ (program : Program). settled program (take (length program.root) ds)) c.choices_of.ensures
    ∙ first-settled rows ds (fits_slots rows.program c.args.area.now c.requires)
    ∙ sym (ap (settled_in rows) (domains-views c.args.area.now))
