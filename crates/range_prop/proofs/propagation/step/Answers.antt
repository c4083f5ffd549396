-- Where no row waits, each has room for each value.
use Rattle.std.proofs.Common.{inr, subst}
use Rattle.std.proofs.lemmas.List.{get_or_default}
use Rattle.row_kit.specs.declared.row.Row.{Row}
use Rattle.row_kit.specs.Area.{present}
use Rattle.row_kit.specs.Row.{no_row}
use Rattle.range_prop.specs.Cuts.{HasRoom}
use Rattle.range_prop.proofs.propagation.step.Goals as goal

pub returns-in-None-clause-room : goal.returns-in-None-clause-room
returns-in-None-clause-room c = λ _.
    let rows = c.args.program.now.rows in
    let ds = present c.args.area.now in
    inr (λ k d lt. subst (λ (row : Row). HasRoom ds row) (get_or_default rows k no_row d lt) (c.requires.quiet k lt (c.in-None.ensures.none k)))
