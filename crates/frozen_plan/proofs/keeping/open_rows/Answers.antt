-- Starts that stand together have a point, so that there are rows over them.
use Rattle.std.proofs.Common.{ap, sym, ◌∙◌}
use Rattle.std.specs.Prelude.{is_some}
use Rattle.std.proofs.lemmas.Bool.{false≢true}
use Rattle.frozen_plan.proofs.Standing.{together-has}
use Rattle.frozen_plan.proofs.keeping.open_rows.Goals as goal

pub unreachable-requires : goal.unreachable-requires
unreachable-requires c = false≢true (sym (ap is_some c.in-None.is) ∙ c.in_ok-rows.ensures.some.1 (together-has c.args.plant.now c.args.kept.now c.requires.sound c.requires.together))
