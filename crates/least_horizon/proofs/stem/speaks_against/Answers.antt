-- What the check of the log says of the plant.
use Rattle.std.proofs.Common.{◌∙◌, sym}
use Rattle.least_horizon.proofs.Judged.{no_objection}
use Rattle.least_horizon.proofs.stem.speaks_against.Goals as goal

pub returns-clause-says : goal.returns-clause-says
returns-clause-says g c = λ none. no_objection c.args.plant.now c.in_ok-verdict.verdict c.in_ok-verdict.ensures.says (sym c.objection.ensures ∙ none)
