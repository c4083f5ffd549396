-- A right verdict says what the starts break alone.
use Rattle.frozen_plan.proofs.Standing.{verdict-starts}
use Rattle.frozen_plan.proofs.keeping.broken_by.Goals as goal

pub returns : goal.returns
returns c = let said = c.broken_start.ensures in rw said (verdict-starts c.args.plant.now c.args.starts.now c.in_ok-verdict.verdict c.in_ok-verdict.ensures.verdict)
