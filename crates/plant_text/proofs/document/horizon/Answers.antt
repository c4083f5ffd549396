use Rattle.plant_text.proofs.Faults.{passes, nothing}
use Rattle.plant_text.proofs.document.horizon.Goals as goal

pub returns : goal.returns
returns c =
    rw (← c.version_number-version.ensures, ← c.longest_horizon-most.ensures)
    (passes _ _ c.in_ok-count.ensures.0 (passes _ _ c.in_ok-periods.ensures.0 nothing), c.in_ok-periods.ensures.1)
