use Rattle.std.proofs.Common.{refl}
use Rattle.plant_text.proofs.Faults.{passes, nothing}
use Rattle.plant_text.proofs.document.calendar.Goals as goal

pub returns : goal.returns
returns c =
    rw (← c.has_third-begins.ensures, ← c.has_third-measured.ensures) (
      passes _ _ c.in_ok-start.ensures.0 (passes _ _ c.in_ok-minutes.ensures.0 nothing),
      rw (c.calendar_from.ensures, c.in_ok-start.ensures.1, c.in_ok-minutes.ensures.1) refl,
    )
