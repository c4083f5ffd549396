-- What is found by looking for the next start on a unit.
use Rattle.std.specs.Prelude.{ℕ, ◌==◌, ◌&&◌, nat_lt, nat_le, not, Bool}
use Rattle.stn_model.specs.declared.plant.Plant.{Plant}
use Rattle.stn_model.specs.declared.start.Start.{Start}
use Rattle.plan_violations.specs.Breaches.{early_by, meets}

-- b begins after a on its unit, by a period, before the unit is cleaned, and does not meet a
abbrev pub early_until : Plant → Start → ℕ → Start → Bool
early_until plant a period b =
    a.unit == b.unit && nat_lt a.period b.period && nat_le b.period period
    && nat_lt 0 (early_by plant a b) && not (meets plant a b)
