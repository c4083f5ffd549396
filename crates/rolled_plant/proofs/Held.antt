-- The batch that holds a unit last, where a start is the latest on it.
use Rattle.std.proofs.Common.{◌≡◌, ℕ, ◌≤◌, List, Option, Some, sym, subst, ap, ◌∙◌}
use Rattle.std.specs.Prelude.{ℤ, pos, All, option_map}
use Rattle.stn_model.specs.declared.plant.Plant.{Plant}
use Rattle.stn_model.specs.declared.plant.Last.{Last}
use Rattle.stn_model.specs.declared.start.Start.{Start}
use Rattle.stn_model.specs.Plant.{unit_at, end_of}
use Rattle.stn_model.specs.Fits.{Fits}
use Rattle.stn_model.proofs.Fitting.{fit_parts}
use Rattle.rolled_plant.specs.Begin.{is_latest, latest, last_after, last_behind, last_seen, seen_from}
use Rattle.rolled_plant.proofs.Joined.{found_at}

-- the latest start on a unit ends by the horizon
pub latest_ends : (plant : Plant) (before : List Start) (unit : ℕ) (start : Start) → All (Fits plant) before → Some start ≡ latest before unit → end_of plant start ≤ plant.periods
unfolding latest
latest_ends plant before unit start fit is =
    let found = found_at (is_latest before unit) before start (sym is) in
    (fit_parts plant start (subst (Fits plant) found.2 (fit found.0 start found.1))).ends

-- the batch of the latest start on a unit holds it last
pub held_seen : (plant : Plant) (before : List Start) (period unit : ℕ) (start : Start) (until : ℤ) → Some start ≡ latest before unit → until ≡ seen_from period (pos (end_of plant start))
    → Some (record { task = start.task; until = until }) ≡ option_map (last_seen period) (last_behind plant before unit)
unfolding last_behind
held_seen plant before period unit start until is seen =
    let own = (unit_at plant unit).last in
    let made = λ (z : ℤ). (let last : Last = record { task = start.task; until = z } in Some last) in
    ap made seen ∙ ap (λ (o : Option Start). option_map (last_seen period) (last_after plant o own)) is
