-- A plan that is parted at a period. Only clauses of private functions cite it.
use Rattle.std.specs.Prelude.{◌≡◌, ◌≤◌, ◌<◌, ◌^◌, ℕ, List, All, length}
use Rattle.stn_model.specs.Sound.{Sound}
use Rattle.plan_text.specs.Published.{most_lines}
use Rattle.plan_text.specs.ReadsBack.{IsWritable}
use Rattle.rolled_plant.specs.Kept.{kept, moved, IsMendable}
use Rattle.plan_commands.specs.declared.parted.PartedPlan.{PartedPlan}
use Rattle.plan_commands.specs.Rolling.{FitsNoFile, IsRolled, IsRolledText, RolledOn}

-- a plan of a plan file of the plant is parted at a period of its horizon
pub record IsParted (parted : PartedPlan) : Type 0 where
  pub sound : Sound parted.plant.now
  pub few : length parted.plan.now ≤ most_lines parted.plant.now
  pub writable : All (IsWritable parted.plant.now) parted.plan.now
  pub within : parted.period < parted.plant.now.periods
  pub before : parted.before.now ≡ kept parted.plan.now parted.period
  pub short : length parted.before.now < 2 ^ 32

-- the starts before the period break nothing that no later start mends
abbrev pub IsPartMendable : PartedPlan → Type 0
IsPartMendable parted = IsMendable parted.plant.now parted.before.now parted.period

-- the answer over it
abbrev pub IsRolledOn : PartedPlan → ℕ → List ℕ → Type 0
IsRolledOn parted = RolledOn parted.rest parted.plant.now parted.plan.now parted.before.now (moved parted.plan.now parted.period) parted.period

-- the answer over it where no plant file can say the rolled plant
abbrev pub FitsNoPlantFile : PartedPlan → ℕ → List ℕ → Type 0
FitsNoPlantFile parted = FitsNoFile parted.plant.now parted.before.now parted.period

-- the answer over it that is the rolled plant or the rest of the plan
abbrev pub IsRolledPart : PartedPlan → ℕ → List ℕ → Type 0
IsRolledPart parted = IsRolled parted.rest parted.plant.now parted.plan.now parted.before.now (moved parted.plan.now parted.period) parted.period

-- what is printed of it
abbrev pub IsPartText : PartedPlan → List ℕ → Type 0
IsPartText parted = IsRolledText parted.rest parted.plant.now parted.before.now (moved parted.plan.now parted.period) parted.period
