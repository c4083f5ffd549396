-- The plant's own program with a unit's setup.
use Rattle.std.proofs.Common.{◌≡◌, List, length, ap, ap₂, ◌∙◌, arith}
use Rattle.std.proofs.lemmas.Int.{ints}
use Rattle.std.proofs.lemmas.List.{length-map, take_all}
use Rattle.stn_model.specs.declared.plant.Plant.{Plant}
use Rattle.stn_model.specs.declared.start.Start.{Start}
use Rattle.stn_model.specs.Profit.{change_costs}
use Rattle.time_grid.specs.PlanPoint.{plan_point}
use Rattle.time_grid.specs.Slots.{slots}
use Rattle.time_grid.proofs.OnePlan.{has_point-feasible}
use Rattle.time_grid.proofs.PlanPoints.{length-plan_point}
use Rattle.row_kit.specs.declared.program.Program.{Program}
use Rattle.row_kit.specs.declared.row.Change.{Change}
use Rattle.row_kit.specs.declared.row.Tag.{Tag}
use Rattle.row_kit.specs.Change.{changeovers}
use Rattle.row_set.specs.PlantProgram.{IsMadeOf, slot_domain}
use Rattle.row_set.proofs.Changeovers.{changeovers-are}
use Rattle.row_set.proofs.Meaning.{program-of_parts}
use Rattle.setup_slots.specs.Larger.{HasPlantSlots}
use Rattle.setup_slots.specs.Law.{BeginsWith, PlansHaveImages}
use Rattle.setup_slots.specs.Slots.{task_slot}
use Rattle.setup_slots.proofs.Images.{costs-less, law}

-- the plant's program has its slots
pub has_slots : (plant : Plant) (program : Program) → IsMadeOf plant program → HasPlantSlots plant program
has_slots plant program made = omega (arith, ap length made.root_is, length-map (slots plant) (slot_domain plant), length-map (slots plant) (task_slot plant))

-- the point of a plan begins with itself
begins_with : (plant : Plant) (plan : List Start) → BeginsWith plant plan (plan_point plant plan)
begins_with plant plan = take_all (length (slots plant)) (plan_point plant plan) (omega (arith, length-plan_point plant plan))

pub plans-law : PlansHaveImages
plans-law plant unit program larger plan sound made with_setups feasible =
    let has = has_point-feasible plant plan sound feasible in
    let means = program-of_parts plant program sound made in
    let lawful = ((means.feasible plan).0 feasible).1 in
    let image = law plant unit program larger plan (plan_point plant plan) sound (has_slots plant program made) with_setups feasible (begins_with plant plan) lawful in
    let costs : changeovers program.changes program.tags (plan_point plant plan) ≡ change_costs plant plan =
    ap₂ (λ (cs : List Change) (ts : List Tag). changeovers cs ts (plan_point plant plan)) made.changes_are made.tags_are ∙ changeovers-are plant plan sound has in
    let worth = means.worth plan has in
    let value = image.value in
    record { lawful = image.lawful; value = omega (arith, ints, worth, costs, value, costs-less plant unit plan) }
