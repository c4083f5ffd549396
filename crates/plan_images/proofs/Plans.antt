-- The points of plans are their images in the program of a plant, and of a part of its choices.
use Rattle.std.proofs.Common.{◌≡◌, ℤ, ◌≤ℤ◌, arith}
use Rattle.std.proofs.lemmas.Int.{ints}
use Rattle.stn_model.specs.declared.plant.Plant.{Plant}
use Rattle.stn_model.specs.Feasible.{Feasible}
use Rattle.stn_model.specs.Profit.{profit}
use Rattle.time_grid.specs.PlanPoint.{plan_point}
use Rattle.row_kit.specs.declared.program.Program.{Program}
use Rattle.row_kit.specs.Point.{worth_of}
use Rattle.row_set.specs.Parts.{IsAdmitted, IsPartOf}
use Rattle.row_set.specs.PlantProgram.{IsProgramOf}
use Rattle.row_set.proofs.PartPoints.{admitted-lawful, admitted-worth}
use Rattle.plan_images.specs.Images.{Relaxes}
use Rattle.plan_images.proofs.Imaging.{worth-image}

no_less : (a b : ℤ) → a ≡ b → b ≤ℤ a
no_less a b same = omega (arith, ints, same)

-- the program of a plant is a relaxation of its feasible plans
pub plant-relaxes : (plant : Plant) (program : Program) → IsProgramOf plant program → Relaxes (Feasible plant) (profit plant) program
plant-relaxes plant program means = record {
  image = plan_point plant;
  is = λ plan feasible.
      let has = (means.feasible plan).0 feasible in
      worth-image program (profit plant plan) (plan_point plant plan) has.1 (no_less (worth_of program (plan_point plant plan)) (profit plant plan) (means.worth plan has.0));
}

-- the program of a part of its choices is one of the plans that it admits
pub part-relaxes : (plant : Plant) (part : Program) → IsPartOf plant part → Relaxes (IsAdmitted plant part) (profit plant) part
part-relaxes plant part is = record {
  image = plan_point plant;
  is = λ plan admitted.
      worth-image part (profit plant plan) (plan_point plant plan) (admitted-lawful plant part plan is admitted)
      (no_less (worth_of part (plan_point plant plan)) (profit plant plan) (admitted-worth plant part plan is admitted));
}
