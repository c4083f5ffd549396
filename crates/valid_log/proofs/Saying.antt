-- The program of a plant is a part of its own choices, and what holds of all plans that it admits holds of all its plans.
use Rattle.std.proofs.Common.{List, [], ◌∷◌, refl, sym}
use Rattle.std.specs.Prelude.{Result, Ok, Err, IfOk}
use Rattle.std.specs.List.{AllZip}
use Rattle.stn_model.specs.declared.plant.Plant.{Plant}
use Rattle.stn_model.specs.declared.start.Start.{Start}
use Rattle.stn_model.specs.Sound.{Sound}
use Rattle.stn_model.specs.Feasible.{Feasible}
use Rattle.stn_model.specs.Profit.{profit}
use Rattle.row_kit.specs.declared.domain.Domain.{Domain}
use Rattle.row_kit.specs.declared.program.Program.{Program}
use Rattle.row_set.specs.Parts.{IsAdmitted, IsPartOf, IsWithin, plan_of_values}
use Rattle.row_set.specs.PlantProgram.{IsMadeOf, IsProgramOf}
use Rattle.row_set.proofs.Limits.{made-open}
use Rattle.plan_images.proofs.Telling.{same-plans}
use Rattle.valid_log.specs.declared.verdict.LogVerdict.{LogVerdict}
use Rattle.valid_log.specs.declared.verdict.LogVerdict.TheVariants.{Yes, No}
use Rattle.valid_log.specs.Claims.{IsOfPlant, YesSays, YesSaysOf}
use Rattle.valid_log.proofs.Points.{lawful-plan, feasible-lawful}

-- the program of a plant says of points what the plant says of plans
pub of_plant : (plant : Plant) (program : Program) → Sound plant → IsMadeOf plant program → IsProgramOf plant program → IsOfPlant plant program
of_plant plant program sound made means = record {
  made = made;
  lawful = λ point same. (λ lawful. (lawful-plan plant program point sound means lawful).feasible, λ feasible. feasible-lawful plant program point sound means same feasible);
  earned = λ point lawful. sym (lawful-plan plant program point sound means lawful).earns;
}

-- domains hold their own values
own_within : (ds : List Domain) → AllZip IsWithin ds ds
own_within [] = tt
own_within (d ∷ ds) = (λ value holds. holds, own_within ds)

-- the program of a plant is a part of its choices: all of them
pub whole-is_part : (plant : Plant) (program : Program) → IsMadeOf plant program → IsProgramOf plant program → IsPartOf plant program
whole-is_part plant program made means = record {
  whole = program;
  made = made;
  means = means;
  but_root = record { rows = refl; profit = refl; base = refl; tags = refl; changes = refl };
  within = own_within program.root;
  each_open = made-open plant program made;
}

-- it admits all feasible plans
whole_admits : (plant : Plant) (program : Program) → IsProgramOf plant program → (plan : List Start) → Feasible plant plan → IsAdmitted plant program plan
whole_admits plant program means plan feasible = record { feasible = feasible; lies = ((means.feasible plan).0 feasible).1.lies }

-- a yes that holds of all plans that it admits holds of all plans
pub whole_says : (plant : Plant) (program : Program) (verdict : LogVerdict) → IsProgramOf plant program → YesSaysOf plant program verdict → YesSays plant verdict
whole_says plant program (Yes claim) means says =
    same-plans (IsAdmitted plant program) (Feasible plant) (profit plant) (plan_of_values plant) claim (λ plan admitted. admitted.feasible) (whole_admits plant program means) says
whole_says plant program (No defect) means says = tt

-- the same of what a check answers
pub whole_says_if : {E : Type 0} (plant : Plant) (program : Program) (r : Result LogVerdict E) → IsProgramOf plant program → IfOk r (YesSaysOf plant program) → IfOk r (YesSays plant)
whole_says_if plant program (Ok verdict) means says = whole_says plant program verdict means says
whole_says_if plant program (Err e) means says = tt
