-- What a proof says of the plans of a plant whose limits are no longer those that it was made for.
use Rattle.std.specs.Prelude.{true, false, ◌≡◌, ◌≢◌, ◌⊎◌, ◌+◌, ◌*◌, ◌≤◌, List, [], length, Option, Some, None, ℤ, ◌≤ℤ◌}
use Rattle.std.specs.List.{All}
use Rattle.std.specs.List.Sorted.{IsStrictlyIncreasing}
use Rattle.stn_model.specs.declared.plant.Plant.{Plant}
use Rattle.stn_model.specs.declared.start.Start.{Start}
use Rattle.stn_model.specs.Best.{NoPlan}
use Rattle.stn_model.specs.Feasible.{Feasible}
use Rattle.stn_model.specs.Profit.{profit}
use Rattle.row_kit.specs.declared.domain.Domain.{Domain}
use Rattle.row_kit.specs.declared.program.Program.{Program}
use Rattle.proof_tree.specs.declared.capped.Capped.TheVariants.{Bad}
use Rattle.proof_tree.specs.Tree.{tree_cap}
use Rattle.row_relax.specs.declared.rows.Rows.{Rows}
use Rattle.row_relax.specs.Choices.{steps_of}
use Rattle.row_relax.specs.RowProofs.{RowTree}
use Rattle.row_relax.specs.Steps.{row_steps}
use Rattle.row_relax.specs.View.{view_of}
use Rattle.row_set.specs.PlantProgram.{IsMadeOf, plant_root}
use Rattle.sum_slots.specs.declared.sum.Sum.{Sum}
use Rattle.sum_slots.specs.Larger.{IsWithSums}
use Rattle.sum_slots.specs.Shown.{IsShown}
use Rattle.sum_slots.specs.Sum.{IsDeclared}
use Rattle.setup_slots.specs.Several.{AreSetUp, choices_before, rows_with, slots_with}
use Rattle.derivations.specs.Anew.{IsWithAnew}
use Rattle.derivations.specs.Growth.{rows_of}
use Rattle.valid_log.specs.Heads.{IsWithHead, wide_domains}
use Rattle.what_if.specs.declared.old.LogHead.{LogHead}
use Rattle.what_if.specs.Head.{version_of}
use Rattle.what_if.specs.Loose.{StandsForCap, loose_cap, no_mults, as_cap}

-- no feasible plan of the plant earns more, and where it is none no plan is feasible
abbrev pub CapsPlans : Plant → Option ℤ → Type 0
CapsPlans plant None = NoPlan plant
CapsPlans plant (Some cap) = (plan : List Start) → Feasible plant plan → profit plant plan ≤ℤ cap

-- a sum is declared over a program's slots, and shown there by these domains
abbrev pub IsSumOf : Program → List Domain → Sum → Type 0
IsSumOf program ranges sum = IsDeclared (length program.root) sum × IsShown program ranges sum

-- there is room for the head of a log: with the slots and rows of its sums and of its units' setups, and with its derived rows, a program has at most 4,096 slots and 400,000 rows
pub record HasHeadRoom (plant : Plant) (program : Program) (head : LogHead) : Type 0 where
  pub slots : slots_with plant head.units (length program.root + length head.sums) ≤ 4096
  pub rows : rows_with plant head.units (length program.rows + (2 * length head.sums + rows_of head.derivations)) ≤ 400000

-- the head of a log can be taken over a program of a plant: each sum is declared and shown there, its units ascend, with none below version 4, and there is room
pub record AreTaken (plant : Plant) (program : Program) (ranges : List Domain) (head : LogHead) : Type 0 where
  pub each : All (IsSumOf program ranges) head.sums
  pub ascending : IsStrictlyIncreasing head.units
  pub below : head.capped ≡ false → head.units ≡ []
  pub room : HasHeadRoom plant program head

-- a program is another with the derivations of a head looked at anew over domains; a head below version 4 has none
abbrev pub IsDerivedAnew : Program → List Domain → LogHead → Program → Type 0
IsDerivedAnew wide domains head larger = ((head.capped ≡ false) × (larger ≡ wide)) ⊎ ((head.capped ≡ true) × IsWithAnew wide domains head.derivations larger)

-- Rows are those of a program of a plant with the head of a log: with its sums, behind them the setups of its units, as they are for this
-- plant, and its derivations, looked at anew over these domains. Where there are setups, points are judged by the program with the sums.
pub record IsWithHeadAnew (plant : Plant) (program : Program) (ranges : List Domain) (head : LogHead) (rows : Rows) : Type 0 where
  pub between : Program
  pub with_sums : IsWithSums program ranges head.sums between
  pub wide : Program
  pub with_setups : AreSetUp plant head.units between wide
  pub grown : IsDerivedAnew wide (wide_domains plant program ranges head.sums head.units) head rows.program
  pub choices : rows.choices ≡ choices_before head.units between

-- The cap is the loose cap of the proof over the root of the rows with the head, which can be taken there. It answers to the proof's
-- own cap over those rows, where that is defined.
pub record IsLooseWith (plant : Plant) (program : Program) (ranges : List Domain) (head : LogHead) (proof : RowTree) (cap : Option ℤ) : Type 0 where
  pub taken : AreTaken plant program ranges head
  pub rows : Rows
  pub enlarged : IsWithHeadAnew plant program ranges head rows
  pub is : as_cap cap ≡ loose_cap head.capped rows (view_of rows.program.root) proof
  pub own : tree_cap (steps_of rows) (view_of rows.program.root) proof ≢ Bad → StandsForCap head.capped cap (tree_cap (steps_of rows) (view_of rows.program.root) proof)

-- The head cannot be taken over the program, and the cap is that of its root by scale 1 without multipliers.
pub record IsPlainWithout (plant : Plant) (program : Program) (ranges : List Domain) (head : LogHead) (cap : Option ℤ) : Type 0 where
  pub untaken : ¬ AreTaken plant program ranges head
  pub is : as_cap cap ≡ (row_steps program).cap (view_of program.root) no_mults

-- the cap of the proof of a log with a head, for a program of a plant: the loose cap over the rows with the head, and where it cannot be taken there that of scale 1 without multipliers
abbrev pub IsCapOver : Plant → Program → List Domain → LogHead → RowTree → Option ℤ → Type 0
IsCapOver plant program ranges head proof cap = IsLooseWith plant program ranges head proof cap ⊎ IsPlainWithout plant program ranges head cap

-- The cap answers to the own cap of the proof of a log with a head, for the plant's rows with it, whose derivations are shown there.
pub record IsProofCap (plant : Plant) (head : LogHead) (proof : RowTree) (cap : Option ℤ) : Type 0 where
  pub program : Program
  pub made : IsMadeOf plant program
  pub rows : Rows
  pub enlarged : IsWithHead plant (version_of head) program (plant_root plant) head.sums head.units head.derivations rows
  pub defined : tree_cap (steps_of rows) (view_of rows.program.root) proof ≢ Bad
  pub is : StandsForCap head.capped cap (tree_cap (steps_of rows) (view_of rows.program.root) proof)

-- The cap is that of the proof of a log with a head, for the plant's program, and caps the plant's plans.
pub record IsEstimate (plant : Plant) (head : LogHead) (proof : RowTree) (cap : Option ℤ) : Type 0 where
  pub program : Program
  pub made : IsMadeOf plant program
  pub is : IsCapOver plant program (plant_root plant) head proof cap
  pub caps : CapsPlans plant cap
