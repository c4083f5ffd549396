-- A program with the setups of several units.
use Rattle.std.specs.Prelude.{◌≡◌, ℕ, ◌+◌, ◌≤◌, Option, Some, None, List, [], ◌∷◌, ◌++◌, length, map}
use Rattle.stn_model.specs.declared.plant.Plant.{Plant}
use Rattle.stn_model.specs.declared.start.Start.{Start}
use Rattle.row_kit.specs.declared.domain.Domain.{Domain}
use Rattle.row_kit.specs.declared.program.Program.{Program}
use Rattle.setup_slots.specs.Image.{setup_image, unit_costs}
use Rattle.setup_slots.specs.Larger.{IsWithSetups, setup_domain}
use Rattle.setup_slots.specs.Rows.{setup_rows}
use Rattle.setup_slots.specs.Slots.{setup_slots}

-- a program is another with the setups of units, one after another
abbrev pub AreSetUp : Plant → List ℕ → Program → Program → Type 0
AreSetUp plant [] program larger = larger ≡ program
AreSetUp plant (unit ∷ units) program larger = (next : Program) × (IsWithSetups plant unit program next × AreSetUp plant units next larger)

-- by what the points of a program with the setups of units are judged: where there are any by the program without them, and else by it itself
abbrev pub choices_before : List ℕ → Program → Option Program
choices_before [] program = None
choices_before (unit ∷ units) program = Some program

-- domains, and behind them those of the slots of units' setups
abbrev pub domains_with : Plant → List ℕ → List Domain → List Domain
domains_with plant [] domains = domains
domains_with plant (unit ∷ units) domains = domains_with plant units (domains ++ map (λ slot. setup_domain) (setup_slots plant unit))

-- a point followed by the images of a plan in the setups of units
abbrev pub set_up : Plant → List ℕ → List Start → List ℕ → List ℕ
set_up plant [] plan point = point
set_up plant (unit ∷ units) plan point = set_up plant units plan (point ++ setup_image plant unit plan)

-- what a plan's changeovers on some units cost
abbrev pub costs_on : Plant → List ℕ → List Start → ℕ
costs_on plant [] plan = 0
costs_on plant (unit ∷ units) plan = unit_costs plant unit plan + costs_on plant units plan

-- how many slots a program of so many has with the setups of units
abbrev pub slots_with : Plant → List ℕ → ℕ → ℕ
slots_with plant [] count = count
slots_with plant (unit ∷ units) count = slots_with plant units (count + length (setup_slots plant unit))

-- how many rows a program of so many has with the setups of units
abbrev pub rows_with : Plant → List ℕ → ℕ → ℕ
rows_with plant [] count = count
rows_with plant (unit ∷ units) count = rows_with plant units (count + length (setup_rows plant unit))

-- with the setups of units a program has at most 4,096 slots and 400,000 rows
pub record HaveRoom (plant : Plant) (units : List ℕ) (program : Program) : Type 0 where
  pub slots : slots_with plant units (length program.root) ≤ 4096
  pub rows : rows_with plant units (length program.rows) ≤ 400000
