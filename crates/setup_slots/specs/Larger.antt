-- A program with the slots and rows of a unit's setup.
use Rattle.std.specs.Prelude.{◌≡◌, ℕ, ◌+◌, ◌≤◌, true, ◌++◌, length, map}
use Rattle.std.specs.List.{All}
use Rattle.stn_model.specs.declared.plant.Plant.{Plant}
use Rattle.row_kit.specs.declared.domain.Domain.{Domain}
use Rattle.row_kit.specs.declared.program.Program.{Program}
use Rattle.row_kit.specs.declared.row.Tag.{Tag}
use Rattle.setup_slots.specs.Slots.{setup_slots, task_slots}
use Rattle.setup_slots.specs.Rows.{profit_entries, setup_row, setup_rows}

-- a slot of a setup is 0 or 1
abbrev pub setup_domain : Domain
setup_domain = record { zero = true; lo = 1; hi = 1 }

-- the tag of a setup's slot in a lane
abbrev pub setup_tag : ℕ → Tag
setup_tag lane = record { lane = lane; place = 0; kind = 0; opening = 0 }

-- a program begins with the slots of the plant
abbrev pub HasPlantSlots : Plant → Program → Type 0
HasPlantSlots plant program = length (task_slots plant) ≤ length program.root

-- with the slots and rows of a unit's setup a program has at most 4,096 slots and 400,000 rows
pub record HasRoom (plant : Plant) (unit : ℕ) (program : Program) : Type 0 where
  pub slots : length program.root + length (setup_slots plant unit) ≤ 4096
  pub rows : length program.rows + length (setup_rows plant unit) ≤ 400000

-- A program is another with the setup of a unit: its slots come after all others, in a lane that no other slot has, and its rows after
-- all others. What changeovers cost stays.
pub record IsWithSetups (plant : Plant) (unit : ℕ) (program larger : Program) : Type 0 where
  pub lane : ℕ
  pub free : All (λ tag. tag.lane ≡ lane → ⊥) program.tags
  pub tags : larger.tags ≡ program.tags ++ map (λ slot. setup_tag lane) (setup_slots plant unit)
  pub root : larger.root ≡ program.root ++ map (λ slot. setup_domain) (setup_slots plant unit)
  pub rows : larger.rows ≡ program.rows ++ map (setup_row plant unit (length program.root)) (setup_rows plant unit)
  pub profit : larger.profit ≡ program.profit ++ profit_entries plant unit (length program.root)
  pub base : larger.base ≡ program.base
  pub changes : larger.changes ≡ program.changes
