-- A log that is opened: its head, and the rows that its proof is over.
use Rattle.std.specs.Prelude.{◌≡◌, ◌⊎◌, ℕ, List}
use Rattle.stn_model.specs.Points.{depth_limit}
use Rattle.stn_model.specs.declared.plant.Plant.{Plant}
use Rattle.row_kit.specs.declared.domain.Domain.{Domain}
use Rattle.row_kit.specs.declared.program.Program.{Program}
use Rattle.row_relax.specs.declared.rows.Rows.{Rows}
use Rattle.row_relax.specs.Choices.{plain}
use Rattle.row_set.specs.PlantProgram.{IsMadeOf, IsProgramOf, plant_root}
use Rattle.log_nodes.specs.declared.front.Front.{Front}
use Rattle.log_parts.specs.declared.heads.LogFront.TheVariants.{Whole}
use Rattle.log_parts.specs.declared.heads.LogHead.{LogHead}
use Rattle.log_parts.specs.laws.Checked.{IsHeadFront, IsLogFront, IsSetUpFront}
use Rattle.setup_lines.specs.declared.setups.Setups.{Setups}
use Rattle.sum_lines.specs.declared.head.Head.{Head}
use Rattle.valid_log.specs.Heads.{IsWithHead}
use Rattle.valid_log.specs.Verdict.{limits_of}
use Rattle.opened_logs.specs.declared.opened.Opened.{Opened}

-- rows are those of a program of a plant with all that a head declares, each of which is shown over domains
abbrev pub IsWithDeclared : Plant → Program → List Domain → LogHead → Rows → Type 0
IsWithDeclared plant program judged head rows = IsWithHead plant head.version program judged head.declared.sums head.declared.units head.declared.derivations rows

-- the same of a head or none: without a head they are those of that program
abbrev pub IsWithLogHead : Plant → Program → List Domain → LogHead → Rows → Type 0
IsWithLogHead plant program judged head rows = ((head.bytes ≡ 0) × (rows ≡ plain program)) ⊎ IsWithDeclared plant program judged head rows

-- where the proof of a log with such a head begins, and the limits that it keeps
abbrev pub front_of : LogHead → Front
front_of head = record { limits = head.limits; version = head.version; head = head.bytes }

-- the bytes begin with a head, or have none, whose sums, setups and derivations are all shown over a program of a plant, and these are its
-- head and the rows of the program with what it declares
pub record IsOpenedOver (plant : Plant) (program : Program) (judged : List Domain) (bytes : List ℕ) (opened : Opened) : Type 0 where
  pub stands : IsLogFront plant (limits_of (plain program) (depth_limit plant)) bytes (Whole opened.head)
  pub over : IsWithLogHead plant program judged opened.head opened.rows

-- the same of bytes that begin with this head
pub record IsOpenedHead (plant : Plant) (program : Program) (judged : List Domain) (bytes : List ℕ) (head : Head) (opened : Opened) : Type 0 where
  pub stands : IsHeadFront plant (limits_of (plain program) (depth_limit plant)) bytes head (Whole opened.head)
  pub over : IsWithDeclared plant program judged opened.head opened.rows

-- the same of bytes that begin with a head and these setups
pub record IsOpenedSetUp (plant : Plant) (program : Program) (judged : List Domain) (bytes : List ℕ) (setups : Setups) (opened : Opened) : Type 0 where
  pub stands : IsSetUpFront bytes setups (Whole opened.head)
  pub over : IsWithDeclared plant program judged opened.head opened.rows

-- the same over the plant's own program, judged over the domains of its slots
pub record IsOpened (plant : Plant) (bytes : List ℕ) (opened : Opened) : Type 0 where
  pub program : Program
  pub made : IsMadeOf plant program
  pub means : IsProgramOf plant program
  pub is : IsOpenedOver plant program (plant_root plant) bytes opened
