-- What cuts, splits and ends of a proof do with a point.
use Rattle.std.specs.Prelude.{◌≡◌, ◌⊎◌, ℕ, List, ℤ, true, Some, length, take}
use Rattle.row_kit.specs.declared.program.Program.{Program}
use Rattle.row_kit.specs.Point.{IsLawful, value_of, worth_of}
use Rattle.range_prop.specs.declared.row_cut.RowCut.{RowCut}
use Rattle.dual_bound.specs.declared.cert.Cert.{Cert}
use Rattle.proof_tree.specs.declared.capped.Capped.{Capped}
use Rattle.proof_tree.specs.Cap.{IsWithinFloor}
use Rattle.proof_tree.specs.Views.{View}
use Rattle.row_relax.specs.declared.pick.RowPick.{RowPick}
use Rattle.row_relax.specs.Steps.{row_steps}
use Rattle.row_relax.specs.View.{Fits, IsIn}
use Rattle.plan_images.specs.Caps.{Allows}

-- what settles a box allows what is said of each lawful point of the box where it is alone
abbrev pub SettlesBy : Program → (View → Capped) → (List ℕ → ℤ) → Type 0
SettlesBy program settle alone = (v : View) (point : List ℕ) → Fits program v → IsIn v point → IsLawful program point → Allows (settle v) (alone point)

-- what the first values of a point are worth by the choices
abbrev pub worth_by : Program → List ℕ → ℤ
worth_by choices point = worth_of choices (take (length choices.root) point)

-- choices judge the points of a program: the first values of each lawful point are lawful by them
abbrev pub Judges : Program → Program → Type 0
Judges choices program = (point : List ℕ) → IsLawful program point → IsLawful choices (take (length choices.root) point)

-- no step of a proof loses the point: a cut keeps it, one of two parts has it, no box that has it is empty, and a split forgets it only where its value is at most the floor
pub record LosesNone (program : Program) (point : List ℕ) : Type 0 where
  pub cut : (v w : View) (cut : RowCut) → Fits program v → (row_steps program).cut v cut ≡ Some w → IsIn v point → IsIn w point
  pub parts : (v w x : View) (pick : RowPick) → Fits program v → (row_steps program).left v pick ≡ Some w → (row_steps program).right v pick ≡ Some x → IsIn v point → IsIn w point ⊎ IsIn x point
  pub trim : (v : View) (pick : RowPick) (cert : Cert) → Fits program v → IsIn v point → IsIn ((row_steps program).trim v pick cert) point ⊎ IsWithinFloor ((row_steps program).floor v pick cert) (value_of program point)
  pub some : (v : View) → Fits program v → (row_steps program).empty v ≡ true → ¬ IsIn v point
