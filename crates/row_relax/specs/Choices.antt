-- By what points are judged. Rows of a larger program may come with the choices that it was made from: a program with fewer slots, to
-- which the first slots of the rows belong, and by which points are lawful and worth something.
use Rattle.std.specs.Prelude.{◌≡◌, ℕ, List, length, take, Option, Some, None, unwrap_or, ℤ, ◌≤ℤ◌}
use Rattle.std.specs.Int.{int_min}
use Rattle.row_kit.specs.declared.domain.Domain.{Domain}
use Rattle.row_kit.specs.declared.program.Program.{Program}
use Rattle.row_kit.specs.Point.{IsLawful, value_of, worth_of}
use Rattle.range_prop.specs.declared.row_cut.RowCut.{RowCut}
use Rattle.dual_bound.specs.declared.cert.Cert.{Cert}
use Rattle.proof_tree.specs.declared.capped.Capped.{Capped}
use Rattle.proof_tree.specs.Relaxation.{Steps}
use Rattle.proof_tree.specs.Views.{View, Point}
use Rattle.row_relax.specs.declared.pick.RowPick.{RowPick}
use Rattle.row_relax.specs.declared.rows.Rows.{Rows}
use Rattle.row_relax.specs.Settle.{settled}
use Rattle.row_relax.specs.Steps.{row_steps}
use Rattle.row_relax.specs.View.{domains_of}

-- rows whose points are judged by their own program
abbrev pub plain : Program → Rows
plain program = record { program = program; choices = None }

-- the program by which points are judged: the choices, where there are any, else the program of the rows
abbrev pub choices_of : Rows → Program
choices_of rows = unwrap_or rows.choices rows.program

-- what domains settle to: where each slot that points have has one value, the worth of the point of these values, if it is lawful
abbrev pub settled_with : Program → Option Program → List Domain → Capped
settled_with program None domains = settled program domains
settled_with program (Some choices) domains = settled choices (take (length choices.root) domains)

-- what domains settle to among rows
abbrev pub settled_in : Rows → List Domain → Capped
settled_in rows domains = settled_with rows.program rows.choices domains

-- what a view settles to
abbrev pub settle_of : Rows → View → Capped
settle_of rows view = settled_in rows (domains_of view)

-- the calls of a program's rows, but that a view settles to this
abbrev pub settled_by : Program → (View → Capped) → Steps RowCut Cert RowPick
settled_by program settle = record {
  cut = (row_steps program).cut;
  left = (row_steps program).left;
  right = (row_steps program).right;
  empty = (row_steps program).empty;
  cap = (row_steps program).cap;
  settle = settle;
  floor = (row_steps program).floor;
  trim = (row_steps program).trim;
}

-- the calls of rows
abbrev pub steps_of : Rows → Steps RowCut Cert RowPick
steps_of rows = settled_by rows.program (settle_of rows)

-- a point with a value for each slot is lawful: it lies in the root and keeps the rows, and its first values are lawful by the choices
abbrev pub IsLawfulWith : Program → Option Program → Point → Type 0
IsLawfulWith program None point = IsLawful program point
IsLawfulWith program (Some choices) point = IsLawful program point × IsLawful choices (take (length choices.root) point)

-- a point with a value for each slot of rows is lawful among them
abbrev pub IsLawfulIn : Rows → Point → Type 0
IsLawfulIn rows point = IsLawfulWith rows.program rows.choices point

-- what such a point is worth: no more than its value, and than what its first values are worth by the choices
abbrev pub worth_with : Program → Option Program → Point → ℤ
worth_with program None point = worth_of program point
worth_with program (Some choices) point = int_min (value_of program point) (worth_of choices (take (length choices.root) point))

-- what a point with a value for each slot of rows is worth among them
abbrev pub worth_in : Rows → Point → ℤ
worth_in rows point = worth_with rows.program rows.choices point

-- an image of a point among the rows begins with the point's values, is lawful there, and its value is at least what the point is worth
pub record IsImageIn (rows : Rows) (point image : List ℕ) : Type 0 where
  pub first : take (length (choices_of rows).root) image ≡ point
  pub lawful : IsLawful rows.program image
  pub value : worth_of (choices_of rows) point ≤ℤ value_of rows.program image

-- each lawful point has an image
abbrev pub HaveImages : Rows → Type 0
HaveImages rows = (point : List ℕ) → IsLawful (choices_of rows) point → (image : List ℕ) × IsImageIn rows point image
