-- Programs that extend others.
use Rattle.std.specs.Prelude.{◌≡◌, ℕ, List, ◌++◌, ℤ}
use Rattle.row_kit.specs.declared.domain.Domain.{Domain}
use Rattle.row_kit.specs.declared.program.Program.{Program}
use Rattle.row_kit.specs.declared.row.Row.{Row}
use Rattle.derivations.specs.Larger.{met}
use Rattle.plan_images.specs.Images.{IsImage}

-- a program extends another where each image in that one has an image in this one, of what earns as much
pub record Extends (given : Program) (alone : List ℕ → ℤ) (larger : Program) (larger_alone : List ℕ → ℤ) : Type 0 where
  pub image : List ℕ → List ℕ
  pub is : (point : List ℕ) (earned : ℤ) → IsImage given alone earned point → IsImage larger larger_alone earned (image point)

-- a program is another with more rows, whose root is narrowed to these domains besides
pub record IsWithRows (given : Program) (more : List Row) (domains : List Domain) (larger : Program) : Type 0 where
  pub rows : larger.rows ≡ given.rows ++ more
  pub root : larger.root ≡ met given.root domains
  pub profit : larger.profit ≡ given.profit
  pub base : larger.base ≡ given.base
