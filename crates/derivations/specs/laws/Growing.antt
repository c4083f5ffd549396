-- How a program stands while it grows.
use Rattle.std.specs.Prelude.{◌≡◌, ℕ, ◌+◌, List, ◌++◌, length, Result}
use Rattle.std.specs.Result.{MatchResult}
use Rattle.row_kit.specs.declared.domain.Domain.{Domain}
use Rattle.row_kit.specs.declared.program.Program.{Program}
use Rattle.row_kit.specs.declared.row.Row.{Row}
use Rattle.derivations.specs.declared.derivation.Derivation.{Derivation}
use Rattle.derivations.specs.Anew.{IsGrownAnew}
use Rattle.derivations.specs.Growth.{AreShown, after_all, rows_of}
use Rattle.derivations.specs.Grown.{IsFirstUnshown}
use Rattle.derivations.specs.Larger.{begun}

-- a program is another but for its rows and its root
pub record HasSameRest (program other : Program) : Type 0 where
  pub profit : other.profit ≡ program.profit
  pub base : other.base ≡ program.base
  pub tags : other.tags ≡ program.tags
  pub changes : other.changes ≡ program.changes

-- a program is another over a root
pub record IsRooted (program : Program) (root : List Domain) (other : Program) : Type 0 where
  pub rows : other.rows ≡ program.rows
  pub root_is : other.root ≡ root
  pub rest : HasSameRest program other

-- a program is another with these rows more
pub record IsWithMore (program : Program) (more : List Row) (other : Program) : Type 0 where
  pub rows : other.rows ≡ program.rows ++ more
  pub root : other.root ≡ program.root
  pub rest : HasSameRest program other

-- a program has grown by derivations that are shown over domains, of which this is left
pub record HasGrownBy (program : Program) (domains : List Domain) (derivations : List Derivation) (left : List Domain) (other : Program) : Type 0 where
  pub shown : AreShown (begun program domains) derivations
  pub growth : begun other left ≡ after_all (begun program domains) derivations
  pub slots : length left ≡ length domains
  pub count : length other.rows ≡ length program.rows + rows_of derivations
  pub root : other.root ≡ program.root
  pub rest : HasSameRest program other

-- a program has grown by derivations, of whose domains this is left; or the first that is not shown stands at a place
abbrev pub HasLed : Program → List Domain → List Derivation → List Domain → Result Program ℕ → Type 0
HasLed program domains derivations left result = MatchResult result (HasGrownBy program domains derivations left) (IsFirstUnshown (begun program domains) derivations)

-- a program has grown by derivations that are looked at anew over domains, of which this is left
pub record HasGrownAnew (program : Program) (domains : List Domain) (derivations : List Derivation) (left : List Domain) (other : Program) : Type 0 where
  pub anew : IsGrownAnew (begun program domains) derivations (begun other left)
  pub slots : length left ≡ length domains
  pub count : length other.rows ≡ length program.rows + rows_of derivations
  pub root : other.root ≡ program.root
  pub rest : HasSameRest program other
