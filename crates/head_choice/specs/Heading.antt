-- A part of a plant's choices with what the head of its log declares, as a search finds it.
use Rattle.std.specs.Prelude.{◌≡◌, ℕ, ◌+◌, ◌*◌, ◌<◌, ◌≤◌, ⊤, false, List, length, map}
use Rattle.std.specs.List.{All, sum_by}
use Rattle.std.specs.List.Sorted.{IsStrictlyIncreasing}
use Rattle.stn_model.specs.declared.plant.Plant.{Plant}
use Rattle.stn_model.specs.Points.{depth_limit, slot_limit}
use Rattle.row_kit.specs.declared.domain.Domain.{Domain}
use Rattle.row_kit.specs.declared.program.Program.{Program}
use Rattle.row_kit.specs.declared.row.Entry.{Entry}
use Rattle.row_kit.specs.Row.{is_nothing}
use Rattle.branch_tree.specs.Searched.{spared}
use Rattle.branch_tree.specs.Splits.{splits_of}
use Rattle.setup_slots.specs.Several.{AreSetUp, choices_before, rows_with, slots_with}
use Rattle.sum_slots.specs.declared.sum.Sum.{Sum}
use Rattle.sum_slots.specs.Larger.{IsWithSums}
use Rattle.sum_slots.specs.Shown.{AreRanges, IsShown}
use Rattle.sum_slots.specs.Sum.{IsDeclared}
use Rattle.valid_log.specs.Heads.{wide_domains}
use Rattle.derived_rows.specs.declared.derived.Factor.{Factor}
use Rattle.derivations.specs.declared.derivation.Derivation.{Derivation}
use Rattle.derivations.specs.declared.derivation.Derivation.TheVariants.{Cut, Row}
use Rattle.derivations.specs.Growth.{AreShown, rows_of}
use Rattle.derivations.specs.Larger.{begun}
use Rattle.plan_told.specs.Heads.{CanHead, whole_head}
use Rattle.head_choice.specs.declared.heading.Headed.{Headed}
use Rattle.head_choice.specs.declared.widening.Widened.{Widened}

-- the rows of factors ascend
abbrev pub FactorsAscend : List Factor → Type 0
FactorsAscend factors = IsStrictlyIncreasing (map (λ (f : Factor). f.row) factors)

-- each entry counts something
abbrev pub EachCounts : List Entry → Type 0
EachCounts entries = All (λ (e : Entry). is_nothing (e.fixed, e.per) ≡ false) entries

-- a derivation has the form of a log's: of a row the rows of its factors ascend, and each of its entries counts something
abbrev pub HasForm : Derivation → Type 0
HasForm (Cut cut) = ⊤
HasForm (Row derived) = FactorsAscend derived.factors × EachCounts derived.entries

-- a head can declare derivations of a program over domains: each is shown and has the form of a log's, and with them there are not too many rows
pub record AreDeclared (program : Program) (domains : List Domain) (derivations : List Derivation) : Type 0 where
  pub shown : AreShown (begun program domains) derivations
  pub formed : All HasForm derivations
  pub few_derived : rows_of derivations ≤ 4096
  pub few_rows : length program.rows + rows_of derivations ≤ 400000

-- There is room for the setups of units behind the slots and rows of a program: with them it has fewer than 1,000 slots, these can't be
-- split more often than a log over the plant allows, where a slot of a setup is split once and each other one at most 9 times, and it has
-- rows to spare.
pub record HasUnitRoom (plant : Plant) (program : Program) (units : List ℕ) : Type 0 where
  pub slots : slots_with plant units (length program.root) ≤ 999
  pub splits : 8 * length program.root + slots_with plant units (length program.root) ≤ depth_limit plant
  pub rows : rows_with plant units (length program.rows) ≤ 45904

-- a head may declare the setups of these units for a program: they ascend and are there, and where there are any, there is room for them
pub record CanSetUp (plant : Plant) (program : Program) (units : List ℕ) : Type 0 where
  pub ascending : IsStrictlyIncreasing units
  pub there : All (λ unit. unit < length plant.units) units
  pub room : 0 < length units → HasUnitRoom plant program units

-- what is chosen of sums for a part, and its program with them, which has at most so many slots
pub record AreChosen (most : ℕ) (part : Program) (judged : List Domain) (sums : List Sum) (between : Program) : Type 0 where
  pub ranges : AreRanges part judged
  pub declared : All (IsDeclared (length part.root)) sums
  pub shown : All (IsShown part judged) sums
  pub few_slots : length part.root + length sums ≤ most
  pub few_rows : 0 < length sums → length part.rows + 2 * length sums ≤ 45904
  pub with_sums : IsWithSums part judged sums between

-- these are the sums and setups that are chosen for a part, its program with both, that by which its points are judged where it has setups,
-- and the domains over which a head with them is judged
pub record IsWidened (plant : Plant) (part : Program) (judged : List Domain) (wide : Widened) : Type 0 where
  pub between : Program
  pub chosen : AreChosen (slot_limit plant) part judged wide.sums between
  pub may : CanSetUp plant between wide.units
  pub set : AreSetUp plant wide.units between wide.set.program
  pub choices : wide.set.choices ≡ choices_before wide.units between
  pub domains : wide.domains ≡ wide_domains plant part judged wide.sums wide.units

-- these are the rows of the part with sums, setups and derivations, the head that declares them and is judged over domains, and the number
-- of the part's slots; its slots can't be split more often than a search takes up
pub record IsHeaded (plant : Plant) (part : Program) (judged : List Domain) (headed : Headed) : Type 0 where
  pub units : List ℕ
  pub derivations : List Derivation
  pub can : CanHead plant part judged headed.sums units derivations headed.rows
  pub head : headed.head.items ≡ whole_head headed.sums units derivations
  pub given : headed.given ≡ length part.root
  pub few_splits : sum_by splits_of headed.rows.program.root + sum_by spared headed.rows.program.root ≤ depth_limit plant
