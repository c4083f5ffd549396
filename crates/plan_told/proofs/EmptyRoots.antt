-- A root in which some slot has no value has no point, which a proof of one empty box says.
use Rattle.std.proofs.Common.{◌≡◌, ℕ, ◌≤◌, leb, Bool, true, false, ◌&&◌, cond, List, [], ◌∷◌, get_or, refl, sym, ap, subst, arith}
use Rattle.std.specs.List.{All, list_any, sum_by}
use Rattle.std.proofs.lemmas.List.Elements.{All-nil, All-cons}
use Rattle.std.proofs.lemmas.List.Sums.{sum_by-le}
use Rattle.row_kit.specs.declared.domain.Domain.{Domain}
use Rattle.row_kit.specs.declared.program.Program.{Program}
use Rattle.row_kit.specs.Domain.{IsOpen}
use Rattle.row_kit.specs.Point.{LiesIn}
use Rattle.range_prop.specs.Cut.{is_bare}
use Rattle.proof_tree.specs.declared.capped.Capped.TheVariants.{NoPoint, Bad}
use Rattle.proof_tree.specs.declared.item.Item.TheVariants.{Node, Empty}
use Rattle.proof_tree.specs.Tree.{tree_cap}
use Rattle.row_relax.specs.declared.rows.Rows.{Rows}
use Rattle.row_relax.specs.Choices.{plain, steps_of}
use Rattle.row_relax.specs.laws.Laws.{rows_sound}
use Rattle.row_relax.specs.laws.Shown.{domains_of-view_of, fits_of}
use Rattle.row_relax.specs.Steps.{row_steps}
use Rattle.row_relax.specs.View.{view_of}
use Rattle.branch_tree.specs.Justified.{IsJustified}
use Rattle.branch_tree.specs.Searched.{IsFitItem, IsWritable, spared}
use Rattle.branch_tree.proofs.Opened.{none_bare-open}
use Rattle.plan_told.specs.Ended.{empty_tree}

-- where not each domain has a value, the test finds one that has none
any_bare : (ds : List Domain) → (¬ All IsOpen ds) → list_any is_bare ds ≡ true
any_bare ds bare = at (list_any is_bare ds) refl
  where
    at : (found : Bool) → list_any is_bare ds ≡ found → found ≡ true
    at true is = refl
    at false is = absurd (bare (none_bare-open ds is))

-- so the root is empty
empty_root : (rows : Rows) → (¬ All IsOpen rows.program.root) → (steps_of rows).empty (view_of rows.program.root) ≡ true
unfolding row_steps
empty_root rows bare = subst (λ (ds : List Domain). list_any is_bare ds ≡ true) (sym (domains_of-view_of rows.program.root)) (any_bare rows.program.root bare)

-- no point lies in it
pub empty-none : (program : Program) → (¬ All IsOpen program.root) → (point : List ℕ) → LiesIn program.root point → ⊥
empty-none program bare point lies =
    (rows_sound program).empty_holds (view_of program.root) (fits_of program program.root refl program.root_normal) (empty_root (plain program) bare) point
    (subst (λ (ds : List Domain). LiesIn ds point) (sym (domains_of-view_of program.root)) lies)

-- the proof of one empty box says so
pub empty-cap : (rows : Rows) → (¬ All IsOpen rows.program.root) → NoPoint ≡ tree_cap (steps_of rows) (view_of rows.program.root) empty_tree
empty-cap rows bare = ap (λ (empty : Bool). cond empty NoPoint Bad) (sym (empty_root rows bare))

spared_one : (d : Domain) → spared d ≤ 1
spared_one d = at (d.zero && leb d.lo d.hi)
  where
    at : (both : Bool) → cond both 0 1 ≤ 1
    at true = omega arith
    at false = omega arith

-- no more slots than a program may have are split once less
pub spared-few : (program : Program) → sum_by spared program.root ≤ 4096
spared-few program = omega (arith, sum_by-le spared 1 program.root (λ k d within. spared_one (get_or program.root k d)), program.few_slots)

-- it may be written
pub empty-writable : (most : ℕ) (rows : Rows) (floors : Bool) → sum_by spared rows.program.root ≤ most → IsWritable most rows floors empty_tree
empty-writable most rows floors few = record {
  fit = All-cons (IsFitItem rows floors) Node (Empty ∷ []) tt (All-cons (IsFitItem rows floors) Empty [] tt (All-nil (IsFitItem rows floors)));
  shallow = omega (arith, few);
}

-- and is justified: nothing is split
pub empty-justified : (rows : Rows) (given : ℕ) → IsJustified rows given empty_tree
empty-justified rows given = record { group = tt; end = tt }
