-- What a search came to, or an empty root, with the proof of it.
use Rattle.std.proofs.Common.{◌≡◌, ◌≢◌, ℕ, ◌≤◌, Bool, true, false, inl, inr, refl, sym, subst, arith}
use Rattle.std.specs.Prelude.{IfSome}
use Rattle.row_kit.specs.Point.{IsLawful, LiesIn, worth_of}
use Rattle.proof_tree.specs.Cap.{Bounds}
use Rattle.proof_tree.specs.declared.capped.Capped.TheVariants.{Bad}
use Rattle.proof_tree.specs.Nodes.{counted}
use Rattle.proof_tree.specs.Tree.{tree_cap}
use Rattle.row_relax.specs.RowProofs.{RowTree}
use Rattle.row_relax.specs.declared.rows.Rows.{Rows}
use Rattle.row_relax.specs.Choices.{HaveImages, choices_of, steps_of}
use Rattle.row_relax.specs.View.{view_of}
use Rattle.branch_tree.specs.declared.ended.Ended.{Ended}
use Rattle.branch_tree.specs.Justified.{IsGroup, IsJustified}
use Rattle.branch_tree.specs.Searched.{HasOpenBox, IsSettled, IsWritable}
use Rattle.plan_told.specs.Ended.{IsEmptyRoot, IsEnding, IsSearchOf, empty_end, empty_tree}
use Rattle.plan_told.proofs.EmptyRoots.{empty-cap, empty-justified, empty-none, empty-writable, spared-few}
use Rattle.plan_told.proofs.PlainTold.{best-group}

-- what holds of a search that ended, and of an empty root
pub record HasEnded (most : ℕ) (rows : Rows) (floors : Bool) (given budget : ℕ) (ended : Ended) (tree : RowTree) : Type 0 where
  pub cap : ended.cap ≡ tree_cap (steps_of rows) (view_of rows.program.root) tree
  pub defined : ended.cap ≢ Bad
  pub bounds : Bounds (LiesIn (choices_of rows).root) (IsLawful (choices_of rows)) (worth_of (choices_of rows)) ended.cap
  pub justified : IsJustified rows given tree
  pub writable : IsWritable most rows floors tree
  pub group : IfSome ended.best (IsGroup (choices_of rows))
  pub spent : ended.spent ≡ counted tree
  pub within : ended.spent ≤ budget
  pub settled : ended.left_open ≡ false → IsSettled ended.cap ended.best
  pub left_open : ended.left_open ≡ true → HasOpenBox rows (view_of rows.program.root) tree × (ended.spent ≡ budget)

search_ended : (most : ℕ) (rows : Rows) (floors : Bool) (given budget : ℕ) (ended : Ended) (tree : RowTree) → IsSearchOf most rows floors given budget ended tree → HasEnded most rows floors given budget ended tree
search_ended most rows floors given budget ended tree of = record {
  cap = of.search.cap;
  defined = of.search.defined;
  bounds = of.search.bounds;
  justified = of.search.justified;
  writable = of.search.writable;
  group = best-group rows floors budget tree ended of.search;
  spent = of.search.spent;
  within = of.search.within;
  settled = of.search.settled;
  left_open = λ left. ((of.search.left_open left).0, of.exact.spent left);
}

empty_ended : (most : ℕ) (rows : Rows) (floors : Bool) (given budget : ℕ) → 4608 ≤ most → HaveImages rows → 1 ≤ budget → (ended : Ended) (tree : RowTree) → IsEmptyRoot rows.program ended tree → HasEnded most rows floors given budget empty_end empty_tree
empty_ended most rows floors given budget enough images some ended tree of = record {
  cap = empty-cap rows of.bare;
  defined = λ is. cc;
  bounds = λ point lies lawful. (let image = images point lawful in empty-none rows.program of.bare image.0 image.1.lawful.lies);
  justified = empty-justified rows given;
  writable = empty-writable most rows floors (let few = spared-few rows.program in omega (arith, few, enough));
  group = tt;
  spent = refl;
  within = some;
  settled = λ closed. tt;
  left_open = λ left. cc;
}

-- so it is of either, where each lawful point has an image among the rows, and as many splits may stand one below another as 512 slots can need
pub has-ended : (most : ℕ) (rows : Rows) (floors : Bool) (given budget : ℕ) → 4608 ≤ most → HaveImages rows → 1 ≤ budget → (ended : Ended) (tree : RowTree) → IsEnding most rows floors given budget ended tree → HasEnded most rows floors given budget ended tree
has-ended most rows floors given budget enough images some ended tree (inl of) = search_ended most rows floors given budget ended tree of
has-ended most rows floors given budget enough images some ended tree (inr of) =
    subst (λ (e : Ended). HasEnded most rows floors given budget e tree) (sym of.ended_is)
    (subst (HasEnded most rows floors given budget empty_end) (sym of.tree_is) (empty_ended most rows floors given budget enough images some ended tree of))
