-- Where some slot that points have has several values, some slot has.
use Rattle.std.proofs.Common.{◌≡◌, ◌∙◌, Bool, true, false}
use Rattle.row_kit.specs.Area.{present}
use Rattle.branch_tree.specs.laws.Grounds.{rows_of}
use Rattle.branch_tree.proofs.Singles.{chosen_single}
use Rattle.branch_tree.proofs.judging.judge.Goals as goal

apart : (b : Bool) → b ≡ true → b ≡ false → ⊥
apart b is_true is_false = cc

pub settle_or_split-requires-clause-more : goal.settle_or_split-requires-clause-more
settle_or_split-requires-clause-more c = λ all.
    apart c.is_chosen.result (c.is_chosen.ensures ∙ chosen_single (rows_of c.args.ground.now) (present c.args.area.now) all) c.if-is_chosen.false
