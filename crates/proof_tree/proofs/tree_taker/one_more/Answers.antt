-- One more item comes after those that were built, or is out of place.
use Rattle.std.proofs.Common.{subst}
use Rattle.proof_tree.specs.Built.{IsBuilt, HasBuilt}
use Rattle.proof_tree.proofs.Building.{whole-wrong}
use Rattle.proof_tree.proofs.tree_taker.one_more.Goals as goal

pub returns-in-Whole : goal.returns-in-Whole
returns-in-Whole g c = λ items is. whole-wrong items c.in-Whole.field-0 c.args.item (subst (IsBuilt items) c.in-Whole.is is)

pub returns-then-may_take : goal.returns-then-may_take
returns-then-may_take g c = λ items is.
    let has : HasBuilt items c.in-More.builder = subst (IsBuilt items) c.in-More.is is in
    c.in_ok-take-in-More.ensures items has (c.if-may_take.ensures items has)

pub returns : goal.returns
returns g c = λ items is. c.if-may_take.ensures items (subst (IsBuilt items) c.in-More.is is)
