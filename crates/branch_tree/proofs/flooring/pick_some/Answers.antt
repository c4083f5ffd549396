-- The floor of the pick is the one that was given.
use Rattle.std.proofs.Common.{Some, ℤ, ap, ◌∙◌}
use Rattle.std.specs.Int.{w128}
use Rattle.std.proofs.lemmas.Int.{to_z-of_z}
use Rattle.branch_tree.proofs.flooring.pick_some.Goals as goal

pub returns-clause-floor : goal.returns-clause-floor
returns-clause-floor c = c.pick_of.ensures.floor ∙ ap (λ (n : ℤ). Some n) (to_z-of_z w128 c.args.floor c.ranges.floor)
