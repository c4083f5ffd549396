-- The only point of the area's first slots is that of the least values.
use Rattle.std.proofs.Common.{length, subst}
use Rattle.std.proofs.lemmas.Result.{IfOk-weaker}
use Rattle.proof_tree.specs.declared.capped.Capped.{Capped}
use Rattle.row_kit.specs.Area.{present}
use Rattle.row_relax.proofs.Choosing.{first-settled}
use Rattle.branch_tree.specs.laws.Ends.{Reaches}
use Rattle.branch_tree.specs.laws.Grounds.{choices_at, rows_of}
use Rattle.branch_tree.proofs.Singles.{first_only, settled-reached}
use Rattle.branch_tree.proofs.found.only_found.Goals as goal

pub returns-clause-only : goal.returns-clause-only
returns-clause-only c =
    let ground = c.args.ground.now in
    let ds = present c.args.area.now in
    let first = first_only (length (choices_at ground).root) _ ds _ c.put_values.ensures c.slot_count.ensures.count in
    IfOk-weaker c.tested_first.result _ _
    (λ found is single. subst (λ (cap : Capped). Reaches cap found) (first-settled (rows_of ground) ds c.requires.slots) (settled-reached (choices_at ground) _ _ found first is single))
    c.tested_first.ensures
