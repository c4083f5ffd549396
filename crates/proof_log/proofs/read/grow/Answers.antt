-- After a whole proof no item may come.
use Rattle.std.proofs.Common.{[], subst}
use Rattle.proof_tree.specs.declared.capped.Capped.TheVariants.{NoPoint}
use Rattle.proof_tree.specs.Built.{IsBuilt}
use Rattle.proof_tree.specs.Form.{any_steps}
use Rattle.proof_tree.proofs.Building.{built-whole}
use Rattle.proof_tree.proofs.Forms.{ended-none}
use Rattle.proof_log.proofs.read.grow.Goals as goal

pub unreachable-requires : goal.unreachable-requires
unreachable-requires c =
    let items = c.requires.0 in
    ended-none any_steps [] items NoPoint c.args.item (built-whole items c.in-Whole.field-0 (subst (IsBuilt items) c.in-Whole.is c.requires.1)) c.requires.2
