-- What a builder holds is never the whole of a proof.
use Rattle.std.proofs.Common.{subst}
use Rattle.proof_tree.specs.Built.{IsBuilt}
use Rattle.proof_tree.proofs.Building.{built-not_whole}
use Rattle.proof_log.proofs.read.whole_log.Goals as goal

pub unreachable-requires : goal.unreachable-requires
unreachable-requires c =
    let whole = c.requires.whole in
    built-not_whole whole.0 c.in-More.field-0 (subst (IsBuilt whole.0) c.in-More.is whole.1) whole.2
