-- A cap for the plant's program is an estimate.
use Rattle.std.proofs.Common.{sym, ◌∙◌}
use Rattle.proof_tree.specs.Tree.{tree_of}
use Rattle.what_if.proofs.Capping.{is_estimate}
use Rattle.what_if.proofs.estimating.estimate.Goals as goal

pub cap_over-requires-clause-root : goal.cap_over-requires-clause-root
cap_over-requires-clause-root c = c.as_slice.ensures ∙ c.in_ok-ranges.ensures ∙ sym c.in_ok-program.ensures.made.root_is

pub returns : goal.returns
returns c =
    is_estimate c.args.plant.now c.in_ok-program.program c.as_slice.result.now c.args.head.now (tree_of c.args.proof.now) c.cap_over.result c.in_ok-program.ensures.made
    (c.as_slice.ensures ∙ c.in_ok-ranges.ensures) c.cap_over.ensures.is c.cap_over.ensures.caps
