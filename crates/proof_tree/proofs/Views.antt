-- Lemmas on the views that a call keeps.
use Rattle.std.proofs.Common.{List, arith}
use Rattle.std.proofs.lemmas.Grind.{common_steps}
use Rattle.proof_tree.specs.Views.{View, KeepsViews}

-- what two calls in a row keep, both keep together
pub KeepsViews-then : (a b c : List View) → KeepsViews a b → KeepsViews b c → KeepsViews a c
KeepsViews-then a b c first second = grind (arith, common_steps)
