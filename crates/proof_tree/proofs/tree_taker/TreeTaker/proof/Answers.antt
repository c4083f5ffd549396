-- Whole items that are held are those of the proof that was built.
use Rattle.std.proofs.Common.{◌≡◌, Some, ap, ◌∙◌, subst}
use Rattle.std.specs.Option.{IsSomeAnd}
use Rattle.proof_tree.specs.Tree.{tree_of}
use Rattle.proof_tree.proofs.Building.{holds-whole, proof_if}
use Rattle.proof_tree.proofs.tree_taker.TreeTaker.proof.Goals as goal

pub returns-in-Some-Whole : goal.returns-in-Some-Whole
returns-in-Some-Whole g c = λ tree holds.
    subst (λ built. IsSomeAnd (proof_if built) (λ proof. tree_of proof ≡ tree)) (c.in-Some-Whole.is ∙ ap Some c.in-Some-Whole.field-0-is) (holds-whole tree c.args.self.built holds.held)

pub returns-in-Some-More : goal.returns-in-Some-More
returns-in-Some-More g c = λ tree holds.
    subst (λ built. IsSomeAnd (proof_if built) (λ proof. tree_of proof ≡ tree)) (c.in-Some-More.is ∙ ap Some c.in-Some-More.field-0-is) (holds-whole tree c.args.self.built holds.held)

pub returns : goal.returns
returns g c = λ tree holds.
    subst (λ built. IsSomeAnd (proof_if built) (λ proof. tree_of proof ≡ tree)) c.in-None.is (holds-whole tree c.args.self.built holds.held)
