-- The items that may come next are told by the node that has begun.
use Rattle.std.proofs.Common.{◌≡◌, Bool, true, false, refl, ap, sym, ◌∙◌}
use Rattle.std.specs.Prelude.{MatchBool}
use Rattle.proof_tree.specs.Walk.{may_come}
use Rattle.proof_tree.proofs.Building.{built-form, held_stage, next_of, inside-some, inside-none}
use Rattle.proof_tree.proofs.Forms.{going-comes, going-wrong}
use Rattle.proof_tree.proofs.builder.TreeBuilder.may_take.Goals as goal
use Rattle.proof_tree.proofs.builder.TreeBuilder.may_take.Goals.{in-None, in-Some+then-is_some, in-Some+else-is_some}

decided : (b : Bool) (P Q : Type 0) → (b ≡ true → P) → (b ≡ false → Q) → MatchBool b P Q
decided true P Q may may_not = may refl
decided false P Q may may_not = may_not refl

pub returns : goal.returns
returns g c =
    let builder = c.args.self.now in
    let expected : c.match-self.expected ≡ next_of builder.begun =
    elim c.match-self.branch [
      | in-None w ↦ w.expected-is ∙ sym (ap next_of w.in-None.is)
      | in-Some+then-is_some w ↦ w.expected-is ∙ sym (ap next_of w.in-Some.is ∙ inside-some w.in-Some.node.found (sym w.is_some.ensures ∙ w.if-is_some.true))
      | in-Some+else-is_some w ↦ w.expected-is ∙ sym (ap next_of w.in-Some.is ∙ inside-none w.in-Some.node.found (sym w.is_some.ensures ∙ w.if-is_some.false))
    ] in
    let is : c.may_come.result ≡ may_come (next_of builder.begun) c.args.item.now = c.may_come.ensures ∙ ap (λ e. may_come e c.args.item.now) expected in
    decided c.may_come.result _ _
    (λ may items has. going-comes items (held_stage builder.splits builder.begun) c.args.item.now (built-form g.row.R.Denot g.row.R-Area.Denot items builder has) (sym is ∙ may))
    (λ may_not items has. going-wrong items (held_stage builder.splits builder.begun) c.args.item.now (built-form g.row.R.Denot g.row.R-Area.Denot items builder has) (sym is ∙ may_not))
