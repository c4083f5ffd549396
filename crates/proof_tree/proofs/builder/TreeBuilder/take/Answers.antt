-- An item comes after those that the builder holds: it begins a node, or stands in the one that has begun.
use Rattle.std.proofs.Common.{◌≡◌, [], ◌∷◌, ◌++◌, ap, sym, ◌∙◌, subst}
use Rattle.std.proofs.lemmas.Result.{IfOk-weaker}
use Rattle.proof_tree.specs.Built.{IsBuilt, items_if, begun_items, splits_items}
use Rattle.proof_tree.specs.Form.{MayComeAfter}
use Rattle.proof_tree.proofs.Building.{node-next}
use Rattle.proof_tree.proofs.builder.TreeBuilder.take.Goals as goal

pub returns-in-Some : goal.returns-in-Some
returns-in-Some g c =
    IfOk-weaker c.take_inside.result _ _
    (λ built done items has may.
    let same : items ≡ splits_items c.args.self.splits ++ begun_items c.in-Some.node = has.same ∙ ap (λ begun. splits_items c.args.self.splits ++ items_if begun_items begun) c.in-Some.is in
    subst (λ xs. IsBuilt (xs ++ c.args.item ∷ []) built) (sym same) done)
    c.take_inside.ensures

pub returns-in-None : goal.returns-in-None
returns-in-None g c =
    IfOk-weaker c.go_on.result _ _
    (λ built done items has may.
    let same : items ≡ splits_items c.args.self.splits ++ [] = has.same ∙ ap (λ begun. splits_items c.args.self.splits ++ items_if begun_items begun) c.in-None.is in
    let next = node-next g.row.R.Denot g.row.R-Area.Denot c.args.self.splits c.args.item _ c.new.ensures (subst (λ xs. MayComeAfter xs c.args.item) same may) in
    subst (λ xs. IsBuilt xs built) (next ∙ ap (λ xs. xs ++ c.args.item ∷ []) (sym same)) done)
    c.go_on.ensures
