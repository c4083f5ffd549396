-- A view has the domains of its area.
use Rattle.std.proofs.Common.{◌+◌, ◌∙◌, ap, ap₂, nat_lt, sym}
use Rattle.std.specs.List.{sum_by}
use Rattle.row_relax.proofs.Marks.{domains-views}
use Rattle.branch_tree.specs.Splits.{splits_of}
use Rattle.branch_tree.proofs.going_on.is_deep.Goals as goal

pub returns : goal.returns
returns c =
    let splits = c.splits_in.ensures.count ∙ ap (sum_by splits_of) (sym (domains-views c.args.area.now)) in
    ap₂ nat_lt c.from.ensures (ap₂ (λ depth more. depth + more) c.from-2.ensures splits)
