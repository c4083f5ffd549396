-- The rest behind the first cuts.
use Rattle.std.proofs.Common.{◌∙◌, ◌++◌, drop, length, sym, ap}
use Rattle.std.proofs.lemmas.List.{take-append-drop}
use Rattle.log_nodes.proofs.sameness.begins_with.Goals as goal

pub returns-then-first-cuts : goal.returns-then-first-cuts
returns-then-first-cuts c = λ yes.
    let few = length c.args.first.now in
    let same = c.are_same.ensures.0 yes in
    (drop few c.args.cuts.now, sym (take-append-drop few c.args.cuts.now) ∙ ap (λ cuts. cuts ++ drop few c.args.cuts.now) same)
