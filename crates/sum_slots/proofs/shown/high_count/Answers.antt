-- Terms that are not turned round are the terms.
use Rattle.std.proofs.Common.{ap, ◌∙◌}
use Rattle.std.proofs.lemmas.List.{map-id}
use Rattle.sum_slots.specs.Shown.{most_count}
use Rattle.sum_slots.proofs.shown.high_count.Goals as goal

pub returns-clause-most : goal.returns-clause-most
returns-clause-most c =
    let sum = c.args.sum.now in
    c.most_count.ensures.most ∙ ap (most_count c.args.program.now c.args.ranges.now sum.high) (map-id c.as_slice.result.now ∙ c.as_slice.ensures)
