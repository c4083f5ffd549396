-- What is told of a search is right.
use Rattle.std.proofs.Common.{None}
use Rattle.row_relax.proofs.Choosing.{plain-images}
use Rattle.plan_told.proofs.Texts.{plain-has}
use Rattle.stn_solve.proofs.BegunTold.{told-earns, worth-plain}
use Rattle.stn_solve.proofs.SearchTold.{plain-places, plain-right, plain-search}
use Rattle.stn_solve.proofs.Searchable.{part-searchable}
use Rattle.stn_solve.proofs.plain.plan_plain.Goals as goal

pub search_only-requires-clause-images : goal.search_only-requires-clause-images
search_only-requires-clause-images g c = plain-images c.args.rows.now c.requires.plain

pub search_only-requires-clause-splits : goal.search_only-requires-clause-splits
search_only-requires-clause-splits g c = (part-searchable c.args.plant.now c.args.rows.now.program c.depth_limit.result c.depth_limit.ensures c.requires.sound c.requires.part).few_splits

pub told_of-requires-clause-places : goal.told_of-requires-clause-places
told_of-requires-clause-places g c =
    let s = c.in_ok-ended.ensures.ended in
    let of = plain-search c.depth_limit.result c.args.plant.now c.args.rows.now c.slot_count.result c.args.budget c.in_ok-ended.ended s.tree c.requires.plain c.requires.part s.of in
    plain-places c.args.plant.now c.args.rows.now.program c.depth_limit.result c.slot_count.result c.args.budget s.tree c.in_ok-ended.ended c.requires.sound c.requires.part c.depth_limit.ensures c.slot_count.ensures of

pub returns-clause-outcome : goal.returns-clause-outcome
returns-clause-outcome g c =
    let s = c.in_ok-ended.ensures.ended in
    let of = plain-search c.depth_limit.result c.args.plant.now c.args.rows.now c.slot_count.result c.args.budget c.in_ok-ended.ended s.tree c.requires.plain c.requires.part s.of in
    (plain-right c.args.plant.now c.args.rows.now.program c.depth_limit.result c.slot_count.result c.args.budget s.tree c.in_ok-ended.ended c.requires.sound c.requires.part c.depth_limit.ensures c.slot_count.ensures of c.in_ok-outcome.field-0 c.in_ok-outcome.ensures).outcome

pub returns-clause-proof : goal.returns-clause-proof
returns-clause-proof g c = λ judged levels none.
    let s = c.in_ok-ended.ensures.ended in
    let of = plain-search c.depth_limit.result c.args.plant.now c.args.rows.now c.slot_count.result c.args.budget c.in_ok-ended.ended s.tree c.requires.plain c.requires.part s.of in
    let told = c.in_ok-outcome.field-0 in
    let right = plain-right c.args.plant.now c.args.rows.now.program c.depth_limit.result c.slot_count.result c.args.budget s.tree c.in_ok-ended.ended c.requires.sound c.requires.part c.depth_limit.ensures c.slot_count.ensures of told c.in_ok-outcome.ensures in
    plain-has c.args.plant.now c.args.rows.now.program judged levels None told.outcome s.tree none right.proof tt

pub returns-clause-begun : goal.returns-clause-begun
returns-clause-begun g c = told-earns c.args.plant.now c.args.rows.now.program c.args.start.now c.in_ok-ended.ended c.in_ok-outcome.field-0 (worth-plain c.args.rows.now c.args.start.now c.in_ok-ended.ended.best c.requires.plain c.in_ok-ended.ensures.begun) c.in_ok-outcome.ensures
