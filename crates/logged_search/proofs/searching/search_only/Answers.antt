-- What cannot be searched is one empty box, in which no point lies.
use Rattle.std.proofs.Common.{inr, refl}
use Rattle.plan_told.specs.Ended.{empty_tree}
use Rattle.plan_told.proofs.EmptyRoots.{empty-none}
use Rattle.logged_search.proofs.EmptySearch.{not-open}
use Rattle.logged_search.proofs.searching.search_only.Goals as goal

pub search_open-requires : goal.search_open-requires
search_open-requires g c = record { searchable = record { images = c.requires.images; program = c.is_searchable.ensures.0 c.if-is_searchable.true }; few = c.requires.budget }

pub returns-else-is_searchable-clause-ended : goal.returns-else-is_searchable-clause-ended
returns-else-is_searchable-clause-ended g c =
    let bare = not-open c.args.rules.most c.args.rows.now.program c.is_searchable.result c.requires.splits c.is_searchable.ensures.1 c.if-is_searchable.false in
    record { tree = empty_tree; of = inr (record { bare = bare; ended_is = c.empty_end.ensures; tree_is = refl }) }

pub returns-else-is_searchable-clause-begun : goal.returns-else-is_searchable-clause-begun
returns-else-is_searchable-clause-begun g c = λ lawful.
    let bare = not-open c.args.rules.most c.args.rows.now.program c.is_searchable.result c.requires.splits c.is_searchable.ensures.1 c.if-is_searchable.false in
    (let image = c.requires.images c.args.start.now lawful in absurd (empty-none c.args.rows.now.program bare image.0 image.1.lawful.lies))
