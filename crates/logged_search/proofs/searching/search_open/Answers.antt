-- A count that the guide left exact is exact, and that of the second search, which has no guide.
use Rattle.std.proofs.Common.{inl, refl}
use Rattle.logged_search.proofs.searching.search_open.Goals as goal

pub returns-then-guided-clause-ended : goal.returns-then-guided-clause-ended
returns-then-guided-clause-ended g c =
    let found = c.in-Ok.ensures.ok.searched in
    record { tree = found.tree; of = inl (record { search = found.search; exact = c.in-Ok.ensures.exact c.if-guided.true }) }

pub returns-in-Ok-put_search-clause-ended : goal.returns-in-Ok-put_search-clause-ended
returns-in-Ok-put_search-clause-ended g c =
    let found = c.in-Ok-put_search.ensures.ok.searched in
    record { tree = found.tree; of = inl (record { search = found.search; exact = c.in-Ok-put_search.ensures.exact (c.in-Ok-put_search.ensures.unguided refl) }) }
