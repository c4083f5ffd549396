-- The second search is made without a guide, so its count is exact.
use Rattle.logged_search.proofs.Both.{ok_both}
use Rattle.logged_search.proofs.searching.search_built.Goals as goal

pub returns : goal.returns
returns g c =
    ok_both c.build_hinted.result _ _ _
    (λ searched found exact. record { search = found.search; exact = exact })
    c.build_hinted.ensures.ok c.build_hinted.ensures.exact
