-- Where points are judged by the program of the rows, each is its own image.
use Rattle.row_relax.proofs.Choosing.{plain-images}
use Rattle.branch_tree.proofs.searchable.are_plain_searchable.Goals as goal

pub returns-in-None-clause-searchable : goal.returns-in-None-clause-searchable
returns-in-None-clause-searchable c = λ holds. record { images = plain-images c.args.rows.now c.in-None.is; program = c.is_searchable.ensures.0 holds }
