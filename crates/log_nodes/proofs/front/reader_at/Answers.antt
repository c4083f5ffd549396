-- It has read no items.
use Rattle.std.proofs.Common.{[]}
use Rattle.std.proofs.lemmas.Result.{IfOk-weaker}
use Rattle.log_nodes.proofs.front.reader_at.Goals as goal

pub returns : goal.returns
returns c = IfOk-weaker c.begin_behind.result _ _ (λ reader begun told name. (c.args.front.version, (c.args.front.head, (c.args.front.limits, ([], begun told name))))) c.begin_behind.ensures
