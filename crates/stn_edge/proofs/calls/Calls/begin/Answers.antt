use Rattle.std.proofs.Common.{sym, ap, ◌∙◌}
use Rattle.std.specs.Ordering.{nat_cmp}
use Rattle.std.specs.FinMap.{get, from_entries}
use Rattle.stn_edge.proofs.FailingCalls.{get-failing}
use Rattle.stn_edge.proofs.calls.Calls.begin.Goals as goal

pub returns-clause-value : goal.returns-clause-value
returns-clause-value c =
    let found = get-failing c.self.inside.failing c.saturating_add-self-inside.result in
    rw (← c.self.view_is)
    (c.copied.ensures ∙ c.get.ensures.value ∙ sym found
    ∙ ap (get {R = nat_cmp} (from_entries c.self.inside.failing.entries)) c.saturating_add-self-inside.ensures)
