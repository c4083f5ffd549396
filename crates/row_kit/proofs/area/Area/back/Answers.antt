-- The present domains are those that the area holds, and a mark is at most the number of changes.
use Rattle.std.proofs.Common.{◌∙◌, ap, sym, length, arith}
use Rattle.row_kit.proofs.Histories.{present_is, present-history, length-history}
use Rattle.row_kit.proofs.area.Area.back.Goals as goal

pub undo_to-requires-clause-mark : goal.undo_to-requires-clause-mark
undo_to-requires-clause-mark c =
    let a = c.self.inside in
    omega (arith, ap length c.self.view_is, length-history a.domains.items a.trail.items, a.trail.ok.0)

pub returns-clause-slots : goal.returns-clause-slots
returns-clause-slots c =
    let a = c.self.inside in
    ap length (present-history c.undo_to.new.domains.items c.undo_to.new.trail.items)
    ∙ c.undo_to.ensures.slots
    ∙ ap length (sym (present_is a.domains.items a.trail.items c.args.self.now c.self.view_is))
