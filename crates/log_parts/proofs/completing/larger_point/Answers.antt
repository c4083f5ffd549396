-- At a lawful point each sum that is shown has the value of a byte.
use Rattle.sum_slots.proofs.Ranges.{own-ranges, value_byte}
use Rattle.log_parts.proofs.completing.larger_point.Goals as goal

pub complete-requires-clause-bytes : goal.complete-requires-clause-bytes
complete-requires-clause-bytes c = λ k d lt.
    value_byte c.args.program.now c.args.program.now.root _ c.args.point.now (own-ranges c.args.program.now) (c.requires.declared k d lt) (c.requires.shown k d lt) (c.is_lawful.ensures.0 c.if-is_lawful.true)
