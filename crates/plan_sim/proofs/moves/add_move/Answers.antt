use Rattle.std.proofs.Common.{arith}
use Rattle.plan_sim.proofs.Tables.{summed_set}
use Rattle.plan_sim.proofs.Rows.{moved_outside}
use Rattle.plan_sim.proofs.moves.add_move.Goals as goal

pub returns-clause-moved : goal.returns-clause-moved
returns-clause-moved c = λ r k h. summed_set c.args.cells.now c.args.width c.args.row c.args.column r k c.args.amount (omega arith) h (omega arith)

pub returns-then-width-column-clause-moved : goal.returns-then-width-column-clause-moved
returns-then-width-column-clause-moved c = λ r k h. omega (arith, moved_outside c.args.row c.args.column c.args.amount r k c.args.width (omega arith) h)
