-- An end of one point, or one that is open.
use Rattle.std.proofs.Common.{◌∙◌, length, sym, ap}
use Rattle.std.proofs.lemmas.Result.{on_ok_weaker}
use Rattle.row_relax.specs.declared.rows.Rows.{Rows}
use Rattle.row_relax.proofs.Marks.{fits_slots}
use Rattle.resumed_log.proofs.gathering.Gathered.note.Goals as goal

pub settle-requires-clause-can : goal.settle-requires-clause-can
settle-requires-clause-can c = (c.args.pair.now.most, (c.args.pair.now.rows.now, c.requires.can))

pub settle-requires-clause-slots : goal.settle-requires-clause-slots
settle-requires-clause-slots c = fits_slots c.args.pair.now.rows.now.program c.args.area.now c.requires.fits ∙ sym (ap (λ (rows : Rows). length rows.program.root) c.requires.can.over)

pub returns-in-Point : goal.returns-in-Point
returns-in-Point c = on_ok_weaker c.settle.result (λ can. can c.args.pair.now.most c.args.pair.now.rows.now c.requires.can) c.settle.ensures
