-- An end is written, or a split, whose area is trimmed and narrowed to its left part.
use Rattle.std.proofs.Common.{◌∙◌, ap, length, map, sym, Some}
use Rattle.row_relax.specs.declared.rows.Rows.{Rows}
use Rattle.row_relax.specs.View.{view_of}
use Rattle.row_relax.proofs.Marks.{fits_slots}
use Rattle.resumed_log.proofs.OpenSplits.{passed-below}
use Rattle.resumed_log.proofs.writing.write_end.Goals as goal

pub returns-in_ok-open_split-in-Split-clause-passed : goal.returns-in_ok-open_split-in-Split-clause-passed
returns-in_ok-open_split-in-Split-clause-passed g c =
    passed-below c.args.walk.pair c.args.walk.depth (map view_of c.args.area.now) (map view_of c.trim.new.area) (map view_of c.open_split.new.area) c.trim.ensures.keeps (Some c.in_ok-open_split-in-Split.field-0) c.in_ok-open_split-in-Split.ensures.opened

pub settle-requires-clause-can : goal.settle-requires-clause-can
settle-requires-clause-can g c = (c.args.walk.pair.most, (c.args.walk.pair.rows.now, c.requires.can))

pub settle-requires-clause-slots : goal.settle-requires-clause-slots
settle-requires-clause-slots g c = fits_slots c.args.walk.pair.rows.now.program c.args.area.now c.requires.fits ∙ sym (ap (λ (rows : Rows). length rows.program.root) c.requires.can.over)
