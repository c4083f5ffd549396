-- An end is kept, or a split is trimmed and narrowed to its left part.
use Rattle.std.proofs.Common.{map, refl, Some}
use Rattle.row_relax.specs.View.{view_of}
use Rattle.log_nodes.proofs.Walking.{below-same}
use Rattle.resumed_log.proofs.OpenSplits.{passed-below}
use Rattle.resumed_log.proofs.gathering.gather_below.Goals as goal

pub returns-clause-passed : goal.returns-clause-passed
returns-clause-passed c =
    passed-below c.args.walk.pair c.args.walk.depth (map view_of c.args.area.now) (map view_of c.trim.new.area) (map view_of c.open_split.new.area) c.trim.ensures.keeps (Some c.in_ok-open_split.field-0) c.in_ok-open_split.ensures.opened

pub returns-in_default-clause-passed : goal.returns-in_default-clause-passed
returns-in_default-clause-passed c = below-same refl c.requires.fits
