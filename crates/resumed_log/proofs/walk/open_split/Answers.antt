-- A split was opened over the views that it divides.
use Rattle.std.proofs.Common.{map, Option, subst, arith}
use Rattle.std.specs.Prelude.{⊤, IfSome}
use Rattle.std.proofs.Math.Seq.{take-length}
use Rattle.row_relax.specs.View.{view_of}
use Rattle.open_splits.specs.declared.splits.OpenSplit.{OpenSplit}
use Rattle.open_splits.specs.laws.Opened.{HasOpened}
use Rattle.resumed_log.proofs.walk.open_split.Goals as goal

pub returns-in-Some-clause-opened : goal.returns-in-Some-clause-opened
returns-in-Some-clause-opened c =
    let pair = c.args.walk.pair in
    let old = map view_of c.args.area.now in
    let new' = map view_of c.open_split.new.area in (
      record {
        divided = old;
        keeps = take-length old;
        opened = subst (λ (o : Option (OpenSplit ⊤ ⊤)). IfSome o (HasOpened pair.rows.now.program c.args.walk.depth old new')) c.in-Some.is c.open_split.ensures.opened;
        few = omega arith;
      },
      c.open_split.ensures.fits,
    )
