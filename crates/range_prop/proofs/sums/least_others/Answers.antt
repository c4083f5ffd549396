-- One entry more is added.
use Rattle.std.proofs.Common.{List, arith}
use Rattle.std.proofs.lemmas.Int.{ints}
use Rattle.std.proofs.lemmas.List.{at_drop_more}
use Rattle.row_kit.specs.declared.row.Entry.{Entry}
use Rattle.row_kit.specs.Area.{present}
use Rattle.row_kit.proofs.Ascending.{no_entry}
use Rattle.range_prop.specs.Cut.{least_others}
use Rattle.range_prop.proofs.sums.least_others.Goals as goal

pub loop-entry-preserved : goal.loop-entry-preserved
loop-entry-preserved c =
    let i = c.loop-entry.entry-index in
    let more = at_drop_more (λ (es : List Entry). least_others es c.args.slot (present c.args.area.now)) c.args.entries.now i no_entry c.loop-entry-test.true in
    let small = c.loop-entry.invariant.small in
    record {
      whole = omega (arith, ints, more, c.least_other-sum.ensures.value, c.least_other-sum.ensures.small, c.loop-entry.invariant.whole, small, c.requires.few, c.loop-entry-test.true);
      small = omega (arith, ints, c.least_other-sum.ensures.small, small, c.requires.few, c.loop-entry-test.true);
    }
