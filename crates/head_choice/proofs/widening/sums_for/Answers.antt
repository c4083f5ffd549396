-- The sums that are chosen, whatever the list by which they are passed on.
use Rattle.std.proofs.Common.{List, subst}
use Rattle.sum_slots.specs.declared.sum.Sum.{Sum}
use Rattle.sum_slots.specs.Larger.{IsWithSums}
use Rattle.head_choice.proofs.widening.sums_for.Goals as goal

pub returns : goal.returns
returns c = record {
  ranges = c.requires.ranges;
  declared = c.in_ok-sums.ensures.declared;
  shown = c.in_ok-sums.ensures.shown;
  few_slots = c.in_ok-sums.ensures.few;
  few_rows = c.in_ok-sums.ensures.rows;
  with_sums = subst (λ (ss : List Sum). IsWithSums c.args.part c.args.judged.now ss c.in_ok-program.program) c.as_slice.ensures c.in_ok-program.ensures.made;
}
