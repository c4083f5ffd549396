use Rattle.std.proofs.Common.{List, ap, ◌∙◌, ◌&&◌, arith}
use Rattle.std.specs.Prelude.{not}
use Rattle.std.specs.List.{list_any}
use Rattle.plan_tables.specs.declared.cleanings.Cleaning.{Cleaning}
use Rattle.plan_tables.specs.Units.{lies_in}
use Rattle.plan_tables.proofs.Periods.{counted_none, counted_more, at_most_more}
use Rattle.plan_tables.proofs.units.count_periods.Goals as goal

pub loop-period-init : goal.loop-period-init
loop-period-init c = record {
  counted = counted_none c.args.plant.now c.args.batches.now c.args.unit;
  running_small = omega arith;
  out_small = omega arith;
  cleaning_small = omega arith;
  idle_small = omega arith;
}

pub loop-period-preserved : goal.loop-period-preserved
loop-period-preserved c =
    let n = c.loop-period.period in
    let old = c.loop-period.times in
    let new = c.with_period-times.result in
    let running = c.is_running-running.result in
    let there = c.in_use-there.result in
    let cleaned = c.is_cleaned-cleaned.result in
    let by = c.with_period-times.ensures in
    let before = c.loop-period.invariant in
    let cleaned_is = c.is_cleaned-cleaned.ensures ∙ ap (λ (xs : List Cleaning). list_any (lies_in n) xs) c.requires in
    record {
      counted = counted_more c.args.plant.now c.args.batches.now c.args.unit n old.running old.out old.cleaning old.idle new.running new.out new.cleaning new.idle running there cleaned
          before.counted c.is_running-running.ensures c.in_use-there.ensures cleaned_is by.running by.out by.cleaning by.idle;
      running_small = at_most_more old.running new.running n running before.running_small by.running;
      out_small = at_most_more old.out new.out n (not running && not there) before.out_small by.out;
      cleaning_small = at_most_more old.cleaning new.cleaning n (not running && (there && cleaned)) before.cleaning_small by.cleaning;
      idle_small = at_most_more old.idle new.idle n (not running && (there && not cleaned)) before.idle_small by.idle;
    }
