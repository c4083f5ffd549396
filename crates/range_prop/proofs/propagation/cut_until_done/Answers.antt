-- One look more.
use Rattle.std.proofs.Common.{◌∙◌}
use Rattle.range_prop.proofs.Sequences.{HasCut-keeps, HasCut-lists, HasCut-slots, HasCut-then, take-then}
use Rattle.range_prop.proofs.propagation.cut_until_done.Goals as goal

pub step-requires-clause-slots : goal.step-requires-clause-slots
step-requires-clause-slots c = HasCut-slots c.args.program.now.rows c.args.area.now c.loop-more.area c.args.cuts.now.items c.loop-more.cuts.items c.loop-more.invariant.cut ∙ c.requires.slots

pub returns-in_err-more-clause-keeps : goal.returns-in_err-more-clause-keeps
returns-in_err-more-clause-keeps c =
    take-then c.args.area.now c.loop-more.area c.step.new.area (HasCut-keeps c.args.program.now.rows c.args.area.now c.loop-more.area c.args.cuts.now.items c.loop-more.cuts.items c.loop-more.invariant.cut) c.step.ensures.keeps

pub returns-in_err-more-clause-lists : goal.returns-in_err-more-clause-lists
returns-in_err-more-clause-lists c =
    take-then c.args.cuts.now.items c.loop-more.cuts.items c.step.new.cuts.items (HasCut-lists c.args.program.now.rows c.args.area.now c.loop-more.area c.args.cuts.now.items c.loop-more.cuts.items c.loop-more.invariant.cut) c.step.ensures.lists

pub returns-in_err-more-clause-slots : goal.returns-in_err-more-clause-slots
returns-in_err-more-clause-slots c = c.step.ensures.slots ∙ HasCut-slots c.args.program.now.rows c.args.area.now c.loop-more.area c.args.cuts.now.items c.loop-more.cuts.items c.loop-more.invariant.cut

pub loop-more-preserved : goal.loop-more-preserved
loop-more-preserved c = record {
  cut = HasCut-then c.args.program.now.rows c.args.area.now c.loop-more.area c.step.new.area c.args.cuts.now.items c.loop-more.cuts.items c.step.new.cuts.items c.loop-more.invariant.cut c.in_ok-more.ensures.cut;
  room = c.in_ok-more.ensures.room;
  open' = c.in_ok-more.ensures.open_;
  quiet = c.in_ok-more.ensures.quiet;
  count = c.step.ensures.count ∙ c.loop-more.invariant.count;
}

pub returns-clause-keeps : goal.returns-clause-keeps
returns-clause-keeps c = HasCut-keeps c.args.program.now.rows c.args.area.now c.loop-more.area c.args.cuts.now.items c.loop-more.cuts.items c.loop-more.invariant.cut

pub returns-clause-slots : goal.returns-clause-slots
returns-clause-slots c = HasCut-slots c.args.program.now.rows c.args.area.now c.loop-more.area c.args.cuts.now.items c.loop-more.cuts.items c.loop-more.invariant.cut
