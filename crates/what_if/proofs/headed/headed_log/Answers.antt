-- What stands behind the sums gives the defect, or the log behind it is looked at.
use Rattle.std.proofs.Common.{◌≡◌, ◌+◌, ◌∙◌, length, ap, arith, subst, sym}
use Rattle.stn_model.specs.Points.{depth_limit}
use Rattle.log_lines.specs.declared.grammar.Limits.{Limits}
use Rattle.setup_lines.specs.declared.setups.SetupFront.TheVariants as setting
use Rattle.setup_lines.specs.declared.setups.Setups.{Setups}
use Rattle.setup_lines.specs.Line.{setups_text}
use Rattle.valid_log.specs.declared.verdict.LogVerdict.TheVariants.{No}
use Rattle.valid_log.specs.Heads.{AreSetups, limits_with, setup_sizes}
use Rattle.plant_check.specs.Heads.{AreSetupsHeld, IsSetupsHeld}
use Rattle.plant_check.proofs.HeadJudged.{held_of}
use Rattle.what_if.proofs.OldLogs.{head_within, headed_valid_if, setups_within}
use Rattle.what_if.proofs.headed.headed_log.Goals as goal

pub set_up_log-requires : goal.set_up_log-requires
set_up_log-requires c =
    let plant = c.args.plant.now in
    let depth = depth_limit plant in
    let head = c.args.head in
    let setups = c.in-Whole.setups in
    let sizes = setup_sizes plant in
    let limits = c.plant_limits-limits.ensures ∙ ap (limits_with c.args.program depth) c.len.ensures in
    let held = subst (AreSetupsHeld c.plant_limits-limits.result sizes head) c.in-Whole.is c.in_ok-setups.ensures.held in
    let stands = subst (AreSetups c.plant_limits-limits.result sizes head c.args.bytes.now) c.in-Whole.is c.in_ok-setups.ensures.stands in
    let own : setups.head.bytes ≡ head.bytes + length (setups_text setups.units) = ap (λ (s : Setups). s.head.bytes) held.kept.is in
    record {
      front = record {
        sound = c.requires.sound;
        part = c.requires.part;
        ranges = c.requires.ranges;
        held = held_of plant c.args.program depth head setups c.requires.kept (subst (λ (limits : Limits). IsSetupsHeld limits sizes head setups) limits held);
        some = omega (arith, own, c.requires.kept.bytes_least);
        within = setups_within c.plant_limits-limits.result sizes head c.args.bytes.now setups stands (head_within c.args.program depth c.args.bytes.now head c.requires.stands);
      };
    }

pub returns-in-Whole-clause-log : goal.returns-in-Whole-clause-log
returns-in-Whole-clause-log c =
    let setups = c.in-Whole.setups in
    let sizes = setup_sizes c.args.plant.now in
    let stands = subst (AreSetups c.plant_limits-limits.result sizes c.args.head c.args.bytes.now) c.in-Whole.is c.in_ok-setups.ensures.stands in
    headed_valid_if c.args.plant.now c.args.program c.args.ranges.now c.args.bytes.now c.args.head setups c.set_up_log.result c.requires.stands c.requires.kept
    (subst (λ (limits : Limits). AreSetups limits sizes c.args.head c.args.bytes.now (setting.Whole setups)) (c.plant_limits-limits.ensures ∙ ap (limits_with c.args.program (depth_limit c.args.plant.now)) c.len.ensures) stands) c.set_up_log.ensures.log

pub returns-in-Whole-clause-defect : goal.returns-in-Whole-clause-defect
returns-in-Whole-clause-defect c defect is =
    let setups = c.in-Whole.setups in
    let sizes = setup_sizes c.args.plant.now in
    let stands = subst (AreSetups c.plant_limits-limits.result sizes c.args.head c.args.bytes.now) c.in-Whole.is c.in_ok-setups.ensures.stands in
    record {
      setups = setting.Whole setups;
      set_up = subst (λ (limits : Limits). AreSetups limits sizes c.args.head c.args.bytes.now (setting.Whole setups)) (c.plant_limits-limits.ensures ∙ ap (limits_with c.args.program (depth_limit c.args.plant.now)) c.len.ensures) stands;
      right = c.set_up_log.ensures.defect defect is;
    }

pub returns-in-Bad-clause-defect : goal.returns-in-Bad-clause-defect
returns-in-Bad-clause-defect c defect is =
    let sizes = setup_sizes c.args.plant.now in
    let own : c.in-Bad.defect ≡ defect = cc in
    let stands = subst (AreSetups c.plant_limits-limits.result sizes c.args.head c.args.bytes.now) c.in-Bad.is c.in_ok-setups.ensures.stands in
    record {
      setups = setting.Bad c.in-Bad.defect;
      set_up = subst (λ (limits : Limits). AreSetups limits sizes c.args.head c.args.bytes.now (setting.Bad c.in-Bad.defect)) (c.plant_limits-limits.ensures ∙ ap (limits_with c.args.program (depth_limit c.args.plant.now)) c.len.ensures) stands;
      right = ap No (sym own);
    }
