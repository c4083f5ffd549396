-- What is found behind the head, its setups and its derivations is so of the file.
use Rattle.std.proofs.Common.{◌≡◌, ◌+◌, ◌≤◌, ℕ, List, Err, sym, ap, ◌∙◌, subst, arith}
use Rattle.stn_model.specs.Points.{depth_limit}
use Rattle.proof_tree.specs.Tree.{tree_of}
use Rattle.proof_log.specs.declared.read.LogStop.TheVariants.{Defect as StopDefect}
use Rattle.valid_log.specs.AnyVersion.{given_claim}
use Rattle.plant_check.specs.Heads.{IsHeadHeld, IsJudged}
use Rattle.plant_check.proofs.HeadJudged.{few_derived, held_small}
use Rattle.what_if.specs.laws.Judged.{IsOwnLog}
use Rattle.what_if.proofs.OldLogs.{shown_defect, tail_within, tailed_valid, unshown_file}
use Rattle.what_if.proofs.headed.tailed_log.Goals as goal

pub limits_behind-limits-requires-clause-rows : goal.limits_behind-limits-requires-clause-rows
limits_behind-limits-requires-clause-rows c = let small = held_small c.args.plant.now c.args.program (depth_limit c.args.plant.now) c.args.setups c.requires.front.held in omega (arith, small.rows)

pub limits_behind-limits-requires-clause-derived : goal.limits_behind-limits-requires-clause-derived
limits_behind-limits-requires-clause-derived c = omega (arith, few_derived c.args.plant.now c.args.program (depth_limit c.args.plant.now) c.args.setups c.args.tail c.requires.front.held c.requires.tailed)

pub behind-requires-clause-some : goal.behind-requires-clause-some
behind-requires-clause-some c = omega (arith, c.requires.front.some, c.requires.tailed.kept.bytes_least)

pub behind-requires-clause-within : goal.behind-requires-clause-within
behind-requires-clause-within c = tail_within c.args.setups.limits c.args.setups.head c.args.bytes.now c.args.tail c.requires.follows c.requires.front.within

pub judge_head-requires-clause-held : goal.judge_head-requires-clause-held
judge_head-requires-clause-held c = subst (λ (depth : ℕ). IsHeadHeld c.args.plant.now c.args.program depth c.args.setups) (sym c.depth_limit.ensures) c.requires.front.held

pub returns-in-Err-clause-defect : goal.returns-in-Err-clause-defect
returns-in-Err-clause-defect c defect is =
    let setups = c.args.setups in
    let stop : c.unshown_stop.result ≡ StopDefect defect = cc in
    let has = subst (IsJudged c.args.plant.now c.args.program c.args.ranges.now setups c.args.tail) c.in-Err.is c.in_ok-defect.ensures in
    unshown_file c.args.plant.now c.args.program c.args.ranges.now c.args.bytes.now c.as_slice.result.now setups c.args.tail c.limits_behind-limits.result c.in-Err.defect defect has c.limits_behind-limits.ensures
    (c.as_slice.ensures.value ∙ c.in_ok-rest.ensures) (c.unshown_stop.ensures defect stop)

pub returns-in_ok-given_log-in-Ok-own_log-clause-log : goal.returns-in_ok-given_log-in-Ok-own_log-clause-log
returns-in_ok-given_log-in-Ok-own_log-clause-log c =
    let program = c.args.program in
    let setups = c.args.setups in
    let rows = c.in-Ok.rows in
    let log = c.in-Ok-own_log.log in
    let given = c.in_ok-given_log-in-Ok-own_log.field-0 in
    let enlarged = subst (IsJudged c.args.plant.now program c.args.ranges.now setups c.args.tail) c.in-Ok.is c.in_ok-defect.ensures in
    tailed_valid c.args.plant.now program c.args.ranges.now c.args.bytes.now setups c.args.tail rows log given c.requires.front.held c.requires.tailed enlarged
    (subst (λ (text : List ℕ). IsOwnLog rows (depth_limit c.args.plant.now) text (tree_of log.tree) log.claim) (c.as_slice-in-Ok.ensures.value ∙ c.in_ok-rest.ensures) c.in-Ok-own_log.ensures.log)
    c.in_ok-given_log-in-Ok-own_log.ensures.head c.in_ok-given_log-in-Ok-own_log.ensures.tree
    (subst (λ (n : ℕ). given.claim ≡ given_claim n log.claim) c.len-slots.ensures c.in_ok-given_log-in-Ok-own_log.ensures.claim)

pub returns-in-Err-own_log-clause-defect : goal.returns-in-Err-own_log-clause-defect
returns-in-Err-own_log-clause-defect c defect is =
    let program = c.args.program in
    let setups = c.args.setups in
    let stop : c.stop_in_file.result ≡ StopDefect defect = cc in
    shown_defect c.args.plant.now program c.args.ranges.now c.args.bytes.now c.as_slice-in-Ok.result.now setups c.args.tail c.in-Ok.rows c.stop_in_file.result c.in-Err-own_log.stop defect
    (subst (IsJudged c.args.plant.now program c.args.ranges.now setups c.args.tail) c.in-Ok.is c.in_ok-defect.ensures) (c.as_slice-in-Ok.ensures.value ∙ c.in_ok-rest.ensures)
    (λ before own. c.in-Err-own_log.ensures.defect before (ap Err own)) c.stop_in_file.ensures stop
