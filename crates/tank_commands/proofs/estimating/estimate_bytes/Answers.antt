-- The log is not too long, and is valid or has a defect.
use Rattle.proof_tree.specs.Tree.{tree_of}
use Rattle.what_if.specs.OldLogs.{IsOldLog}
use Rattle.what_if.proofs.OldLogs.{valid-claim_over}
use Rattle.what_if.proofs.OwnCaps.{own_cap}
use Rattle.std.proofs.Common.{subst}
use Rattle.tank_commands.proofs.TankAnswers.{defect_answer, valid_answer}
use Rattle.tank_commands.proofs.estimating.estimate_bytes.Goals as goal

pub estimate_plants-requires-clause-over : goal.estimate_plants-requires-clause-over
estimate_plants-requires-clause-over c =
    let log = c.in-Valid.log in
    let valid = subst (IsOldLog c.args.plant c.args.bytes.now) c.in-Valid.is c.in_ok-log.ensures in
    valid-claim_over c.args.plant c.args.bytes.now log.head (tree_of log.tree) log.claim valid

pub estimate_plants-requires-clause-own : goal.estimate_plants-requires-clause-own
estimate_plants-requires-clause-own c cap estimate =
    let log = c.in-Valid.log in
    let valid = subst (IsOldLog c.args.plant c.args.bytes.now) c.in-Valid.is c.in_ok-log.ensures in
    own_cap c.args.plant c.args.bytes.now log.head (tree_of log.tree) log.claim cap valid estimate

pub returns-in-Valid : goal.returns-in-Valid
returns-in-Valid c =
    let log = c.in-Valid.log in
    let valid = subst (IsOldLog c.args.plant c.args.bytes.now) c.in-Valid.is c.in_ok-log.ensures in
    valid_answer c.args.plant c.args.number c.args.steps.step c.args.steps.count c.args.bytes.now log.head (tree_of log.tree) log.claim c.estimate_plants.result c.requires.short valid c.estimate_plants.ensures.status c.estimate_plants.ensures.says

pub returns-in-Defective : goal.returns-in-Defective
returns-in-Defective c =
    let right = subst (IsOldLog c.args.plant c.args.bytes.now) c.in-Defective.is c.in_ok-log.ensures in
    defect_answer c.args.plant c.args.number c.args.steps.step c.args.steps.count c.args.bytes.now c.in-Defective.defect c.checked.result c.requires.short right c.checked.ensures
