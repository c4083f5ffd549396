-- The verdict is on the very log that was read.
use Rattle.std.proofs.Common.{◌≡◌, ℕ, List, None, sym, subst}
use Rattle.stn_model.specs.Points.{depth_limit}
use Rattle.proof_tree.specs.Tree.{tree_of}
use Rattle.log_lines.specs.TextDefect.{log_text_defect}
use Rattle.valid_log.specs.Verdict.{IsVerdictOn, YesHolds, limits_of}
use Rattle.what_if.proofs.OldLogs.{yes_log}
use Rattle.what_if.proofs.judging.judged.Goals as goal

pub returns-in-Ok-Yes-clause-log : goal.returns-in-Ok-Yes-clause-log
returns-in-Ok-Yes-clause-log c =
    let rows = c.args.rows.now in
    let read = c.requires in
    let yes = c.in-Ok-Yes.field-0-is in
    let clean = subst (λ (depth : ℕ). log_text_defect (limits_of rows depth) c.args.bytes.now ≡ None) (sym c.depth_limit.ensures) read.clean in
    let on = c.in-Ok-Yes.ensures.meant read.over (subst (λ (text : List ℕ). log_text_defect (limits_of rows c.depth_limit.result) text ≡ None) read.text clean) in
    yes_log rows (depth_limit c.args.plant.now) c.args.bytes.now c.args.log c.in-Ok-Yes.field-0-0 read (subst (IsVerdictOn rows (tree_of c.args.log.tree) c.args.log.claim) yes on) (subst (YesHolds rows) yes c.in-Ok-Yes.ensures.holds)
