-- A right verdict over the plant's rows is right of the plant.
use Rattle.std.proofs.Common.{◌≡◌, ℕ, length, sym, subst}
use Rattle.std.specs.Prelude.{None, Option, unwrap_or, IfOk}
use Rattle.proof_tree.specs.Items.{tree_items}
use Rattle.proof_tree.specs.Tree.{tree_of}
use Rattle.log_lines.specs.TextDefect.{log_text_defect}
use Rattle.proof_log.specs.Log.{log_text}
use Rattle.proof_log.specs.OneText.{IsLogOver}
use Rattle.row_kit.specs.declared.program.Program.{Program}
use Rattle.valid_log.specs.Verdict.{IsVerdict, limits_of}
use Rattle.plant_check.proofs.OwnSaying.{checked_if}
use Rattle.plant_check.proofs.log.check_log.Goals as goal

pub returns-clause-checked : goal.returns-clause-checked
returns-clause-checked c =
    let log = c.args.log.now in
    checked_if c.args.plant.now c.args.rows.now (log_text log.version (tree_items (tree_of log.tree)) log.claim) c.check_log.result
    c.requires.sound c.requires.made c.requires.means c.requires.plain
    (subst (λ (depth : ℕ). IfOk c.check_log.result (IsVerdict c.args.rows.now depth (log_text log.version (tree_items (tree_of log.tree)) log.claim))) c.depth_limit.ensures c.check_log.ensures.verdict) c.check_log.ensures.holds

pub returns-clause-meant : goal.returns-clause-meant
returns-clause-meant c over none =
    let log = c.args.log.now in
    let rows = c.args.rows.now in
    c.check_log.ensures.meant (subst (λ (choices : Option Program). IsLogOver (length (unwrap_or choices rows.program).root) log.version (tree_of log.tree) log.claim) (sym c.requires.plain) over)
    (subst (λ (depth : ℕ). log_text_defect (limits_of rows depth) (log_text log.version (tree_items (tree_of log.tree)) log.claim) ≡ None) (sym c.depth_limit.ensures) none)
