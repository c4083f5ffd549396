use Rattle.std.proofs.Common.{◌++◌, ap, ◌∙◌, List, ℕ}
use Rattle.std.proofs.lemmas.Result.{IfOk-equal}
use Rattle.range_prop.specs.declared.row_cut.RowCut.{RowCut}
use Rattle.proof_log.specs.Log.{lines_text}
use Rattle.proof_log.proofs.TreeLines.{node_written, cuts_lines}
use Rattle.proof_log.proofs.nodes.+nodes.Goals as goal

pub append_node-returns : goal.append_node-returns
append_node-returns t c =
    let node = c.args.tree.now in
    let cuts = ◌∙◌ {A = List ℕ} c.in_ok-put_cuts.ensures (ap (λ (cuts : List RowCut). c.put_line.new.into.items ++ lines_text (cuts_lines cuts)) c.as_slice.ensures) in
    IfOk-equal c.append_end.result _ _ _ c.append_end.ensures
    (node_written c.args.into.now.items c.put_line.new.into.items c.put_cuts.new.into.items c.put_found_if.new.into.items node.cuts node.found node.end
    c.in_ok-put_line.ensures.ok cuts c.in_ok-put_found_if.ensures)
