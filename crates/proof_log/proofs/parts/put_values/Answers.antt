use Rattle.std.proofs.Common.{◌++◌, ap, ◌∙◌, sym, get_or, take, List}
use Rattle.log_lines.specs.declared.line.Line.{Line}
use Rattle.proof_log.specs.Log.{lines_text, value_line, value_lines}
use Rattle.proof_log.proofs.Lines.{value_lines_more, text_more}
use Rattle.proof_log.proofs.parts.put_values.Goals as goal

pub loop-slot-preserved : goal.loop-slot-preserved
loop-slot-preserved c =
    let point = c.args.point.now in
    let slot = c.loop-slot.slot in
    let more = value_lines_more point slot c.loop-slot-test.true in
    text_more c.args.into.now.items c.loop-slot.into.items c.put_value.new.into.items (value_lines 0 (take slot point)) (value_line slot (get_or point slot 0)) c.loop-slot.invariant c.in_ok-put_value.ensures
    ∙ ap (λ (lines : List Line). c.args.into.now.items ++ lines_text lines) (sym more)
