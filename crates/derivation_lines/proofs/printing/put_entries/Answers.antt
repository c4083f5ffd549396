use Rattle.std.proofs.Common.{arith}
use Rattle.derivation_lines.specs.Tail.{entry_line}
use Rattle.derivation_lines.proofs.LineTexts.{put_next, put_nothing}
use Rattle.derivation_lines.proofs.printing.put_entries.Goals as goal

pub loop-entry-init : goal.loop-entry-init
loop-entry-init c = put_nothing c.args.text.now.items

pub loop-entry-preserved : goal.loop-entry-preserved
loop-entry-preserved c = put_next entry_line c.args.text.now.items c.loop-entry.text.items c.put_entry.new.text.items c.args.entries.now c.loop-entry.entry-index _ c.loop-entry.invariant c.in_ok-put_entry.ensures (omega arith)
