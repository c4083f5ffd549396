use Rattle.std.proofs.Common.{refl, ◌∙◌}
use Rattle.command_replies.specs.Lines.{fault_text}
use Rattle.command_replies.proofs.sources.plant_refusal.Goals as goal

pub returns : goal.returns
unfolding fault_text
returns c =
    let table = c.word-table.ensures in
    let key = c.word-key.ensures in
    (refl, (c.in_ok-text.ensures.items ∙ (c.as_bytes.ensures.value ∙ (c.in_ok-line.ensures.ok ∙ rw (table, key) refl))))
