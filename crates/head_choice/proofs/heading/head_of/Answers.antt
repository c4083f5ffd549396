-- The text of the setups follows that of the sums, and that of the derivations both.
use Rattle.std.proofs.Common.{ℕ, List, ◌++◌, ap, ◌∙◌, append_assoc}
use Rattle.setup_lines.specs.Line.{setups_text}
use Rattle.sum_lines.specs.Head.{head_text}
use Rattle.derivation_lines.specs.Tail.{tail_text}
use Rattle.head_choice.proofs.heading.head_of.Goals as goal

pub returns-clause-text : goal.returns-clause-text
returns-clause-text c =
    let first = head_text 4 c.args.sums.now in
    let second = setups_text c.args.units.now in
    let third = tail_text c.args.derivations.now in
    let head = c.in_ok-put_head.ensures.ok ∙ ap (λ (text : List ℕ). text ++ first) c.new-head.ensures.items in
    let set_up = c.in_ok-put_setups.ensures.ok ∙ ap (λ (text : List ℕ). text ++ second) head in
    c.in_ok-put_derivations.ensures.ok ∙ ap (λ (text : List ℕ). text ++ third) set_up ∙ append_assoc first second third
