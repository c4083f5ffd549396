use Rattle.std.proofs.Common.{◌++◌, ◌∷◌, ℕ, List, decimal, ap, ◌∙◌}
use Rattle.plan_text.proofs.Lines.{plan_line-written}
use Rattle.plan_text.proofs.print.put_line.Goals as goal

pub returns : goal.returns
returns c =
    plan_line-written c.args.plant.now c.args.start c.get.result.now c.get-2.result.now c.requires c.get.ensures c.get-2.ensures _ _ _ _ _ _ _
    (c.in_ok-put_number.ensures.ok ∙ ap (λ (n : ℕ). c.args.lines.now.items ++ decimal n) c.from.ensures)
    (c.in_ok-put_name.ensures ∙ ap (λ (x : List ℕ). c.put_number.new.into.items ++ (32 ∷ x)) c.as_slice.ensures)
    (c.in_ok-put_name-2.ensures ∙ ap (λ (x : List ℕ). c.put_name.new.lines.items ++ (32 ∷ x)) c.as_slice-2.ensures)
    c.in_ok-push.ensures.items
    (c.in_ok-put_number-2.ensures.ok ∙ ap (λ (n : ℕ). c.push.new.self.items ++ decimal n) c.from-2.ensures)
    c.in_ok-push-2.ensures.items
