use Rattle.std.proofs.Common.{◌==◌, sym, ◌∙◌}
use Rattle.text_words.proofs.Cuts.{cut_found, cut_not_found}
use Rattle.text_words.proofs.cut.cut_at.Goals as goal

pub returns-in-Some-clause-before : goal.returns-in-Some-clause-before
returns-in-Some-clause-before c =
    (cut_found (λ b. b == c.args.byte) c.args.text.now c.in-Some.at (sym c.place_of.ensures ∙ c.in-Some.is)).0

pub returns-in-Some-clause-after : goal.returns-in-Some-clause-after
returns-in-Some-clause-after c =
    (cut_found (λ b. b == c.args.byte) c.args.text.now c.in-Some.at (sym c.place_of.ensures ∙ c.in-Some.is)).1

pub returns-in-None-clause-before : goal.returns-in-None-clause-before
returns-in-None-clause-before c =
    (cut_not_found (λ b. b == c.args.byte) c.args.text.now (sym c.place_of.ensures ∙ c.in-None.is)).0

pub returns-in-None-clause-after : goal.returns-in-None-clause-after
returns-in-None-clause-after c =
    (cut_not_found (λ b. b == c.args.byte) c.args.text.now (sym c.place_of.ensures ∙ c.in-None.is)).1
