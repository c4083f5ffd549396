-- The line is the number with the cap, and what is printed of the plan.
use Rattle.std.proofs.Common.{◌≡◌, ℕ, List, ◌++◌, ap, ◌∙◌, arith}
use Rattle.std.proofs.lemmas.Grind.{common_steps}
use Rattle.std.proofs.lemmas.List.{append_assoc}
use Rattle.tank_commands.proofs.estimating.put_line.Goals as goal

pub returns : goal.returns
returns c =
    let text = c.args.text.now.items in
    let line = c.in_ok-line.line.items in
    let standing = c.in_ok-standing.standing.items in
    let estimate = c.in_ok-cap.ensures in
    let one : c.extend_from_slice.new.self.items ≡ text ++ line = grind (arith, common_steps) in
    let two : c.extend_from_slice-2.new.self.items ≡ c.extend_from_slice.new.self.items ++ standing = grind (arith, common_steps) in (
      line ++ standing,
      (
        two ∙ ap (λ (xs : List ℕ). xs ++ standing) one ∙ append_assoc text line standing,
        record {
          cap = c.in_ok-cap.cap;
          estimate = estimate;
          own = λ first. c.requires.own first c.in_ok-cap.cap estimate;
          standing = standing;
          stands = c.in_ok-standing.ensures;
          text_is = ap (λ (xs : List ℕ). xs ++ standing) c.in_ok-line.ensures;
        },
      ),
    )
