-- Nothing follows the end line, or a byte does.
use Rattle.std.proofs.Common.{◌≡◌, ◌≢◌, ℕ, true, List, Some, refl, subst}
use Rattle.log_lines.specs.declared.grammar.Limits.{Limits}
use Rattle.log_lines.specs.declared.reader.LineEnd.{LineEnd}
use Rattle.log_lines.specs.declared.reader.LineEnd.TheVariants.{Whole, Cut, Long, Nothing}
use Rattle.log_lines.specs.Grammar.{Standing}
use Rattle.log_lines.specs.TextDefect.{is_done}
use Rattle.proof_log.specs.Step.{AreLineBytes}
use Rattle.proof_log.specs.Text.{rest_defect, EndsAs}
use Rattle.proof_log.proofs.Texts.{is_done-true, nothing_done, cut_done, long_done, done_whole}
use Rattle.proof_log.proofs.log_reader.after_end.Goals as goal

-- a byte after the end line
trails : (limits : Limits) (standing : Standing) (number : ℕ) (part : List ℕ) (end : LineEnd) → is_done standing.place ≡ true → AreLineBytes part end → end ≢ Nothing → (rest after : List ℕ) → EndsAs rest part end after → rest_defect limits standing number rest ≡ Some (number, 3)
trails limits standing number part Whole done own some rest after is = done_whole limits standing number rest part after own.1 is done
trails limits standing number part Cut done own some rest after is = cut_done limits standing number rest part own.2 own.0 is done
trails limits standing number part Long done own some rest after is = long_done limits standing number rest is done
trails limits standing number part Nothing done own some rest after is = absurd (some refl)

pub returns-in-Nothing-clause-text : goal.returns-in-Nothing-clause-text
returns-in-Nothing-clause-text c rest after is =
    let g = c.args.gatherer.now in
    let none = subst (λ end. EndsAs rest c.args.part.now end after) c.in-Nothing.is is in
    (nothing_done g.limits g.grammar c.args.line rest none (is_done-true g.grammar.place c.requires.done), none)

pub returns-in_default : goal.returns-in_default
returns-in_default c =
    let g = c.args.gatherer.now in
    rw c.bad.ensures
    (record {
      text = trails g.limits g.grammar c.args.line c.args.part.now c.args.end (is_done-true g.grammar.place c.requires.done) c.requires.part c.in_default.not-Nothing;
      made = tt;
    })
