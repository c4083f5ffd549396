-- By how the line ends before the end line.
use Rattle.std.proofs.Common.{◌≡◌, ◌+◌, Bool, false, IsTrue, subst}
use Rattle.log_lines.specs.declared.grammar.Place.{Place}
use Rattle.log_lines.specs.declared.grammar.Place.TheVariants.{Done}
use Rattle.log_lines.specs.TextDefect.{is_done}
use Rattle.proof_log.specs.Step.{AreLineBytes}
use Rattle.proof_log.specs.Text.{EndsAs}
use Rattle.proof_log.proofs.Texts.{is_done-false, nothing_cut, cut_end, long_end}
use Rattle.proof_log.proofs.log_reader.advance.Goals as goal

goes_on : (place : Place) (b : Bool) → (place ≡ Done → IsTrue b) → b ≡ false → is_done place ≡ false
goes_on place b is none = is_done-false place (λ e. let t = is e in cc)

pub returns-in-Cut-clause-text : goal.returns-in-Cut-clause-text
returns-in-Cut-clause-text c =
    let g = c.args.gatherer.now in
    let own = subst (λ end. AreLineBytes c.args.part.now end) c.in-Cut.is c.requires.part in
    rw c.bad.ensures
    (λ rest after is. cut_end g.limits g.grammar (g.number + 1) rest c.args.part.now own.2 own.1 (subst (λ end. EndsAs rest c.args.part.now end after) c.in-Cut.is is) (goes_on g.grammar.place c.is_done.result c.is_done.ensures.1 c.if-is_done.false))

pub returns-in-Long-clause-text : goal.returns-in-Long-clause-text
returns-in-Long-clause-text c =
    let g = c.args.gatherer.now in
    rw c.bad-in-Long.ensures
    (λ rest after is. long_end g.limits g.grammar (g.number + 1) rest (subst (λ end. EndsAs rest c.args.part.now end after) c.in-Long.is is) (goes_on g.grammar.place c.is_done.result c.is_done.ensures.1 c.if-is_done.false))

pub returns-in-Nothing-clause-text : goal.returns-in-Nothing-clause-text
returns-in-Nothing-clause-text c =
    let g = c.args.gatherer.now in
    rw c.bad-in-Nothing.ensures
    (λ rest after is. nothing_cut g.limits g.grammar (g.number + 1) rest (subst (λ end. EndsAs rest c.args.part.now end after) c.in-Nothing.is is) (goes_on g.grammar.place c.is_done.result c.is_done.ensures.1 c.if-is_done.false))
