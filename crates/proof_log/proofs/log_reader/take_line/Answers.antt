-- By what the bytes are, and what the line has made whole.
use Rattle.std.proofs.Common.{◌≡◌, ◌+◌, ℕ, false, List, ◌∷◌, ◌++◌, Some, None, sym, subst}
use Rattle.log_lines.specs.declared.grammar.Limits.{Limits}
use Rattle.log_lines.specs.declared.line.Line.{Line}
use Rattle.log_lines.specs.declared.reader.LineEnd.TheVariants.{Whole}
use Rattle.log_lines.specs.Grammar.{Standing, line_defect, next}
use Rattle.log_lines.specs.Said.{line_said}
use Rattle.log_lines.specs.TextDefect.{is_done}
use Rattle.proof_log.specs.Gathered.{MovesAs}
use Rattle.proof_log.specs.Step.{AreLineBytes}
use Rattle.proof_log.specs.Text.{rest_defect}
use Rattle.proof_log.proofs.Texts.{is_done-false, no_line, bad_line, good_line}
use Rattle.proof_log.proofs.log_reader.take_line.Goals as goal

-- a line that may come next
goes : (limits : Limits) (standing later : Standing) (number : ℕ) (part : List ℕ) (line : Line) → AreLineBytes part Whole → is_done standing.place ≡ false → line_said part ≡ Some line → (line_defect limits standing line ≡ None) × (next standing line ≡ Some later)
    → (rest after : List ℕ) → rest ≡ part ++ 10 ∷ after → rest_defect limits standing number rest ≡ rest_defect limits later (number + 1) after
goes limits standing later number part line own going said moved rest after is = good_line limits standing number rest part after line later own.1 own.0 is going said moved.0 moved.1

pub returns-in-None-clause-text : goal.returns-in-None-clause-text
returns-in-None-clause-text c =
    let g = c.args.gatherer.now in
    rw c.bad.ensures
    (λ rest after is. no_line g.limits g.grammar c.args.line rest c.args.part.now after c.requires.part.1 c.requires.part.0 is (is_done-false g.grammar.place c.requires.going) (sym c.in-None.ensures.said))

pub returns-in-Bad-clause-text : goal.returns-in-Bad-clause-text
returns-in-Bad-clause-text c =
    let g = c.args.gatherer.now in
    let moved = subst (MovesAs g.limits g.grammar c.in-Some.read c.take.new.self.grammar) c.in-Bad.is c.in_ok-take-in-Some.ensures.moves in
    rw c.bad-in-Bad.ensures
    (λ rest after is. bad_line g.limits g.grammar c.args.line rest c.args.part.now after c.in-Some.read c.in-Bad.kind c.requires.part.1 c.requires.part.0 is (is_done-false g.grammar.place c.requires.going) (sym c.in-Some.ensures.said) moved)

pub returns-in-On-clause-text : goal.returns-in-On-clause-text
returns-in-On-clause-text c =
    let g = c.args.gatherer.now in
    goes g.limits g.grammar c.take.new.self.grammar c.args.line c.args.part.now c.in-Some.read c.requires.part (is_done-false g.grammar.place c.requires.going) (sym c.in-Some.ensures.said)
    (subst (MovesAs g.limits g.grammar c.in-Some.read c.take.new.self.grammar) c.in-On.is c.in_ok-take-in-Some.ensures.moves)

pub returns-in-Item-clause-text : goal.returns-in-Item-clause-text
returns-in-Item-clause-text c =
    let g = c.args.gatherer.now in
    goes g.limits g.grammar c.take.new.self.grammar c.args.line c.args.part.now c.in-Some.read c.requires.part (is_done-false g.grammar.place c.requires.going) (sym c.in-Some.ensures.said)
    (subst (MovesAs g.limits g.grammar c.in-Some.read c.take.new.self.grammar) c.in-Item.is c.in_ok-take-in-Some.ensures.moves)

pub returns-in-Claim-clause-text : goal.returns-in-Claim-clause-text
returns-in-Claim-clause-text c =
    let g = c.args.gatherer.now in
    goes g.limits g.grammar c.take.new.self.grammar c.args.line c.args.part.now c.in-Some.read c.requires.part (is_done-false g.grammar.place c.requires.going) (sym c.in-Some.ensures.said)
    (subst (MovesAs g.limits g.grammar c.in-Some.read c.take.new.self.grammar) c.in-Claim.is c.in_ok-take-in-Some.ensures.moves)
