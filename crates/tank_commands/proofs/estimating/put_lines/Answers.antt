-- Each plant is the raised one, so each line is its line.
use Rattle.std.proofs.Common.{◌≡◌, ℕ, ◌+◌, [], refl, sym, subst, arith, pos, ◌*ℤ◌, ◌∙◌, ap, ℤ, to_z, of_z}
use Rattle.std.proofs.lemmas.Int.{ints}
use Rattle.std.proofs.lemmas.Grind.{common_steps}
use Rattle.std.proofs.lemmas.List.{append-nil}
use Rattle.proof_tree.specs.Tree.{tree_of}
use Rattle.stn_model.specs.declared.plant.Plant.{Plant}
use Rattle.stn_model.specs.Sound.{Sound}
use Rattle.what_if.specs.Raised.{raised, raised_states}
use Rattle.what_if.proofs.RaisedSound.{raised-none, raised-sound}
use Rattle.tank_commands.specs.Estimating.{AreLines, AreOwn, IsTankLine}
use Rattle.tank_commands.proofs.TankLines.{is_but_states, more_lines, raised_plant}
use Rattle.tank_commands.proofs.estimating.put_lines.Goals as goal
use mir.Syntax.{w64}

pub put_line-requires-clause-sound : goal.put_line-requires-clause-sound
put_line-requires-clause-sound c =
    let whole = c.args.plant in
    let step = c.args.steps.step in
    let times = c.loop-times.times in
    let exact : to_z w64 (of_z w64 step) ≡ step = omega (arith, ints, c.args.steps.small) in
    let is = raised_plant whole c.loop-times.raised c.raise.new.plant c.as_slice.result.now c.args.number c.multiple-amount.result step times
    c.loop-times.invariant.same (grind (arith, common_steps)) (c.multiple-amount.ensures ∙ ap (λ (n : ℤ). pos times *ℤ n) exact) (grind (arith, common_steps)) in
    subst Sound (sym is) (raised-sound whole c.args.number step times c.requires.sound c.requires.there)

pub put_line-requires-clause-own : goal.put_line-requires-clause-own
put_line-requires-clause-own c first =
    let whole = c.args.plant in
    let step = c.args.steps.step in
    let times = c.loop-times.times in
    let exact : to_z w64 (of_z w64 step) ≡ step = omega (arith, ints, c.args.steps.small) in
    let is = raised_plant whole c.loop-times.raised c.raise.new.plant c.as_slice.result.now c.args.number c.multiple-amount.result step times
    c.loop-times.invariant.same (grind (arith, common_steps)) (c.multiple-amount.ensures ∙ ap (λ (n : ℤ). pos times *ℤ n) exact) (grind (arith, common_steps)) in
    let none = raised-none whole c.args.number step c.requires.sound c.requires.there in
    subst (λ (p : Plant). AreOwn p c.args.log.now.head (tree_of c.args.log.now.tree))
    (sym (is ∙ ap (raised whole c.args.number step) first ∙ none)) c.requires.own

pub loop-times-init : goal.loop-times-init
loop-times-init c = record { same = refl; lines = ([], (sym (append-nil c.args.text.now.items), refl)) }

pub loop-times-preserved : goal.loop-times-preserved
loop-times-preserved c =
    let whole = c.args.plant in
    let step = c.args.steps.step in
    let times = c.loop-times.times in
    let exact : to_z w64 (of_z w64 step) ≡ step = omega (arith, ints, c.args.steps.small) in
    let is = raised_plant whole c.loop-times.raised c.raise.new.plant c.as_slice.result.now c.args.number c.multiple-amount.result step times
    c.loop-times.invariant.same (grind (arith, common_steps)) (c.multiple-amount.ensures ∙ ap (λ (n : ℤ). pos times *ℤ n) exact) (grind (arith, common_steps)) in
    let put = c.in_ok-put_line.ensures in
    let line = subst (λ (p : Plant). IsTankLine p c.args.log.now.head (tree_of c.args.log.now.tree) c.args.plan.now times put.0) is put.1.1 in
    record {
      same = is_but_states whole c.raise.new.plant (raised_states c.args.number (pos times *ℤ step) whole.states) is;
      lines = more_lines (λ n. IsTankLine (raised whole c.args.number step n) c.args.log.now.head (tree_of c.args.log.now.tree) c.args.plan.now n) times c.args.text.now.items c.loop-times.invariant.lines.0 put.0 c.loop-times.text.items c.put_line.new.text.items
          c.loop-times.invariant.lines.1.0 c.loop-times.invariant.lines.1.1 put.1.0 line;
    }

pub returns : goal.returns
returns c =
    let lines = c.loop-times.invariant.lines in
    let all : c.loop-times.times ≡ c.args.steps.count + 1 = grind (arith, common_steps) in
    (lines.0, (lines.1.0, subst (λ (k : ℕ). AreLines (λ n. IsTankLine (raised c.args.plant c.args.number c.args.steps.step n) c.args.log.now.head (tree_of c.args.log.now.tree) c.args.plan.now n) k lines.0) all lines.1.1))
