-- The derivations lead to a larger program, or one of them is not shown.
use Rattle.std.proofs.Common.{List, refl, subst, sym, ◌+◌, ◌≤◌, length}
use Rattle.derivations.specs.declared.derivation.Derivation.{Derivation}
use Rattle.derivations.specs.declared.grown.Grown.TheVariants.{Whole, Unshown}
use Rattle.derivations.specs.Grown.{IsGrown}
use Rattle.derivations.specs.Growth.{rows_of}
use Rattle.plant_check.proofs.HeadJudged.{line_at}
use Rattle.plant_check.proofs.head.judge_derivations.Goals as goal

pub with_derivations-requires-clause-few_rows : goal.with_derivations-requires-clause-few_rows
with_derivations-requires-clause-few_rows c = subst (λ (ds : List Derivation). length c.args.wide.program.rows + rows_of ds ≤ 400000) (sym c.as_slice.ensures) c.requires.few_rows

pub returns-in-Whole : goal.returns-in-Whole
returns-in-Whole c =
    let given = c.args.wide.program in
    let own = subst (λ (ds : List Derivation). IsGrown given c.args.domains.now ds c.in_ok-program.field-0) c.as_slice.ensures c.in_ok-program.ensures in
    let grown : IsGrown given c.args.domains.now c.args.tail.now.derivations (Whole c.in-Whole.program) = subst (IsGrown given c.args.domains.now c.args.tail.now.derivations) c.in-Whole.is own in
    record { shown = grown.0; grown = grown.1; choices_are = refl }

pub returns-in-Unshown : goal.returns-in-Unshown
returns-in-Unshown c =
    let given = c.args.wide.program in
    let own = subst (λ (ds : List Derivation). IsGrown given c.args.domains.now ds c.in_ok-program.field-0) c.as_slice.ensures c.in_ok-program.ensures in
    let first : IsGrown given c.args.domains.now c.args.tail.now.derivations (Unshown c.in-Unshown.place) = subst (IsGrown given c.args.domains.now c.args.tail.now.derivations) c.in-Unshown.is own in
    record { kind = refl; place = c.in-Unshown.place; first = first; begins = line_at given c.args.domains.now c.args.tail.now c.in-Unshown.place c.get-line.result.now c.requires.lines first c.get-line.ensures }
