-- The sums, the setups and the derivations that are chosen can stand in a head.
use Rattle.std.proofs.Common.{◌^◌, ◌+◌, ◌<◌, ◌≤◌, ℕ, List, length, sym, ap, ◌∙◌, subst, arith}
use Rattle.std.specs.List.{All}
use Rattle.row_kit.specs.declared.domain.Domain.{Domain}
use Rattle.row_kit.specs.Domain.{IsNormal}
use Rattle.derivations.specs.declared.derivation.Derivation.{Derivation}
use Rattle.derivations.specs.Anew.{IsWithAnew}
use Rattle.derivations.specs.Growth.{rows_of}
use Rattle.head_choice.proofs.HeadChosen.{wide-can, wide-normal, wide-slots, wide-splits}
use Rattle.head_choice.proofs.heading.with_head.Goals as goal

pub with_declared-requires-clause-same_slots : goal.with_declared-requires-clause-same_slots
with_declared-requires-clause-same_slots g c = wide-slots c.args.plant.now c.args.part c.args.judged c.in_ok-wide.wide c.in_ok-wide.ensures

pub with_declared-requires-clause-normal : goal.with_declared-requires-clause-normal
with_declared-requires-clause-normal g c = wide-normal c.args.plant.now c.args.part c.args.judged c.in_ok-wide.wide c.in_ok-wide.ensures

pub grown-requires-clause-same_slots : goal.grown-requires-clause-same_slots
grown-requires-clause-same_slots g c = ap length c.as_slice.ensures ∙ wide-slots c.args.plant.now c.args.part c.args.judged c.in_ok-wide.wide c.in_ok-wide.ensures

pub grown-requires-clause-normal : goal.grown-requires-clause-normal
grown-requires-clause-normal g c = subst (All IsNormal) (sym c.as_slice.ensures) (wide-normal c.args.plant.now c.args.part c.args.judged c.in_ok-wide.wide c.in_ok-wide.ensures)

pub grown-requires-clause-few_rows : goal.grown-requires-clause-few_rows
grown-requires-clause-few_rows g c =
    let few = c.in_ok-derivations.ensures.declared.few_rows in
    subst (λ (ds : List Derivation). length c.in_ok-wide.wide.set.program.rows + rows_of ds ≤ 400000) (sym c.as_slice-2.ensures) few

pub returns : goal.returns
returns g c =
    let plant = c.args.plant.now in
    let part = c.args.part in
    let judged = c.args.judged in
    let wide = c.in_ok-wide.wide in
    let is = c.in_ok-wide.ensures in
    let derivations = c.in_ok-derivations.field-0.derivations in
    let made = c.in_ok-derivations.ensures in
    let rows = c.in_ok-rows.rows in
    let anew = subst (λ (ds : List Domain). IsWithAnew wide.set.program ds derivations rows.program) c.as_slice.ensures (subst (λ (ds : List Derivation). IsWithAnew wide.set.program c.as_slice.result.now ds rows.program) c.as_slice-2.ensures c.in_ok-rows.ensures.anew) in
    let few = subst (λ (text : List ℕ). length text < 2 ^ 64) made.text made.small in
    record {
      units = wide.units;
      derivations = derivations;
      can = wide-can plant part judged wide is rows derivations made.declared anew c.requires.sound c.in_ok-rows.ensures.choices few;
      head = made.text;
      given = c.len-given.ensures;
      few_splits = wide-splits plant part judged wide is rows derivations made.declared anew;
    }
