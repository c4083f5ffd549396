-- The text of the head is that of what is declared, whatever the lists by which it is passed on.
use Rattle.std.proofs.Common.{ℕ, List, length, sym, ap, ◌∙◌, subst}
use Rattle.std.specs.List.{All}
use Rattle.row_kit.specs.declared.domain.Domain.{Domain}
use Rattle.row_kit.specs.Domain.{IsNormal}
use Rattle.sum_slots.specs.declared.sum.Sum.{Sum}
use Rattle.derivations.specs.declared.derivation.Derivation.{Derivation}
use Rattle.plan_told.specs.Heads.{whole_head}
use Rattle.head_choice.specs.Heading.{AreDeclared}
use Rattle.head_choice.proofs.heading.with_declared.Goals as goal

pub declared-requires-clause-same_slots : goal.declared-requires-clause-same_slots
declared-requires-clause-same_slots g c = ap length c.as_slice.ensures ∙ c.requires.same_slots

pub declared-requires-clause-normal : goal.declared-requires-clause-normal
declared-requires-clause-normal g c = subst (All IsNormal) (sym c.as_slice.ensures) c.requires.normal

pub returns-clause-declared : goal.returns-clause-declared
returns-clause-declared g c =
    subst (λ (ds : List Domain). AreDeclared c.args.wide.now.set.program ds c.in_ok-derivations.derivations) c.as_slice.ensures c.in_ok-derivations.ensures

pub returns-clause-text : goal.returns-clause-text
returns-clause-text g c =
    let wide = c.args.wide.now in
    c.in_ok-head.ensures.text ∙ ap (λ (ss : List Sum). whole_head ss c.as_slice-3.result.now c.as_slice-4.result.now) c.as_slice-2.ensures
    ∙ ap (λ (us : List ℕ). whole_head wide.sums us c.as_slice-4.result.now) c.as_slice-3.ensures ∙ ap (λ (ds : List Derivation). whole_head wide.sums wide.units ds) c.as_slice-4.ensures
