-- A head below version 4 leaves the program as it is, and that of version 4 has its derivations looked at anew.
use Rattle.std.proofs.Common.{◌+◌, ◌≤◌, List, length, inl, refl, sym, ◌∙◌, subst}
use Rattle.derivations.specs.declared.derivation.Derivation.{Derivation}
use Rattle.derivations.specs.Growth.{rows_of}
use Rattle.what_if.proofs.Capping.{derived-if}
use Rattle.what_if.proofs.estimating.derived_anew.Goals as goal

pub returns-then-not-head : goal.returns-then-not-head
returns-then-not-head c = inl (c.if-not-head.true, refl)

pub with_derivations_anew-requires-clause-few_rows : goal.with_derivations_anew-requires-clause-few_rows
with_derivations_anew-requires-clause-few_rows c = subst (λ (ds : List Derivation). length c.args.wide.rows + rows_of ds ≤ 400000) (sym c.as_slice-3.ensures) c.requires

pub returns : goal.returns
returns c =
    derived-if c.args.wide c.as_slice-2.result.now c.args.head.now c.as_slice-3.result.now c.with_derivations_anew.result c.if-not-head.false
    (c.as_slice-2.ensures.value ∙ c.in_ok-domains.ensures.items ∙ c.as_slice.ensures) c.as_slice-3.ensures c.with_derivations_anew.ensures
