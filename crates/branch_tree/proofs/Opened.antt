-- Domains none of which is empty, as a test says it and as a fact.
use Rattle.std.proofs.Common.{◌≡◌, false, List, get_or, ⊎_elim, arith}
use Rattle.std.specs.List.{All, list_any}
use Rattle.std.proofs.lemmas.Bool.{cases_eq, eq-eqb, false≢true}
use Rattle.std.proofs.lemmas.List.{get_or_default}
use Rattle.std.proofs.lemmas.List.Folds.{list_any-from_Any}
use Rattle.std.proofs.Common.{sym, ◌∙◌}
use Rattle.row_kit.specs.declared.domain.Domain.{Domain}
use Rattle.row_kit.specs.Domain.{IsOpen, count_of}
use Rattle.range_prop.specs.Cut.{is_bare}

-- where the test finds no empty domain, each holds a value
pub none_bare-open : (ds : List Domain) → list_any is_bare ds ≡ false → All IsOpen ds
none_bare-open ds none = λ k d lt.
    let x = get_or ds k d in
    ⊎_elim
    (λ (bare : count_of x ≡ 0). absurd (false≢true (sym none ∙ list_any-from_Any is_bare ds (k, x, lt, get_or_default ds k x d lt, eq-eqb (count_of x) 0 bare))))
    (λ (some : count_of x ≡ 0 → ⊥). omega (arith, some))
    (cases_eq (count_of x) 0)
