-- Marks: one more where a slot gets another domain, and none where it doesn't.
use Rattle.std.proofs.Common.{◌≡◌, ℕ, ◌+◌, ◌<◌, Bool, true, false, not, ◌&&◌, refl, eqb, List, [], ◌∷◌, ◌++◌, length, get_or, set, sym, ap, ◌∙◌, ⊎_elim, arith}
use Rattle.std.proofs.lemmas.Bool.{cases_Bool, cond-true, cond-false, eq-eqb, ne_eqb}
use Rattle.std.specs.Bool.{beq}
use Rattle.std.proofs.lemmas.List.{length_push, get_or_default, get_or-set_same}
use Rattle.row_kit.specs.declared.domain.Domain.{Domain}
use Rattle.row_kit.specs.Domain.{domain_at, no_values}
use Rattle.row_kit.specs.Area.{present, is_same, with_domain}
use Rattle.row_kit.proofs.Marks.{present-with_domain}

-- the domain of the slot afterwards
pub domain-with_domain : (marks : List (List Domain)) (slot : ℕ) (d : Domain) → slot < length (present marks) → domain_at (present (with_domain marks slot d)) slot ≡ d
domain-with_domain marks slot d lt = ap (λ (ds : List Domain). domain_at ds slot) (present-with_domain marks slot d lt) ∙ get_or-set_same (present marks) slot d no_values lt

-- a later mark tells that the domain is another one
pub mark_tells : (marks : List (List Domain)) (slot m n : ℕ) (d : Domain) → slot < length (present marks) → m + 1 ≡ length marks → n + 1 ≡ length (with_domain marks slot d) → not (eqb n m) ≡ not (is_same (domain_at (present marks) slot) d)
mark_tells marks slot m n d lt before after =
    let more = marks ++ set (present marks) slot d ∷ [] in
    let was : is_same (get_or (present marks) slot d) d ≡ is_same (domain_at (present marks) slot) d = ap (λ (x : Domain). is_same x d) (get_or_default (present marks) slot d no_values lt) in
    let test = is_same (get_or (present marks) slot d) d in
    ⊎_elim
    (λ (same : test ≡ true).
    let e : n ≡ m = omega (arith, before, after, ap length (cond-true test marks more same)) in
    ap not (eq-eqb n m e ∙ sym same ∙ was))
    (λ (other : test ≡ false).
    let apart : n ≡ m → ⊥ = λ (e : n ≡ m). omega (arith, before, after, e, ap length (cond-false test marks more other), length_push marks (set (present marks) slot d)) in
    ap not (ne_eqb n m apart ∙ sym other ∙ was))
    (cases_Bool test)

three_true : (a b c : Bool) → a ≡ true → b ≡ true → c ≡ true → (a && b && c) ≡ true
three_true a b c e f g = cc

same_zero : (z : Bool) → beq z z ≡ true
same_zero true = refl
same_zero false = refl

-- a domain is written like itself
pub is_same_refl : (d : Domain) → is_same d d ≡ true
is_same_refl d = three_true (beq d.zero d.zero) (eqb d.lo d.lo) (eqb d.hi d.hi) (same_zero d.zero) (eq-eqb d.lo d.lo refl) (eq-eqb d.hi d.hi refl)

-- a slot that is given the domain that it has
pub with_domain_same : (marks : List (List Domain)) (slot : ℕ) → slot < length (present marks) → with_domain marks slot (domain_at (present marks) slot) ≡ marks
with_domain_same marks slot lt =
    let d = domain_at (present marks) slot in
    let e : get_or (present marks) slot d ≡ d = get_or_default (present marks) slot d no_values lt in
    cond-true (is_same (get_or (present marks) slot d) d) marks (marks ++ set (present marks) slot d ∷ []) (ap (λ (x : Domain). is_same x d) e ∙ is_same_refl d)
