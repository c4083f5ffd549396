-- What a slot's new domain leaves of the marks, and which points stay.
use Rattle.std.proofs.Common.{◌≡◌, ℕ, ◌-◌, ◌<◌, true, false, List, [], ◌∷◌, ◌++◌, length, get_or, set, take, refl, sym, ap, ◌∙◌, subst, ⊎_elim, arith}
use Rattle.std.proofs.lemmas.Bool.{cases_Bool, cases_eq, cond-true, cond-false}
use Rattle.std.proofs.lemmas.List.{length_push, length-set, get_or_push, get_or-set_same, get_or-set_other, set-get_or, take_all, take-append-le}
use Rattle.row_kit.specs.declared.domain.Domain.{Domain}
use Rattle.row_kit.specs.Domain.{Holds, domain_at, no_values}
use Rattle.row_kit.specs.Point.{LiesIn}
use Rattle.row_kit.specs.Area.{present, is_same, with_domain}
use Rattle.row_kit.proofs.Histories.{is_same_true}

-- the present domains after a slot has been given a domain
pub present-with_domain : (marks : List (List Domain)) (slot : ℕ) (d : Domain) → slot < length (present marks) → present (with_domain marks slot d) ≡ set (present marks) slot d
present-with_domain marks slot d lt =
    let more = marks ++ set (present marks) slot d ∷ [] in
    let test = is_same (get_or (present marks) slot d) d in
    ⊎_elim
    (λ (same : test ≡ true).
    let e = is_same_true (get_or (present marks) slot d) d same in
    ap present (cond-true test marks more same) ∙ sym (set-get_or (present marks) slot d) ∙ ap (set (present marks) slot) e)
    (λ (other : test ≡ false).
    let last : length more - 1 ≡ length marks = omega (arith, length_push marks (set (present marks) slot d)) in
    ap present (cond-false test marks more other)
    ∙ ap (λ (n : ℕ). get_or more n []) last
    ∙ get_or_push marks (set (present marks) slot d) [] (length marks) refl)
    (cases_Bool test)

-- the marks that an area had stay
pub take-with_domain : (marks : List (List Domain)) (slot : ℕ) (d : Domain) → take (length marks) (with_domain marks slot d) ≡ marks
take-with_domain marks slot d =
    let more = marks ++ set (present marks) slot d ∷ [] in
    let test = is_same (get_or (present marks) slot d) d in
    ⊎_elim
    (λ (same : test ≡ true). ap (take (length marks)) (cond-true test marks more same) ∙ take_all (length marks) marks (omega arith))
    (λ (other : test ≡ false).
    ap (take (length marks)) (cond-false test marks more other)
    ∙ take-append-le (length marks) marks (set (present marks) slot d ∷ []) (omega arith)
    ∙ take_all (length marks) marks (omega arith))
    (cases_Bool test)

-- a point stays where the slot's new domain holds its value
pub LiesIn-set : (ds : List Domain) (p : List ℕ) (slot : ℕ) (d : Domain) → slot < length ds → LiesIn ds p → Holds d (get_or p slot 0) → LiesIn (set ds slot d) p
LiesIn-set ds p slot d lt lies held = record {
  same_length = lies.same_length ∙ sym (length-set ds slot d);
  held = λ k h. ⊎_elim
      (λ (here : k ≡ slot).
      subst (λ (n : ℕ). Holds (get_or (set ds slot d) n no_values) (get_or p n 0)) (sym here)
      (subst (λ (x : Domain). Holds x (get_or p slot 0)) (sym (get_or-set_same ds slot d no_values lt)) held))
      (λ (apart : k ≡ slot → ⊥).
      subst (λ (x : Domain). Holds x (get_or p k 0)) (sym (get_or-set_other ds slot k d no_values apart))
      (lies.held k (omega (arith, h, length-set ds slot d))))
      (cases_eq k slot);
}

-- and no other point is gained
pub LiesIn-from_set : (ds : List Domain) (p : List ℕ) (slot : ℕ) (d : Domain) → slot < length ds → ((v : ℕ) → Holds d v → Holds (domain_at ds slot) v) → LiesIn (set ds slot d) p → LiesIn ds p
LiesIn-from_set ds p slot d lt within lies = record {
  same_length = lies.same_length ∙ length-set ds slot d;
  held = λ k h. ⊎_elim
      (λ (here : k ≡ slot).
      subst (λ (n : ℕ). Holds (get_or ds n no_values) (get_or p n 0)) (sym here)
      (within (get_or p slot 0)
      (subst (λ (x : Domain). Holds x (get_or p slot 0)) (get_or-set_same ds slot d no_values lt)
      (lies.held slot (omega (arith, lt, length-set ds slot d))))))
      (λ (apart : k ≡ slot → ⊥).
      subst (λ (x : Domain). Holds x (get_or p k 0)) (get_or-set_other ds slot k d no_values apart)
      (lies.held k (omega (arith, h, length-set ds slot d))))
      (cases_eq k slot);
}
