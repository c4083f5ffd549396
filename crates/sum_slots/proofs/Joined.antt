-- Lists of two parts: points that lie in domains, and what holds of every item.
use Rattle.std.proofs.Common.{ℕ, ◌+◌, ◌-◌, ◌<◌, ◌≤◌, List, ◌++◌, length, get_or, take, drop, refl, sym, ap₂, ◌∙◌, subst, arith, ⊎_elim}
use Rattle.std.specs.List.{All}
use Rattle.std.proofs.lemmas.Bool.{cases_lt}
use Rattle.std.proofs.lemmas.List.{drop_at, take_at, get_or_append_left, get_or-append_right, get_or-take, length-append, length-take-le}
use Rattle.std.proofs.lemmas.List.Elements.{All-drop, All-same, All-take}
use Rattle.row_kit.specs.declared.domain.Domain.{Domain}
use Rattle.row_kit.specs.Domain.{Holds, domain_at, no_values}
use Rattle.row_kit.specs.Point.{LiesIn}

-- what holds of every item of two parts holds of those of the first, and of the second
pub All-first : {X : Type 0} (P : X → Type 0) (xs ys : List X) → All P (xs ++ ys) → All P xs
All-first P xs ys all = All-same P xs (take (length xs) (xs ++ ys)) (sym (take_at xs ys (length xs) refl)) (All-take P (length xs) (xs ++ ys) all)

pub All-second : {X : Type 0} (P : X → Type 0) (xs ys : List X) → All P (xs ++ ys) → All P ys
All-second P xs ys all = All-same P ys (drop (length xs) (xs ++ ys)) (sym (drop_at xs ys (length xs) refl)) (All-drop P (length xs) (xs ++ ys) all)

-- the first values of a point lie in the first domains
pub lies_first : (ds es : List Domain) (point : List ℕ) → LiesIn (ds ++ es) point → LiesIn ds (take (length ds) point)
lies_first ds es point lies = record {
  same_length = length-take-le (length ds) point (omega (arith, lies.same_length, length-append ds es));
  held = λ k lt.
      subst (λ (d : Domain). Holds d (get_or (take (length ds) point) k 0)) (get_or_append_left ds es no_values k lt)
      (subst (Holds (domain_at (ds ++ es) k)) (sym (get_or-take (length ds) point k 0 lt)) (lies.held k (omega (arith, length-append ds es))));
}

-- values that lie in domains, one part after the other
pub lies_both : (ds es : List Domain) (first second : List ℕ) → LiesIn ds first → LiesIn es second → LiesIn (ds ++ es) (first ++ second)
lies_both ds es first second in_ds in_es = record {
  same_length = length-append first second ∙ ap₂ (λ (m n : ℕ). m + n) in_ds.same_length in_es.same_length ∙ sym (length-append ds es);
  held = λ k lt. ⊎_elim
      (λ (low : k < length ds).
      subst (λ (d : Domain). Holds d (get_or (first ++ second) k 0)) (sym (get_or_append_left ds es no_values k low))
      (subst (Holds (domain_at ds k)) (sym (get_or_append_left first second 0 k (omega (arith, in_ds.same_length)))) (in_ds.held k low)))
      (λ (high : length ds ≤ k).
      let n = length ds in
      subst (λ (d : Domain). Holds d (get_or (first ++ second) k 0)) (sym (get_or-append_right ds es n k no_values refl high))
      (subst (Holds (domain_at es (k - n))) (sym (get_or-append_right first second n k 0 in_ds.same_length high)) (in_es.held (k - n) (omega (arith, length-append ds es)))))
      (cases_lt k (length ds));
}
