-- What two lists of domains share, slot by slot.
use Rattle.std.proofs.Common.{◌≡◌, ℕ, ◌<◌, List, length, get_or, sym, ap, ◌∙◌, subst, arith}
use Rattle.std.specs.List.{zip}
use Rattle.std.proofs.lemmas.List.{length-map, get_or-map}
use Rattle.std.proofs.lemmas.Slice.Zip.{length-zip, get_or-zip}
use Rattle.row_kit.specs.declared.domain.Domain.{Domain}
use Rattle.row_kit.specs.Domain.{Holds, domain_at, no_values, shared}
use Rattle.row_kit.specs.Point.{LiesIn}
use Rattle.row_kit.proofs.Parts.{shared_holds, shared_within}
use Rattle.derivations.specs.Larger.{met}

-- as many as both have
pub length-met : (xs ys : List Domain) → length ys ≡ length xs → length (met xs ys) ≡ length xs
length-met xs ys same = omega (arith, length-map (zip xs ys) (λ (p : Domain × Domain). shared p.0 p.1), length-zip xs ys)

-- one slot
pub met-at : (xs ys : List Domain) (i : ℕ) (d : Domain) → length ys ≡ length xs → i < length xs → get_or (met xs ys) i d ≡ shared (get_or xs i d) (get_or ys i d)
met-at xs ys i d same lt =
    let both : i < length ys = omega arith in
    let long : i < length (zip xs ys) = omega (arith, length-zip xs ys) in
    get_or-map (λ (p : Domain × Domain). shared p.0 p.1) (zip xs ys) i (d, d) d long
    ∙ ap (λ (p : Domain × Domain). shared p.0 p.1) (get_or-zip xs ys i (d, d) lt both)

-- a point of both lies in what they share
pub met-holds : (xs ys : List Domain) (point : List ℕ) → LiesIn xs point → LiesIn ys point → LiesIn (met xs ys) point
met-holds xs ys point one other =
    let same : length ys ≡ length xs = omega (arith, one.same_length, other.same_length) in record {
      same_length = one.same_length ∙ sym (length-met xs ys same);
      held = λ k h.
          let lt : k < length xs = omega (arith, length-met xs ys same) in
          let also : k < length ys = omega arith in
          subst (λ (d : Domain). Holds d (get_or point k 0)) (sym (met-at xs ys k no_values same lt))
          (shared_holds (domain_at xs k) (domain_at ys k) (get_or point k 0) (one.held k lt) (other.held k also));
    }

-- and a point of what they share lies in the first
pub met-within : (xs ys : List Domain) (point : List ℕ) → length ys ≡ length xs → LiesIn (met xs ys) point → LiesIn xs point
met-within xs ys point same lies = record {
  same_length = lies.same_length ∙ length-met xs ys same;
  held = λ k h.
      let lt : k < length (met xs ys) = omega (arith, length-met xs ys same) in
      shared_within (domain_at xs k) (domain_at ys k) (get_or point k 0) (subst (λ (d : Domain). Holds d (get_or point k 0)) (met-at xs ys k no_values same h) (lies.held k lt));
}
