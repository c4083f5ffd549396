-- Trims slot by slot.
use Rattle.std.proofs.Common.{◌≡◌, ℕ, ◌+◌, ◌<◌, ◌≤◌, Bool, List, length, set, take, refl, sym, ap, ◌∙◌, subst, ⊎_elim, arith}
use Rattle.std.proofs.lemmas.Bool.{cases_eq}
use Rattle.std.proofs.lemmas.List.{ext_get_or, get_or-set_same, get_or-set_other, length-set, length-take, take-take, take_all}
use Rattle.row_kit.specs.declared.domain.Domain.{Domain}
use Rattle.row_kit.specs.Area.{present, with_domain}
use Rattle.row_kit.specs.Domain.{domain_at, no_values}
use Rattle.row_kit.specs.Points.{points_of}
use Rattle.row_kit.proofs.Marks.{present-with_domain, take-with_domain}
use Rattle.dual_bound.specs.Trimmed.{each_passing, passing}
use Rattle.dual_bound.proofs.Passing.{each-at, each-length}

-- the marks after slots below one have been trimmed
pub record IsTrimmedTo (test : ℕ → ℕ → Bool) (old new : List (List Domain)) (slot : ℕ) : Type 0 where
  pub count : length (present new) ≡ length (present old)
  pub done : (k : ℕ) → k < slot → k < length (present old) → domain_at (present new) k ≡ passing (test k) (domain_at (present old) k)
  pub rest : (k : ℕ) → slot ≤ k → domain_at (present new) k ≡ domain_at (present old) k
  pub longer : length old ≤ length new
  pub keeps : take (length old) new ≡ old
  pub fewer : points_of (present new) ≤ points_of (present old)

pub trimmed_none : (test : ℕ → ℕ → Bool) (marks : List (List Domain)) → IsTrimmedTo test marks marks 0
trimmed_none test marks = record {
  count = refl;
  done = λ k lt _. absurd (omega (arith, lt));
  rest = λ k _. refl;
  longer = omega arith;
  keeps = take_all (length marks) marks (omega arith);
  fewer = omega arith;
}

longer_with : (marks : List (List Domain)) (slot : ℕ) (d : Domain) → length marks ≤ length (with_domain marks slot d)
longer_with marks slot d = shorter (length marks) (with_domain marks slot d) marks (take-with_domain marks slot d)
  where
    shorter : (n : ℕ) (xs ys : List (List Domain)) → take n xs ≡ ys → length ys ≤ length xs
    shorter n xs ys e = omega (arith, sym (ap length e) ∙ length-take n xs)

-- one slot more
pub trimmed_more : (test : ℕ → ℕ → Bool) (old now next : List (List Domain)) (slot : ℕ) (d : Domain) → slot < length (present old) → IsTrimmedTo test old now slot → d ≡ passing (test slot) (domain_at (present now) slot) → next ≡ with_domain now slot d → points_of (present next) ≤ points_of (present now) → IsTrimmedTo test old next (slot + 1)
trimmed_more test old now next slot d lt is e led fewer =
    let here : slot < length (present now) = omega (arith, lt, is.count) in
    let at : present next ≡ set (present now) slot d = ap present led ∙ present-with_domain now slot d here in
    let long : length now ≤ length next = subst (λ (m : List (List Domain)). length now ≤ length m) (sym led) (longer_with now slot d) in
    let stays : take (length now) next ≡ now = ap (take (length now)) led ∙ take-with_domain now slot d in
    record {
      count = ap length at ∙ length-set (present now) slot d ∙ is.count;
      done = λ k below in'.
          ⊎_elim
          (λ (same : k ≡ slot).
          subst (λ (n : ℕ). domain_at (present next) n ≡ passing (test n) (domain_at (present old) n)) (sym same)
          (ap (λ (ds : List Domain). domain_at ds slot) at ∙ get_or-set_same (present now) slot d no_values here ∙ e ∙ ap (passing (test slot)) (is.rest slot (omega arith))))
          (λ (apart : k ≡ slot → ⊥).
          ap (λ (ds : List Domain). domain_at ds k) at ∙ get_or-set_other (present now) slot k d no_values apart ∙ is.done k (omega (arith, below, apart)) in')
          (cases_eq k slot);
      rest = λ k above.
          ap (λ (ds : List Domain). domain_at ds k) at ∙ get_or-set_other (present now) slot k d no_values (λ same. absurd (omega (arith, above, same))) ∙ is.rest k (omega (arith, above));
      longer = omega (arith, is.longer, long);
      keeps = sym (take-take (length old) (length now) next is.longer) ∙ ap (take (length old)) stays ∙ is.keeps;
      fewer = omega (arith, fewer, is.fewer);
    }

-- all slots
pub trimmed_all : (test : ℕ → ℕ → Bool) (old new : List (List Domain)) (slot : ℕ) → length (present old) ≤ slot → IsTrimmedTo test old new slot → present new ≡ each_passing test 0 (present old)
trimmed_all test old new slot le is =
    ext_get_or no_values (present new) (each_passing test 0 (present old)) (is.count ∙ sym (each-length test 0 (present old)))
    (λ k lt.
    let in' : k < length (present old) = omega (arith, lt, is.count) in
    is.done k (omega (arith, in', le)) in' ∙ sym (each-at test 0 (present old) k no_values in' ∙ ap (λ (j : ℕ). passing (test j) (domain_at (present old) k)) (let e : 0 + k ≡ k = omega arith in e)))
