-- What a fit certificate and a bounded row give.
use Rattle.std.proofs.Common.{◌≡◌, ℕ, ◌+◌, ◌*◌, ◌<◌, ◌≤◌, ◌^◌, Bool, true, false, ◌&&◌, leb, ltb, List, [], ◌∷◌, length, get_or, refl, sym, subst, not, arith, ⊎_elim, unsigned_abs}
use Rattle.std.specs.List.{All, Any, list_all}
use Rattle.std.proofs.lemmas.List.Sums.{AllPass-from_list_all, list_all-from_AllPass}
use Rattle.row_kit.specs.declared.domain.Domain.{Domain}
use Rattle.row_kit.specs.Domain.{count_of, IsBare}
use Rattle.std.proofs.Math.Nat.{mul-le-mul_left}
use Rattle.std.proofs.lemmas.Bool.{and_parts, leb-true, ltb-true, lt-ltb, cases_eq, false_from_ne_true, false≢true}
use Rattle.std.proofs.lemmas.List.{get_or_default}
use Rattle.std.proofs.lemmas.List.Elements.{All-nil, All-cons}
use Rattle.row_kit.specs.declared.row.Entry.{Entry}
pub use Rattle.row_kit.proofs.Ascending.{few_entries}
use Rattle.dual_bound.specs.declared.cert.Mult.{Mult}
use Rattle.dual_bound.specs.Line.{IsLight}
use Rattle.dual_bound.specs.Total.{are_fit, IsFitMult}

pub fit_all : (rows least : ℕ) (ms : List Mult) → are_fit rows least ms ≡ true → All (IsFitMult rows) ms
fit_all rows least [] e = All-nil (IsFitMult rows)
fit_all rows least (m ∷ ms) e =
    let p = and_parts (leb 1 m.factor && leb m.factor 1099511627776 && leb least m.row && ltb m.row rows) (are_fit rows (m.row + 1) ms) e in
    let q = and_parts (leb 1 m.factor && leb m.factor 1099511627776 && leb least m.row) (ltb m.row rows) p.0 in
    let r = and_parts (leb 1 m.factor && leb m.factor 1099511627776) (leb least m.row) q.0 in
    let s = and_parts (leb 1 m.factor) (leb m.factor 1099511627776) r.0 in
    All-cons (IsFitMult rows) m ms (record { row = ltb-true m.row rows q.1; factor = leb-true m.factor 1099511627776 s.1 }) (fit_all rows (m.row + 1) ms p.1)

product : (a x b m : ℕ) → a ≤ b → x ≤ m → b * m ≤ 2 ^ 71 → a * x ≤ 2 ^ 71
product a x b m h k small = grind (arith, mul-le-mul_left a k, mul-le-mul_left m h)

-- a factor of at most a bound times an entry's parts
pub light : (factor bound most : ℕ) (e : Entry) → factor ≤ bound → bound * most ≤ 2 ^ 71 → unsigned_abs e.fixed ≤ most → unsigned_abs e.per ≤ most → IsLight factor e
light factor bound most e h small f p = record { fixed = product factor (unsigned_abs e.fixed) bound most h f small; per = product factor (unsigned_abs e.per) bound most h p small }

positive : (v : ℕ) → (v ≡ 0 → ⊥) → 0 < v
positive v h = omega (arith, h)

refuted : (ds : List Domain) → Any IsBare ds → list_all (λ (d : Domain). ltb 0 (count_of d)) ds ≡ true → ⊥
refuted ds any all =
    let pass = AllPass-from_list_all (λ (d : Domain). ltb 0 (count_of d)) ds all any.0 any.1 any.2 in
    let more : 0 < count_of any.1 = ltb-true 0 (count_of any.1) (subst (λ (d : Domain). ltb 0 (count_of d) ≡ true) any.3 pass) in
    omega (arith, more, any.4)

some_value : (ds : List Domain) (k : ℕ) (d : Domain) → k < length ds → (Any IsBare ds → false ≡ true) → 0 < count_of (get_or ds k d)
some_value ds k d lt none =
    ⊎_elim
    (λ (bare : count_of (get_or ds k d) ≡ 0). absurd (false≢true (none (k, get_or ds k d, lt, get_or_default ds k (get_or ds k d) d lt, bare))))
    (λ (h : count_of (get_or ds k d) ≡ 0 → ⊥). positive (count_of (get_or ds k d)) h)
    (cases_eq (count_of (get_or ds k d)) 0)

-- a domain without values is one that the test of all of them refuses
pub open_decides : (b : Bool) (ds : List Domain) → (b ≡ true → Any IsBare ds) → (Any IsBare ds → b ≡ true) → not b ≡ list_all (λ d. ltb 0 (count_of d)) ds
open_decides true ds to from' = sym (false_from_ne_true (list_all (λ (d : Domain). ltb 0 (count_of d)) ds) (λ all. refuted ds (to refl) all))
open_decides false ds to from' = sym (list_all-from_AllPass (λ (d : Domain). ltb 0 (count_of d)) ds (λ k d lt. lt-ltb 0 (count_of (get_or ds k d)) (some_value ds k d lt from')))

pub open_all : (ds : List Domain) → list_all (λ (d : Domain). ltb 0 (count_of d)) ds ≡ true → All (λ d. 0 < count_of d) ds
open_all ds e k d lt = ltb-true 0 (count_of (get_or ds k d)) (AllPass-from_list_all (λ (d : Domain). ltb 0 (count_of d)) ds e k d lt)
