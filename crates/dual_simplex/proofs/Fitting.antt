-- Factors that are put in the order of their rows are fit.
use Rattle.std.proofs.Common.{◌≡◌, ◌∙◌, ℕ, ◌+◌, ◌<◌, ◌≤◌, ◌⊎◌, Bool, true, ◌&&◌, leb, ltb, List, [], ◌∷◌, ◌++◌, refl, ap, arith, ⊎_elim}
use Rattle.std.proofs.lemmas.Bool.{and_parts, leb-true, ltb-true, le-leb, lt-ltb}
use Rattle.dual_bound.specs.declared.cert.Mult.{Mult}
use Rattle.dual_bound.specs.Total.{are_fit}

five : (a b c d e : Bool) → a ≡ true → b ≡ true → c ≡ true → d ≡ true → e ≡ true → (a && b && c && d && e) ≡ true
five a b c d e p q r s t =
    ap (λ (x : Bool). x && b && c && d && e) p ∙ ap (λ (x : Bool). true && x && c && d && e) q ∙ ap (λ (x : Bool). true && true && x && d && e) r
    ∙ ap (λ (x : Bool). true && true && true && x && e) s ∙ t

fits : (rows least : ℕ) (m : Mult) (ms : List Mult) → 1 ≤ m.factor → m.factor ≤ 1099511627776 → least ≤ m.row → m.row < rows → are_fit rows (m.row + 1) ms ≡ true → are_fit rows least (m ∷ ms) ≡ true
fits rows least m ms p q r s t =
    five (leb 1 m.factor) (leb m.factor 1099511627776) (leb least m.row) (ltb m.row rows) (are_fit rows (m.row + 1) ms)
    (le-leb 1 m.factor p) (le-leb m.factor 1099511627776 q) (le-leb least m.row r) (lt-ltb m.row rows s) t

-- what a fit list says of its first factor and of the others
record First (rows least : ℕ) (m : Mult) (ms : List Mult) : Type 0 where
  some : 1 ≤ m.factor
  small : m.factor ≤ 1099511627776
  after : least ≤ m.row
  named : m.row < rows
  others : are_fit rows (m.row + 1) ms ≡ true

first_of_fit : (rows least : ℕ) (m : Mult) (ms : List Mult) → are_fit rows least (m ∷ ms) ≡ true → First rows least m ms
first_of_fit rows least m ms e =
    let p = and_parts (leb 1 m.factor && leb m.factor 1099511627776 && leb least m.row && ltb m.row rows) (are_fit rows (m.row + 1) ms) e in
    let q = and_parts (leb 1 m.factor && leb m.factor 1099511627776 && leb least m.row) (ltb m.row rows) p.0 in
    let r = and_parts (leb 1 m.factor && leb m.factor 1099511627776) (leb least m.row) q.0 in
    let s = and_parts (leb 1 m.factor) (leb m.factor 1099511627776) r.0 in
    record {
      some = leb-true 1 m.factor s.0;
      small = leb-true m.factor 1099511627776 s.1;
      after = leb-true least m.row r.1;
      named = ltb-true m.row rows q.1;
      others = p.1;
    }

-- a list that is fit for some rows is so for more
pub fit_more : (rows more least : ℕ) (ms : List Mult) → rows ≤ more → are_fit rows least ms ≡ true → are_fit more least ms ≡ true
fit_more rows more least [] le e = refl
fit_more rows more least (m ∷ ms) le e =
    let f = first_of_fit rows least m ms e in
    fits more least m ms f.some f.small f.after (omega (arith, f.named)) (fit_more rows more (m.row + 1) ms le f.others)

-- the factor of the next row may be put at the end
fit_push : (row least : ℕ) (ms : List Mult) (new : Mult) → least ≤ row → new.row ≡ row → 1 ≤ new.factor → new.factor ≤ 1099511627776 → are_fit row least ms ≡ true → are_fit (row + 1) least (ms ++ new ∷ []) ≡ true
fit_push row least [] new le e p q h = fits (row + 1) least new [] p q (omega arith) (omega arith) refl
fit_push row least (m ∷ ms) new le e p q h =
    let f = first_of_fit row least m ms h in
    fits (row + 1) least m (ms ++ new ∷ []) f.some f.small f.after (omega (arith, f.named)) (fit_push row (m.row + 1) ms new (omega (arith, f.named)) e p q f.others)

-- whether the next row's factor is put or not, the list is fit for one row more
pub fit_put : (row factor : ℕ) (before after : List Mult) → (factor ≡ 0 → ⊥) → factor ≤ 1099511627776 → are_fit row 0 before ≡ true
    → (after ≡ before) ⊎ (after ≡ before ++ (record { row = row; factor = factor }) ∷ []) → are_fit (row + 1) 0 after ≡ true
fit_put row factor before after some small fit put =
    ⊎_elim
    (λ (same : after ≡ before). ap (are_fit (row + 1) 0) same ∙ fit_more row (row + 1) 0 before (omega arith) fit)
    (λ (more : after ≡ before ++ (record { row = row; factor = factor }) ∷ []).
    ap (are_fit (row + 1) 0) more ∙ fit_push row 0 before (record { row = row; factor = factor }) (omega arith) refl (omega (arith, some)) small fit)
    put
