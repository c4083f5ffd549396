-- Factors of all rows, made from and made into the factors of some.
use Rattle.std.proofs.Common.{◌≡◌, ◌∙◌, ℕ, zero, suc, ◌+◌, ◌<◌, ◌≤◌, Bool, true, ◌&&◌, cond, eqb, leb, ltb, List, [], ◌∷◌, ◌++◌, length, get_or, drop, refl, sym, ap, subst, ⊎_elim, arith, ℤ, pos, ◌+ℤ◌, ◌*ℤ◌}
use Rattle.std.specs.List.{All}
use Rattle.std.proofs.lemmas.Bool.{and_parts, leb-true, ltb-true, le-leb, lt-ltb, cond-true, cond-false, eq-eqb, ne_eqb, cases_eq, cases_lt}
use Rattle.std.proofs.lemmas.Int.{ints}
use Rattle.std.proofs.lemmas.List.{at_drop_more, at_drop_all}
use Rattle.std.proofs.lemmas.List.Elements.{All-head, All-tail}
use Rattle.std.proofs.Math.IntN.{zero-*ℤ, +ℤ_idl}
use Rattle.dual_bound.specs.declared.cert.Mult.{Mult}
use Rattle.dual_bound.specs.Total.{are_fit, IsFitMult}
use Rattle.dual_climb.specs.laws.Sums.{weighted, AreNumbered, no_mult, factor_first}

-- what the first of fit factors keeps
pub record FitHead (rows least : ℕ) (m : Mult) (ms : List Mult) : Type 0 where
  pub some : 1 ≤ m.factor
  pub small : m.factor ≤ 1099511627776
  pub from : least ≤ m.row
  pub there : m.row < rows
  pub rest : are_fit rows (m.row + 1) ms ≡ true

pub fit_head : (rows least : ℕ) (m : Mult) (ms : List Mult) → are_fit rows least (m ∷ ms) ≡ true → FitHead rows least m ms
fit_head rows least m ms e =
    let p = and_parts (leb 1 m.factor && leb m.factor 1099511627776 && leb least m.row && ltb m.row rows) (are_fit rows (m.row + 1) ms) e in
    let q = and_parts (leb 1 m.factor && leb m.factor 1099511627776 && leb least m.row) (ltb m.row rows) p.0 in
    let r = and_parts (leb 1 m.factor && leb m.factor 1099511627776) (leb least m.row) q.0 in
    let s = and_parts (leb 1 m.factor) (leb m.factor 1099511627776) r.0 in
    record { some = leb-true 1 m.factor s.0; small = leb-true m.factor 1099511627776 s.1; from = leb-true least m.row r.1; there = ltb-true m.row rows q.1; rest = p.1 }

both : (a b : Bool) → a ≡ true → b ≡ true → (a && b) ≡ true
both a b p q = ap (λ (x : Bool). x && b) p ∙ q

head_fit : (rows least : ℕ) (m : Mult) (ms : List Mult) → FitHead rows least m ms → are_fit rows least (m ∷ ms) ≡ true
head_fit rows least m ms h =
    both (leb 1 m.factor && leb m.factor 1099511627776 && leb least m.row && ltb m.row rows) (are_fit rows (m.row + 1) ms)
    (both (leb 1 m.factor && leb m.factor 1099511627776 && leb least m.row) (ltb m.row rows)
    (both (leb 1 m.factor && leb m.factor 1099511627776) (leb least m.row)
    (both (leb 1 m.factor) (leb m.factor 1099511627776) (le-leb 1 m.factor h.some) (le-leb m.factor 1099511627776 h.small))
    (le-leb least m.row h.from))
    (lt-ltb m.row rows h.there))
    h.rest

-- fit from a number on is fit from an earlier one on
fit_earlier : (rows least : ℕ) (ms : List Mult) → are_fit rows (least + 1) ms ≡ true → are_fit rows least ms ≡ true
fit_earlier rows least [] e = refl
fit_earlier rows least (m ∷ ms) e =
    let h = fit_head rows (least + 1) m ms e in
    head_fit rows least m ms (record { some = h.some; small = h.small; from = omega (arith, h.from); there = h.there; rest = h.rest })

pub first_small : (rows least row : ℕ) (ms : List Mult) → are_fit rows least ms ≡ true → factor_first row ms ≤ 1099511627776
first_small rows least row [] e = omega arith
first_small rows least row (m ∷ ms) e =
    ⊎_elim
    (λ (here : m.row ≡ row). subst (λ (n : ℕ). n ≤ 1099511627776) (sym (cond-true (eqb m.row row) m.factor 0 (eq-eqb m.row row here))) (fit_head rows least m ms e).small)
    (λ (apart : m.row ≡ row → ⊥). subst (λ (n : ℕ). n ≤ 1099511627776) (sym (cond-false (eqb m.row row) m.factor 0 (ne_eqb m.row row apart))) (omega arith))
    (cases_eq m.row row)

-- where the first is not that of a row, all come after it
pub row_passed : (rows row : ℕ) (ms : List Mult) → are_fit rows row ms ≡ true → factor_first row ms ≡ 0 → are_fit rows (row + 1) ms ≡ true
row_passed rows row [] e none = refl
row_passed rows row (m ∷ ms) e none =
    let h = fit_head rows row m ms e in
    ⊎_elim
    (λ (here : m.row ≡ row). absurd (omega (arith, h.some, none, cond-true (eqb m.row row) m.factor 0 (eq-eqb m.row row here))))
    (λ (apart : m.row ≡ row → ⊥). head_fit rows (row + 1) m ms (record { some = h.some; small = h.small; from = omega (arith, h.from, apart); there = h.there; rest = h.rest }))
    (cases_eq m.row row)

-- what is left after the factor of a row has been taken
pub record Taken (rows row : ℕ) (ms : List Mult) (place : ℕ) : Type 0 where
  pub inside : place < length ms
  pub rest : are_fit rows (row + 1) (drop (place + 1) ms) ≡ true
  pub sums : (worth : ℕ → ℤ) → weighted worth (drop place ms) ≡ (pos (factor_first row (drop place ms)) *ℤ worth row) +ℤ weighted worth (drop (place + 1) ms)

taken_head : (rows row : ℕ) (m : Mult) (ms : List Mult) → are_fit rows row (m ∷ ms) ≡ true → (factor_first row (m ∷ ms) ≡ 0 → ⊥) → m.row ≡ row
taken_head rows row m ms e some =
    ⊎_elim (λ (here : m.row ≡ row). here)
    (λ (apart : m.row ≡ row → ⊥). absurd (some (cond-false (eqb m.row row) m.factor 0 (ne_eqb m.row row apart))))
    (cases_eq m.row row)

pub row_taken : (rows row : ℕ) (ms : List Mult) (place : ℕ) → are_fit rows row (drop place ms) ≡ true → (factor_first row (drop place ms) ≡ 0 → ⊥) → Taken rows row ms place
row_taken rows row ms place e some =
    ⊎_elim
    (λ (inside : place < length ms).
    let m = get_or ms place no_mult in
    let rest = drop (place + 1) ms in
    let fit : are_fit rows row (m ∷ rest) ≡ true = sym (at_drop_more (are_fit rows row) ms place no_mult inside) ∙ e in
    let first = at_drop_more (factor_first row) ms place no_mult inside in
    let here : m.row ≡ row = taken_head rows row m rest fit (λ q. some (first ∙ q)) in
    let own : factor_first row (drop place ms) ≡ m.factor = first ∙ cond-true (eqb m.row row) m.factor 0 (eq-eqb m.row row here) in
    record {
      inside = inside;
      rest = subst (λ (n : ℕ). are_fit rows (n + 1) rest ≡ true) here (fit_head rows row m rest fit).rest;
      sums = λ worth.
          at_drop_more (weighted worth) ms place no_mult inside
          ∙ ap (λ (r : ℕ). (pos m.factor *ℤ worth r) +ℤ weighted worth rest) here
          ∙ ap (λ (f : ℕ). (pos f *ℤ worth row) +ℤ weighted worth rest) (sym own);
    })
    (λ (past : length ms ≤ place). absurd (some (at_drop_all (factor_first row) ms place past)))
    (cases_lt place (length ms))

-- none is left past the last row
pub none_left : (rows : ℕ) (ms : List Mult) (worth : ℕ → ℤ) → are_fit rows rows ms ≡ true → weighted worth ms ≡ pos 0
none_left rows [] worth e = refl
none_left rows (m ∷ ms) worth e = let h = fit_head rows rows m ms e in absurd (omega (arith, h.from, h.there))

pub weighted_push : (worth : ℕ → ℤ) (ms : List Mult) (m : Mult) → weighted worth (ms ++ m ∷ []) ≡ weighted worth ms +ℤ (pos m.factor *ℤ worth m.row)
weighted_push worth [] m = omega (arith, ints)
weighted_push worth (x ∷ ms) m = add_last (pos x.factor *ℤ worth x.row) (weighted worth (ms ++ m ∷ [])) (weighted worth ms) (pos m.factor *ℤ worth m.row) (weighted_push worth ms m)
  where
    add_last : (a b c d : ℤ) → b ≡ c +ℤ d → a +ℤ b ≡ (a +ℤ c) +ℤ d
    add_last a b c d p = omega (arith, ints)

-- the factors that are not 0
abbrev pub kept : List Mult → List Mult
kept [] = []
kept (m ∷ ms) = cond (eqb m.factor 0) (kept ms) (m ∷ kept ms)

kept_none : (m : Mult) (ms : List Mult) → m.factor ≡ 0 → kept (m ∷ ms) ≡ kept ms
kept_none m ms e = cond-true (eqb m.factor 0) (kept ms) (m ∷ kept ms) (eq-eqb m.factor 0 e)

kept_some : (m : Mult) (ms : List Mult) → (m.factor ≡ 0 → ⊥) → kept (m ∷ ms) ≡ m ∷ kept ms
kept_some m ms h = cond-false (eqb m.factor 0) (kept ms) (m ∷ kept ms) (ne_eqb m.factor 0 h)

positive : (n : ℕ) → (n ≡ 0 → ⊥) → 1 ≤ n
positive n h = omega (arith, h)

pub kept_fit : (rows start : ℕ) (ms : List Mult) → AreNumbered start ms → All (IsFitMult rows) ms → are_fit rows start (kept ms) ≡ true
kept_fit rows start [] numbered fit = refl
kept_fit rows start (m ∷ ms) numbered fit =
    let first : m.row ≡ start + 0 = numbered 0 (omega arith) in
    let later : AreNumbered (start + 1) ms = λ place h. let q = numbered (suc place) (omega arith) in omega arith in
    let rest = kept_fit rows (start + 1) ms later (All-tail (IsFitMult rows) m ms fit) in
    let head = All-head (IsFitMult rows) m ms fit in
    ⊎_elim
    (λ (none : m.factor ≡ 0). ap (are_fit rows start) (kept_none m ms none) ∙ fit_earlier rows start (kept ms) rest)
    (λ (some : m.factor ≡ 0 → ⊥).
    let here : start + 1 ≡ m.row + 1 = omega arith in
    ap (are_fit rows start) (kept_some m ms some)
    ∙ head_fit rows start m (kept ms) (record { some = positive m.factor some; small = head.factor; from = omega arith; there = head.row; rest = subst (λ (n : ℕ). are_fit rows n (kept ms) ≡ true) here rest }))
    (cases_eq m.factor 0)

pub kept_few : (ms : List Mult) → length (kept ms) ≤ length ms
kept_few [] = omega arith
kept_few (m ∷ ms) =
    ⊎_elim (λ (none : m.factor ≡ 0). omega (arith, ap length (kept_none m ms none), kept_few ms))
    (λ (some : m.factor ≡ 0 → ⊥). omega (arith, ap length (kept_some m ms some), kept_few ms))
    (cases_eq m.factor 0)

pub kept_same : (ms : List Mult) (worth : ℕ → ℤ) → weighted worth (kept ms) ≡ weighted worth ms
kept_same [] worth = refl
kept_same (m ∷ ms) worth =
    ⊎_elim
    (λ (none : m.factor ≡ 0).
    ap (weighted worth) (kept_none m ms none) ∙ kept_same ms worth
    ∙ sym (ap (λ (n : ℕ). (pos n *ℤ worth m.row) +ℤ weighted worth ms) none ∙ ap (λ (x : ℤ). x +ℤ weighted worth ms) (zero-*ℤ (worth m.row)) ∙ +ℤ_idl (weighted worth ms)))
    (λ (some : m.factor ≡ 0 → ⊥).
    ap (weighted worth) (kept_some m ms some) ∙ ap (λ (x : ℤ). (pos m.factor *ℤ worth m.row) +ℤ x) (kept_same ms worth))
    (cases_eq m.factor 0)

-- one factor more, of the next row
pub numbered_push : (start : ℕ) (ms : List Mult) (m : Mult) → AreNumbered start ms → m.row ≡ start + length ms → (place : ℕ) → place < length (ms ++ m ∷ []) → (get_or (ms ++ m ∷ []) place no_mult).row ≡ start + place
numbered_push start [] m numbered e zero h = omega (arith, e)
numbered_push start [] m numbered e (suc place) h = absurd (omega arith)
numbered_push start (x ∷ ms) m numbered e zero h = numbered 0 (omega arith)
numbered_push start (x ∷ ms) m numbered e (suc place) h =
    let later : AreNumbered (start + 1) ms = λ k lt. let q = numbered (suc k) (omega arith) in omega arith in
    omega (arith, numbered_push (start + 1) ms m later (omega (arith, e)) place (omega arith))
