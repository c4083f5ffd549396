-- What an amount that is added at one place of a table does to its rows.
use Rattle.std.proofs.Common.{◌≡◌, ℕ, ◌+◌, ◌-◌, ◌*◌, ◌<◌, ◌≤◌, List, length, get_or, set, take, drop, sum, sum_by, arith, refl, Bool, true, false, cond, eqb, leb, ltb, ap, sym, ◌∙◌, ◌^◌, inl, inr, ◌&&◌}
use Rattle.std.proofs.lemmas.Bool.{cases_eq, cases_order, cases_lt, eq-eqb, ne_eqb, le-leb, lt-leb, lt-ltb, le-ltb, and_from, and_left, and_right}
use Rattle.std.proofs.lemmas.List.{drop-set-add, drop-set-lt, take-set-le, get_or-drop, get_or-take, length-take, length-drop, length-append, get_or_push, get_or_append_left}
use Rattle.std.proofs.lemmas.List.Sums.{sum_by-le, sum_by_more, sum_by-set, sum_by-take-le, sum_by-take-drop}
use Rattle.std.proofs.lemmas.Bool.Decides.{nat_tests}
use Rattle.std.proofs.lemmas.Nat.{same_from_place}
use Rattle.std.proofs.Common.{get_or-set_same, get_or-set_other}
use Rattle.std.proofs.Math.Seq.{take-set-lt, take-length}
use Rattle.std.proofs.Math.Nat.{mul-le-mul_right}
use Rattle.std.specs.Prelude.{ℤ, pos, ◌-ℤ◌, ◌++◌, [], ◌∷◌}
use Rattle.stn_model.specs.declared.plant.Plant.{Plant}
use Rattle.stn_model.specs.declared.start.Start.{Start}
use Rattle.stn_model.specs.Plant.{state_at}
use Rattle.stn_model.specs.Stock.{stock, inflow, outflow, received, delivered, given, taken}
use Rattle.plan_sim.specs.Tables.{AddsLevels}
use Rattle.plan_sim.specs.Moves.{summed, moved_by, cell, drawn_at, draws_in, drawn_until}
use Rattle.stn_model.specs.declared.plant.Draw.{Draw}
use Rattle.stn_model.specs.Load.{drawn_in}

-- the sum of the first n of a list to which x is added at a place
sum_take_set : (ys : List ℕ) (c n x : ℕ) → c < length ys → sum (take n (set ys c (get_or ys c 0 + x))) ≡ sum (take n ys) + cond (ltb c n) x 0
sum_take_set ys c n x h = elim (cases_lt c n) [
  | inl l ↦ (let cut : take n (set ys c (get_or ys c 0 + x)) ≡ set (take n ys) c (get_or ys c 0 + x) = take-set-lt n ys c (get_or ys c 0 + x) l in
      let there : c < length (take n ys) = simp length-take (omega arith) in
      let old : get_or (take n ys) c 0 ≡ get_or ys c 0 = get_or-take n ys c 0 l in
      let put = sum_by-set (λ y. y) (take n ys) c (get_or ys c 0 + x) 0 there in
      let yes : ltb c n ≡ true = lt-ltb c n l in
      rw (cut, yes) (omega (arith, put, old)))
  | inr g ↦ (let cut : take n (set ys c (get_or ys c 0 + x)) ≡ take n ys = take-set-le n ys c (get_or ys c 0 + x) g in
      let no : ltb c n ≡ false = le-ltb c n g in
      rw (cut, no) (omega arith))
]

same_test : (r s c t : ℕ) → r ≡ s → ltb c (t + 1) ≡ (eqb r s && leb c t)
same_test r s c t e = let yes : eqb r s ≡ true = eq-eqb r s e in rw yes (grind (arith, nat_tests))

pub rows_apart : (r s w : ℕ) → r < s → r * w + w ≤ s * w
rows_apart r s w h = let k : (r + 1) * w ≤ s * w = mul-le-mul_right w (omega arith) in omega (arith, k)

-- the place of a row that comes before another is before it
row_before : (r s w c : ℕ) → r < s → c < w → r * w + c < s * w
row_before r s w c h l = let k : r * w + w ≤ s * w = rows_apart r s w h in omega (arith, k)

same_row : (cells : List ℕ) (w r c s t x : ℕ) → r ≡ s → c < w → t < w → r * w + c < length cells → summed (set cells (r * w + c) (get_or cells (r * w + c) 0 + x)) w s t ≡ summed cells w s t + moved_by r c x s t
same_row cells w r c s t x e hc ht inside =
    let row : r * w ≡ s * w = ap (λ (k : ℕ). k * w) e in
    let inside2 : s * w + c < length cells = omega arith in
    let there : c < length (drop (s * w) cells) = simp length-drop (omega arith) in
    let old : get_or (drop (s * w) cells) c 0 ≡ get_or cells (s * w + c) 0 = get_or-drop (s * w) cells c 0 in
    let cut : drop (s * w) (set cells (s * w + c) (get_or cells (s * w + c) 0 + x)) ≡ set (drop (s * w) cells) c (get_or (drop (s * w) cells) c 0 + x) = drop-set-add (s * w) cells c (get_or cells (s * w + c) 0 + x) ∙ ap (λ (y : ℕ). set (drop (s * w) cells) c (y + x)) (sym old) in
    let step = sum_take_set (drop (s * w) cells) c (t + 1) x there in
    let test : ltb c (t + 1) ≡ (eqb r s && leb c t) = same_test r s c t e in
    rw row (rw cut (step ∙ ap (λ (b : Bool). sum (take (t + 1) (drop (s * w) cells)) + cond b x 0) test))

pub summed_set : (cells : List ℕ) (w r c s t x : ℕ) → c < w → t < w → r * w + c < length cells → summed (set cells (r * w + c) (get_or cells (r * w + c) 0 + x)) w s t ≡ summed cells w s t + moved_by r c x s t
summed_set cells w r c s t x hc ht inside =
    let v = get_or cells (r * w + c) 0 + x in
    elim (cases_order r s) [
      | inl e ↦ (let yes : eqb r s ≡ true = eq-eqb r s e in same_row cells w r c s t x e hc ht inside)
      | inr o ↦ elim o [
        | inl l ↦ (let no : eqb r s ≡ false = ne_eqb r s (λ e. omega arith) in
            let before : r * w + c < s * w = row_before r s w c l hc in
            let cut : drop (s * w) (set cells (r * w + c) v) ≡ drop (s * w) cells = drop-set-lt (s * w) cells (r * w + c) v before in
            rw (cut, and_left (eqb r s) (leb c t) no) (omega arith))
        | inr g ↦ (let no : eqb r s ≡ false = ne_eqb r s (λ e. omega arith) in
            let after : s * w + t < r * w = row_before s r w t g ht in
            let shift : r * w + c ≡ s * w + (r * w + c - s * w) = omega arith in
            let cut : drop (s * w) (set cells (r * w + c) v) ≡ set (drop (s * w) cells) (r * w + c - s * w) v = ap (λ (k : ℕ). drop (s * w) (set cells k v)) shift ∙ drop-set-add (s * w) cells (r * w + c - s * w) v in
            let short : take (t + 1) (set (drop (s * w) cells) (r * w + c - s * w) v) ≡ take (t + 1) (drop (s * w) cells) = take-set-le (t + 1) (drop (s * w) cells) (r * w + c - s * w) v (omega arith) in
            rw (cut, short, and_left (eqb r s) (leb c t) no) (omega arith))
      ]
    ]

-- what is in a row is no more than what is in the table
pub summed_le : (cells : List ℕ) (w r c : ℕ) → summed cells w r c ≤ sum cells
summed_le cells w r c =
    let part = sum_by-take-le (λ (y : ℕ). y) (drop (r * w) cells) (c + 1) in
    let whole = sum_by-take-drop (λ (y : ℕ). y) cells (r * w) in
    omega (arith, part, whole)

-- the running sum of a row takes one more column
pub row_step : (cells : List ℕ) (w r c : ℕ) → r * w + c < length cells → summed cells w r c ≡ sum (take c (drop (r * w) cells)) + get_or cells (r * w + c) 0
row_step cells w r c h =
    let there : c < length (drop (r * w) cells) = simp length-drop (omega arith) in
    let step = sum_by_more (λ (y : ℕ). y) (drop (r * w) cells) c 0 there in
    step ∙ ap (λ (y : ℕ). sum (take c (drop (r * w) cells)) + y) (get_or-drop (r * w) cells c 0)

-- one more level at the end of the list
pub levels_push : (old new : List ℤ) (opening width state times : ℕ) (arrived departed : List ℕ) (x : ℤ) → AddsLevels old new opening width state times arrived departed → x ≡ pos (opening + summed arrived width state times) -ℤ pos (summed departed width state times) → AddsLevels old (new ++ x ∷ []) opening width state (times + 1) arrived departed
levels_push old new opening width state times arrived departed x before e =
    let size = before.size in
    record {
      size = omega (arith, length-append new (x ∷ []));
      kept = λ place h. let l : place < length new = omega arith in get_or_append_left new (x ∷ []) (pos 0) place l ∙ before.kept place h;
      levels = λ time h. elim (cases_lt time times) [
        | inl l ↦ (let k : length old + time < length new = omega arith in get_or_append_left new (x ∷ []) (pos 0) (length old + time) k ∙ before.levels time l)
        | inr g ↦ (let same : time ≡ times = omega arith in
            let at : length new ≡ length old + time = omega arith in
            get_or_push new x (pos 0) (length old + time) at ∙ e ∙ ap (λ (t : ℕ). pos (opening + summed arrived width state t) -ℤ pos (summed departed width state t)) (sym same))
      ];
    }

-- a running sum with its next summand is small
pub running_small : (cells : List ℕ) (w r c opening total : ℕ) → r * w + w ≤ length cells → c < w → sum cells ≤ 2 ^ 88 → opening ≤ 2 ^ 30 → total ≡ opening + sum (take c (drop (r * w) cells)) → total + get_or cells (r * w + c) 0 ≤ 2 ^ 89
running_small cells w r c opening total row within small first e =
    let h : r * w + c < length cells = omega arith in
    omega (arith, row_step cells w r c h, summed_le cells w r c)

-- the stocks of one more state
pub stocks_more : (plant : Plant) (plan : List Start) (old new : List ℤ) (opening width state : ℕ) (arrived departed : List ℕ) → width ≡ plant.periods + 1 → length old ≡ state * width
    → ((s time : ℕ) → s < state → time ≤ plant.periods → get_or old (s * width + time) (pos 0) ≡ stock plant plan s time)
    → AddsLevels old new opening width state width arrived departed
    → opening ≡ (state_at plant state).initial
    → ((time : ℕ) → time < width → summed arrived width state time ≡ received plant state time + sum_by (given plant state time) plan)
    → ((time : ℕ) → time < width → summed departed width state time ≡ delivered plant state time + sum_by (taken plant state time) plan)
    → (s time : ℕ) → s < state + 1 → time ≤ plant.periods → get_or new (s * width + time) (pos 0) ≡ stock plant plan s time
unfolding stock inflow outflow
stocks_more plant plan old new opening width state arrived departed w size before adds first ins outs s time h k =
    elim (cases_lt s state) [
      | inl l ↦ (let row : s * width + width ≤ state * width = rows_apart s state width l in
          let there : s * width + time < length old = omega arith in
          adds.kept (s * width + time) there ∙ before s time l k)
      | inr g ↦ (let same : s ≡ state = omega arith in
          let col : time < width = omega arith in
          let place : s * width + time ≡ length old + time = ap (λ (r : ℕ). r * width + time) same ∙ ap (λ (n : ℕ). n + time) (sym size) in
          let level : get_or new (length old + time) (pos 0) ≡ pos (opening + summed arrived width state time) -ℤ pos (summed departed width state time) = adds.levels time col in
          let inn : opening + summed arrived width state time ≡ inflow plant plan state time = omega (arith, ins time col, first) in
          let outt : summed departed width state time ≡ outflow plant plan state time = outs time col in
          ap (λ (p : ℕ). get_or new p (pos 0)) place ∙ level ∙ ap (λ (n : ℕ). pos n -ℤ pos (summed departed width state time)) inn ∙ ap (λ (n : ℕ). pos (inflow plant plan state time) -ℤ pos n) outt
          ∙ ap (λ (r : ℕ). pos (inflow plant plan r time) -ℤ pos (outflow plant plan r time)) (sym same))
    ]

drawn_elsewhere : (w r c s t x : ℕ) → (s * w + t ≡ r * w + c → ⊥) → drawn_at r c x s t ≡ 0
drawn_elsewhere w r c s t x ne = elim (cases_eq c t) [
  | inl e ↦ elim (cases_eq r s) [
    | inl f ↦ absurd (ne (ap (λ (k : ℕ). s * w + k) (sym e) ∙ ap (λ (k : ℕ). k * w + c) (sym f)))
    | inr f ↦ rw (eq-eqb c t e, ne_eqb r s f) refl
  ]
  | inr e ↦ rw (ne_eqb c t e) refl
]

-- what an amount that is added at one place does to each place
pub cell_set : (cells : List ℕ) (w r c s t x : ℕ) → c < w → t < w → r * w + c < length cells → cell (set cells (r * w + c) (get_or cells (r * w + c) 0 + x)) w s t ≡ cell cells w s t + drawn_at r c x s t
cell_set cells w r c s t x hc ht inside =
    let v = get_or cells (r * w + c) 0 + x in
    elim (cases_eq (s * w + t) (r * w + c)) [
      | inl e ↦ (let both = same_from_place s t r c w ht hc e in
          let col : eqb c t ≡ true = eq-eqb c t (sym both.1) in
          let row : eqb r s ≡ true = eq-eqb r s (sym both.0) in
          rw (e, get_or-set_same cells (r * w + c) v 0 inside, col, row) refl)
      | inr ne ↦ (let other : get_or (set cells (r * w + c) v) (s * w + t) 0 ≡ get_or cells (s * w + t) 0 = get_or-set_other cells (r * w + c) (s * w + t) v 0 ne in
          let none : drawn_at r c x s t ≡ 0 = drawn_elsewhere w r c s t x ne in
          rw (other, none) (omega arith))
    ]

-- nothing is drawn in another period
draws_elsewhere : (draws : List Draw) (start : Start) (p r c : ℕ) → (p ≡ c → ⊥) → sum_by (draws_in start p r c) draws ≡ 0
draws_elsewhere draws start p r c ne =
    let no : eqb p c ≡ false = ne_eqb p c ne in
    let same : sum_by (draws_in start p r c) draws ≡ sum_by (λ (draw : Draw). 0) draws = ap (λ (b : Bool). sum_by (λ (draw : Draw). cond b (drawn_in r start.quanta (p - start.period) draw) 0) draws) no in
    let zero = sum_by-le (λ (draw : Draw). 0) 0 draws (λ k d h. omega arith) in
    omega (arith, same, zero)

draws_here : (draws : List Draw) (start : Start) (p r c : ℕ) → p ≡ c → sum_by (draws_in start p r c) draws ≡ sum_by (drawn_in r start.quanta (c - start.period)) draws
draws_here draws start p r c e =
    let yes : eqb p c ≡ true = eq-eqb p c e in
    ap (λ (b : Bool). sum_by (λ (draw : Draw). cond b (drawn_in r start.quanta (p - start.period) draw) 0) draws) yes ∙ ap (λ (k : ℕ). sum_by (drawn_in r start.quanta (k - start.period)) draws) e

other_period : (c p : ℕ) → (p ≡ c → ⊥) → ltb c (p + 1) ≡ ltb c p
other_period c p ne = elim (cases_lt c p) [
  | inl l ↦ lt-ltb c (p + 1) (omega arith) ∙ sym (lt-ltb c p l)
  | inr g ↦ le-ltb c (p + 1) (omega arith) ∙ sym (le-ltb c p g)
]

-- what is drawn until a time, and in the period that begins there
pub until_more : (draws : List Draw) (start : Start) (p r c : ℕ) → start.period ≤ p → drawn_until draws start p r c + sum_by (draws_in start p r c) draws ≡ drawn_until draws start (p + 1) r c
until_more draws start p r c begun = elim (cases_eq p c) [
  | inl e ↦ (let before : (leb start.period c && ltb c p) ≡ false = and_right (leb start.period c) (ltb c p) (le-ltb c p (omega arith)) in
      let now : (leb start.period c && ltb c (p + 1)) ≡ true = and_from (leb start.period c) (ltb c (p + 1)) (le-leb start.period c (omega arith)) (lt-ltb c (p + 1) (omega arith)) in
      rw (before, now) (omega (arith, draws_here draws start p r c e)))
  | inr ne ↦ (let same : ltb c (p + 1) ≡ ltb c p = other_period c p ne in
      rw same (omega (arith, draws_elsewhere draws start p r c ne)))
]

-- nothing is drawn before the start
pub until_begun : (draws : List Draw) (start : Start) (r c : ℕ) → drawn_until draws start start.period r c ≡ 0
until_begun draws start r c = elim (cases_lt c start.period) [
  | inl l ↦ rw (and_left (leb start.period c) (ltb c start.period) (lt-leb start.period c l)) refl
  | inr g ↦ rw (and_right (leb start.period c) (ltb c start.period) (le-ltb c start.period g)) refl
]

-- a list that ends at i is all that has been taken of it
pub take_whole : {X : Type 0} (xs : List X) (i : ℕ) → length xs ≤ i → i ≤ length xs → take i xs ≡ xs
take_whole xs i h k = let e : i ≡ length xs = omega arith in rw e (take-length xs)
