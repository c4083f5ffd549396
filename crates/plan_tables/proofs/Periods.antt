-- Each period of a unit counts once.
use Rattle.std.proofs.Common.{◌≡◌, ℕ, zero, suc, ◌+◌, ◌≤◌, List, refl, sym, ap, ◌∙◌, arith, add-one, Bool, true, false, cond, ◌&&◌}
use Rattle.std.specs.Prelude.{not}
use Rattle.stn_model.specs.declared.plant.Plant.{Plant}
use Rattle.stn_model.specs.declared.start.Start.{Start}
use Rattle.stn_model.specs.Sums.{count_below}
use Rattle.plan_tables.specs.Batches.{on_unit}
use Rattle.plan_tables.specs.Units.{is_running, is_there, is_cleaned, running_periods, out_periods, cleaning_periods, idle_periods, PeriodsOnce}

one_of : (r t c : Bool) → cond r 1 0 + (cond (not r && not t) 1 0 + (cond (not r && (t && c)) 1 0 + cond (not r && (t && not c)) 1 0)) ≡ 1
one_of true t c = refl
one_of false false c = refl
one_of false true true = refl
one_of false true false = refl

counted_once : (r t c : ℕ → Bool) (n : ℕ) → count_below r n + (count_below (λ k. not (r k) && not (t k)) n
    + (count_below (λ k. not (r k) && (t k && c k)) n + count_below (λ k. not (r k) && (t k && not (c k))) n)) ≡ n
counted_once r t c zero = refl
counted_once r t c (suc n) = let ih = counted_once r t c n in omega (arith, ih, one_of (r n) (t n) (c n))

pub periods_once : (plant : Plant) (plan : List Start) → PeriodsOnce plant plan
unfolding running_periods out_periods cleaning_periods idle_periods
periods_once plant plan unit there = counted_once (is_running plant (on_unit plan unit) unit) (is_there plant unit) (is_cleaned plant (on_unit plan unit) unit) plant.periods

count_below_more : (p : ℕ → Bool) (n : ℕ) → count_below p (n + 1) ≡ count_below p n + cond (p n) 1 0
count_below_more p n = rw add-one refl

-- the numbers over one more period
module _ (plant : Plant) (batches : List Start) (unit n : ℕ) where
  running_more : running_periods plant batches unit (n + 1) ≡ running_periods plant batches unit n + cond (is_running plant batches unit n) 1 0
  unfolding running_periods
  running_more = count_below_more (is_running plant batches unit) n

  out_more : out_periods plant batches unit (n + 1) ≡ out_periods plant batches unit n + cond (not (is_running plant batches unit n) && not (is_there plant unit n)) 1 0
  unfolding out_periods
  out_more = count_below_more (λ period. not (is_running plant batches unit period) && not (is_there plant unit period)) n

  cleaning_more : cleaning_periods plant batches unit (n + 1) ≡ cleaning_periods plant batches unit n + cond (not (is_running plant batches unit n) && (is_there plant unit n && is_cleaned plant batches unit n)) 1 0
  unfolding cleaning_periods
  cleaning_more = count_below_more (λ period. not (is_running plant batches unit period) && (is_there plant unit period && is_cleaned plant batches unit period)) n

  idle_more : idle_periods plant batches unit (n + 1) ≡ idle_periods plant batches unit n + cond (not (is_running plant batches unit n) && (is_there plant unit n && not (is_cleaned plant batches unit n))) 1 0
  unfolding idle_periods
  idle_more = count_below_more (λ period. not (is_running plant batches unit period) && (is_there plant unit period && not (is_cleaned plant batches unit period))) n

-- how many periods a unit spends in each way, of so many
pub record Counted (plant : Plant) (batches : List Start) (unit n running out cleaning idle : ℕ) : Type 0 where
  pub running_is : running ≡ running_periods plant batches unit n
  pub out_is : out ≡ out_periods plant batches unit n
  pub cleaning_is : cleaning ≡ cleaning_periods plant batches unit n
  pub idle_is : idle ≡ idle_periods plant batches unit n

-- none of no periods
pub counted_none : (plant : Plant) (batches : List Start) (unit : ℕ) → Counted plant batches unit 0 0 0 0 0
unfolding running_periods out_periods cleaning_periods idle_periods
counted_none plant batches unit = record { running_is = refl; out_is = refl; cleaning_is = refl; idle_is = refl }

-- one more period, by what the unit does in it
pub counted_more : (plant : Plant) (batches : List Start) (unit n r o c i r2 o2 c2 i2 : ℕ) (running there cleaned : Bool) → Counted plant batches unit n r o c i
    → running ≡ is_running plant batches unit n → there ≡ is_there plant unit n → cleaned ≡ is_cleaned plant batches unit n
    → r2 ≡ r + cond running 1 0 → o2 ≡ o + cond (not running && not there) 1 0 → c2 ≡ c + cond (not running && (there && cleaned)) 1 0 → i2 ≡ i + cond (not running && (there && not cleaned)) 1 0
    → Counted plant batches unit (n + 1) r2 o2 c2 i2
counted_more plant batches unit n r o c i r2 o2 c2 i2 running there cleaned before er et ec hr ho hc hi =
    let a = running_more plant batches unit n in
    let b = out_more plant batches unit n in
    let d = cleaning_more plant batches unit n in
    let e = idle_more plant batches unit n in
    let was_r = before.running_is in
    let was_o = before.out_is in
    let was_c = before.cleaning_is in
    let was_i = before.idle_is in
    record {
      running_is = hr ∙ ap (λ (k : ℕ). k + cond running 1 0) was_r ∙ ap (λ (x : Bool). running_periods plant batches unit n + cond x 1 0) er ∙ sym a;
      out_is = ho ∙ ap (λ (k : ℕ). k + cond (not running && not there) 1 0) was_o ∙ ap (λ (x : Bool). out_periods plant batches unit n + cond (not x && not there) 1 0) er
          ∙ ap (λ (x : Bool). out_periods plant batches unit n + cond (not (is_running plant batches unit n) && not x) 1 0) et ∙ sym b;
      cleaning_is = hc ∙ ap (λ (k : ℕ). k + cond (not running && (there && cleaned)) 1 0) was_c ∙ ap (λ (x : Bool). cleaning_periods plant batches unit n + cond (not x && (there && cleaned)) 1 0) er
          ∙ ap (λ (x : Bool). cleaning_periods plant batches unit n + cond (not (is_running plant batches unit n) && (x && cleaned)) 1 0) et
          ∙ ap (λ (x : Bool). cleaning_periods plant batches unit n + cond (not (is_running plant batches unit n) && (is_there plant unit n && x)) 1 0) ec ∙ sym d;
      idle_is = hi ∙ ap (λ (k : ℕ). k + cond (not running && (there && not cleaned)) 1 0) was_i ∙ ap (λ (x : Bool). idle_periods plant batches unit n + cond (not x && (there && not cleaned)) 1 0) er
          ∙ ap (λ (x : Bool). idle_periods plant batches unit n + cond (not (is_running plant batches unit n) && (x && not cleaned)) 1 0) et
          ∙ ap (λ (x : Bool). idle_periods plant batches unit n + cond (not (is_running plant batches unit n) && (is_there plant unit n && not x)) 1 0) ec ∙ sym e;
    }

-- a number that is at most n, and grows by one or not
pub at_most_more : (r k n : ℕ) (b : Bool) → r ≤ n → k ≡ r + cond b 1 0 → k ≤ n + 1
at_most_more r k n true h e = omega (arith, h, e)
at_most_more r k n false h e = omega (arith, h, e)
