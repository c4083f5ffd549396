-- Days one after another, and the time of day.
use Rattle.std.proofs.Common.{◌≡◌, ℕ, zero, suc, ◌+◌, ◌*◌, ◌/◌, ◌%◌, ◌≤◌, ◌<◌, refl, ap, ◌∙◌, arith}
use Rattle.stn_model.specs.declared.plant.Moment.{Moment}
use Rattle.plant_labels.specs.Clock.{next_day, days_later, second_of, at_second, seconds_in, minutes_later}

-- one more day
pub days_later-more : (m : Moment) (n : ℕ) → days_later m (n + 1) ≡ next_day (days_later m n)
days_later-more m n = let e : n + 1 ≡ suc n = omega arith in rw e refl

-- the year is at most one later on the next day
pub year-next_day : (m : Moment) → (next_day m).year ≤ m.year + 1
unfolding next_day
year-next_day m = grind arith

-- both, in a form for `grind`
pub ruleset one_more = (days_later-more, year-next_day)

-- the time of day does not matter to the next day
pub next_day-at_second : (m : Moment) (s : ℕ) → next_day (at_second m s) ≡ at_second (next_day m) s
unfolding next_day
next_day-at_second m s = grind arith

-- nor to the days after it
pub days_later-at_second : (m : Moment) (s n : ℕ) → days_later (at_second m s) n ≡ at_second (days_later m n) s
days_later-at_second m s zero = refl
days_later-at_second m s (suc n) = ap next_day (days_later-at_second m s n) ∙ next_day-at_second (days_later m n) s

-- days add up
pub days_later-add : (m : Moment) (a b : ℕ) → days_later (days_later m a) b ≡ days_later m (a + b)
days_later-add m a zero = let e : a + 0 ≡ a = omega arith in rw e refl
days_later-add m a (suc b) = let e : a + suc b ≡ suc (a + b) = omega arith in rw e (ap next_day (days_later-add m a b))

-- the seconds of a day are its hours, minutes and seconds
pub second_of-at_second : (m : Moment) (s : ℕ) → s < 86400 → second_of (at_second m s) ≡ s
second_of-at_second m s within = omega arith

-- seconds after seconds of a day
pub seconds_in-add : (m : Moment) (a b : ℕ) → seconds_in (seconds_in m a) (a % 86400 + b) ≡ seconds_in m (a + b)
seconds_in-add m a b =
    let day : a / 86400 + (a % 86400 + b) / 86400 ≡ (a + b) / 86400 = omega arith in
    let rest : (a % 86400 + b) % 86400 ≡ (a + b) % 86400 = omega arith in
    ap (λ (n : Moment). at_second n ((a % 86400 + b) % 86400))
    (days_later-at_second (days_later m (a / 86400)) (a % 86400) ((a % 86400 + b) / 86400)
    ∙ ap (λ (n : Moment). at_second n (a % 86400)) (days_later-add m (a / 86400) ((a % 86400 + b) / 86400)))
    ∙ ap (λ (n : ℕ). at_second (days_later m n) ((a % 86400 + b) % 86400)) day
    ∙ ap (λ (n : ℕ). at_second (days_later m ((a + b) / 86400)) n) rest

-- minutes add up
pub minutes_later-add : (m : Moment) (a b : ℕ) → minutes_later (minutes_later m a) b ≡ minutes_later m (a + b)
unfolding minutes_later
minutes_later-add m a b =
    let s : ℕ = second_of m + 60 * a in
    let within : s % 86400 < 86400 = omega arith in
    let here : second_of (seconds_in m s) ≡ s % 86400 = second_of-at_second (days_later m (s / 86400)) (s % 86400) within in
    let whole : s + 60 * b ≡ second_of m + 60 * (a + b) = omega arith in
    ap (λ (n : ℕ). seconds_in (seconds_in m s) (n + 60 * b)) here
    ∙ seconds_in-add m s (60 * b)
    ∙ ap (seconds_in m) whole
