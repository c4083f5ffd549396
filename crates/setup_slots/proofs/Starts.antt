-- The starts of a plan on a unit, by period: which they are, and that each is a step from the one before.
use Rattle.std.proofs.Common.{◌≡◌, ℕ, zero, suc, ◌+◌, ◌<◌, ◌≤◌, ◌==◌, ◌&&◌, nat_lt, not, Bool, true, false, cond, List, [], ◌∷◌, get_or, filter, length, sum_by, refl, sym, ap, ap₂, ◌∙◌, arith, inl, inr, append-nil, subst}
use Rattle.std.specs.List.{All, AllPairs, Contains, flat_map, range_with_len}
use Rattle.std.proofs.lemmas.Bool.{and_from, and_parts, eq-eqb, eqb-true, false_from_ne_true, le-ltb, lt-ltb, ltb-true}
use Rattle.std.proofs.lemmas.Bool.Decides.{nat_tests}
use Rattle.std.proofs.lemmas.List.Concat.{flat_map-append}
use Rattle.std.proofs.lemmas.List.Elements.{All-contains, All-filter, All-head, All-tail, All-weaker, filter_passes}
use Rattle.std.proofs.lemmas.List.Kept.{AllPairs-filter}
use Rattle.std.proofs.lemmas.List.Sums.{list_all-from_AllPass, sum_by-append, sum_by-cons}
use Rattle.stn_model.specs.declared.plant.Plant.{Plant}
use Rattle.stn_model.specs.declared.start.Start.{Start}
use Rattle.stn_model.specs.Batches.{Apart, Cleaned, is_amid, is_earlier, is_first, is_next}
use Rattle.stn_model.specs.Feasible.{Feasible}
use Rattle.stn_model.specs.Fits.{Fits}
use Rattle.stn_model.specs.Plant.{end_of, gap_between}
use Rattle.stn_model.specs.Sound.{Sound}
use Rattle.stn_model.proofs.Fitting.{ends_later, fit_parts}
use Rattle.time_grid.proofs.Lists.{All-flat_map, AllPairs-flat_map, AllPairs-head, AllPairs-range, AllPairs-tail, Contains-cases, Contains-filter, Contains-flat_map, Contains-range, range-more}
use Rattle.time_grid.proofs.OnePlan.{sum_by-zero}
use Rattle.time_grid.proofs.SlotList.{sum_by-filter, sum_by-same}
use Rattle.setup_slots.specs.Image.{begins, starts_before}
use Rattle.setup_slots.proofs.Steps.{FollowAll, Follows, Step}

-- the start is one on the unit, in one of the first periods
abbrev pub is_before : ℕ → ℕ → Start → Bool
is_before unit periods start = start.unit == unit && nat_lt start.period periods

pub sum_by-two : {X : Type 0} (f g : X → ℕ) (xs : List X) → sum_by (λ x. f x + g x) xs ≡ sum_by f xs + sum_by g xs
sum_by-two f g [] = refl
sum_by-two f g (x ∷ xs) = omega (arith, sum_by-cons (λ y. f y + g y) x xs, sum_by-cons f x xs, sum_by-cons g x xs, sum_by-two f g xs)

one_more : (on : Bool) (at n f : ℕ) → cond (on && nat_lt at n) f 0 + cond (on && (at == n)) f 0 ≡ cond (on && nat_lt at (suc n)) f 0
one_more true at n f = grind (arith, nat_tests)
one_more false at n f = refl

none_before : (on : Bool) (at f : ℕ) → cond (on && nat_lt at 0) f 0 ≡ 0
none_before true at f = ap (λ t. cond t f 0) (le-ltb at 0 (omega arith))
none_before false at f = refl

-- a sum over the starts of the unit in the first periods
pub starts-sum : (unit : ℕ) (plan : List Start) (f : Start → ℕ) (n : ℕ) → sum_by f (starts_before unit plan n) ≡ sum_by (λ a. cond (is_before unit n a) (f a) 0) plan
unfolding starts_before
starts-sum unit plan f zero = sym (sum_by-zero (λ a. cond (is_before unit 0 a) (f a) 0) plan (λ k d l. let a = get_or plan k d in none_before (a.unit == unit) a.period (f a)))
starts-sum unit plan f (suc n) =
    let step : ℕ → List Start = λ period. filter (begins unit period) plan in
    ap (λ periods. sum_by f (flat_map step periods)) (range-more n)
    ∙ ap (sum_by f) (flat_map-append step (range_with_len 0 n) (n ∷ []))
    ∙ sum_by-append f (flat_map step (range_with_len 0 n)) (flat_map step (n ∷ []))
    ∙ ap₂ (λ x y. x + y) (starts-sum unit plan f n) (ap (sum_by f) (append-nil (filter (begins unit n) plan)) ∙ sum_by-filter (begins unit n) f plan)
    ∙ sym (sum_by-two (λ a. cond (is_before unit n a) (f a) 0) (λ a. cond (begins unit n a) (f a) 0) plan)
    ∙ sum_by-same (λ a. cond (is_before unit n a) (f a) 0 + cond (begins unit n a) (f a) 0) (λ a. cond (is_before unit (suc n) a) (f a) 0) (λ a. one_more (a.unit == unit) a.period n (f a)) plan

-- what a start on the unit in a period is
begins-parts : (unit period : ℕ) (a : Start) → begins unit period a ≡ true → (a.unit ≡ unit) × (a.period ≡ period)
begins-parts unit period a t =
    let both = and_parts (a.unit == unit) (a.period == period) t in
    (eqb-true a.unit unit both.0, eqb-true a.period period both.1)

-- what holds of each start of the plan holds of these
pub All-starts : (P : Start → Type 0) (unit : ℕ) (plan : List Start) (n : ℕ) → All P plan → All P (starts_before unit plan n)
unfolding starts_before
All-starts P unit plan n all = All-flat_map P (λ period. filter (begins unit period) plan) (range_with_len 0 n) (λ k d l. All-filter (begins unit (get_or (range_with_len 0 n) k d)) P plan all)

-- each is on the unit
pub starts-on : (unit : ℕ) (plan : List Start) (n : ℕ) → All (λ a. a.unit ≡ unit) (starts_before unit plan n)
unfolding starts_before
starts-on unit plan n =
    All-flat_map (λ a. a.unit ≡ unit) (λ period. filter (begins unit period) plan) (range_with_len 0 n)
    (λ k d l. let period = get_or (range_with_len 0 n) k d in
    All-weaker (λ a. begins unit period a ≡ true) (λ a. a.unit ≡ unit) (λ a t. (begins-parts unit period a t).0) (filter (begins unit period) plan) (filter_passes (begins unit period) plan))

-- the starts of the plan on the unit in the first periods are among them
pub starts-have : (unit : ℕ) (plan : List Start) (n : ℕ) (c : Start) → Contains plan c → c.unit ≡ unit → c.period < n → Contains (starts_before unit plan n) c
unfolding starts_before
starts-have unit plan n c there on less =
    Contains-flat_map (λ period. filter (begins unit period) plan) (range_with_len 0 n) c.period c
    (Contains-range 0 n c.period (omega arith) (omega arith))
    (Contains-filter (begins unit c.period) plan c (and_from _ _ (eq-eqb c.unit unit on) (eq-eqb c.period c.period refl)) there)

-- a start is earlier than another
abbrev pub IsEarlier : Start → Start → Type 0
IsEarlier a b = a.period < b.period

-- no two batches of the unit start in one period
one_each : (plant : Plant) (unit period : ℕ) (plan : List Start) → Sound plant → Feasible plant plan → AllPairs IsEarlier (filter (begins unit period) plan)
one_each plant unit period plan sound is i j d l m =
    let starts = filter (begins unit period) plan in
    let a = get_or starts i d in
    let b = get_or starts j d in
    let a_is = begins-parts unit period a (filter_passes (begins unit period) plan i d (omega arith)) in
    let b_is = begins-parts unit period b (filter_passes (begins unit period) plan j d m) in
    let a_at : a.period ≡ period = a_is.1 in
    let b_at : b.period ≡ period = b_is.1 in
    let a_later = ends_later plant a sound (All-filter (begins unit period) (Fits plant) plan is.fits i d (omega arith)) in
    let b_later = ends_later plant b sound (All-filter (begins unit period) (Fits plant) plan is.fits j d m) in
    elim (AllPairs-filter (Apart plant) (begins unit period) plan is.apart i j d l m (a_is.0 ∙ sym b_is.0)) [
      | inl h ↦ absurd (omega (arith, h, a_at, b_at, a_later))
      | inr h ↦ absurd (omega (arith, h, a_at, b_at, b_later))
    ]

-- they stand in the order of their periods
pub starts-rise : (plant : Plant) (unit : ℕ) (plan : List Start) (n : ℕ) → Sound plant → Feasible plant plan → AllPairs IsEarlier (starts_before unit plan n)
unfolding starts_before
starts-rise plant unit plan n sound is =
    AllPairs-flat_map (λ s t. s < t) IsEarlier (λ period. filter (begins unit period) plan)
    (λ period. one_each plant unit period plan sound is)
    (λ s t less k d l j e m.
    let a_at = (begins-parts unit s (get_or (filter (begins unit s) plan) k d) (filter_passes (begins unit s) plan k d l)).1 in
    let b_at = (begins-parts unit t (get_or (filter (begins unit t) plan) j e) (filter_passes (begins unit t) plan j e m)).1 in
    omega (arith, less, a_at, b_at))
    (range_with_len 0 n) (AllPairs-range 0 n)

-- what stands at a place of a list is among its items
contains_at : (xs : List Start) (k : ℕ) (d : Start) → k < length xs → Contains xs (get_or xs k d)
contains_at xs k d l = (k, l, get_or-same xs k d l)
  where
    get_or-same : (xs : List Start) (i : ℕ) (d : Start) → i < length xs → get_or xs i (get_or xs i d) ≡ get_or xs i d
    get_or-same [] i d l = absurd (omega arith)
    get_or-same (x ∷ xs) zero d l = refl
    get_or-same (x ∷ xs) (suc i) d l = get_or-same xs i d (omega arith)

-- the starts of the plan on the unit after a start are all among those that follow it
abbrev Covers : ℕ → List Start → Start → List Start → Type 0
Covers unit plan a rest = (c : Start) → Contains plan c → c.unit ≡ unit → a.period < c.period → Contains rest c

-- no start of the plan lies between two of which one follows the other
none_amid : (unit : ℕ) (plan : List Start) (a b : Start) (rest : List Start) → a.unit ≡ unit → Covers unit plan a (b ∷ rest) → All (IsEarlier b) rest → All (λ c. not (is_amid a b c) ≡ true) plan
none_amid unit plan a b rest on covers later k d l =
    let c = get_or plan k d in
    ap not (false_from_ne_true (is_amid a b c) (λ t.
    let both = and_parts (c.unit == a.unit && nat_lt a.period c.period) (nat_lt c.period b.period) t in
    let first = and_parts (c.unit == a.unit) (nat_lt a.period c.period) both.0 in
    let after = ltb-true a.period c.period first.1 in
    let before = ltb-true c.period b.period both.1 in
    elim (Contains-cases b rest c (covers c (contains_at plan k d l) (eqb-true c.unit a.unit first.0 ∙ on) after)) [
      | inl e ↦ omega (arith, before, ap (λ (s : Start). s.period) e)
      | inr there ↦ let much = All-contains (IsEarlier b) rest c later there in omega (arith, before, much)
    ]))

-- what the starts on the unit, which begin with one, keep
record Keeps (plant : Plant) (unit : ℕ) (plan : List Start) (a : Start) (rest : List Start) : Type 0 where
  on : All (λ c. c.unit ≡ unit) (a ∷ rest)
  rise : AllPairs IsEarlier (a ∷ rest)
  covers : Covers unit plan a rest
  cleaned : All (λ c. All (Cleaned plant plan c) (a ∷ rest)) (a ∷ rest)

later_keep : (plant : Plant) (unit : ℕ) (plan : List Start) (a b : Start) (rest : List Start) → Keeps plant unit plan a (b ∷ rest) → Keeps plant unit plan b rest
later_keep plant unit plan a b rest keeps = record {
  on = All-tail (λ c. c.unit ≡ unit) a (b ∷ rest) keeps.on;
  rise = AllPairs-tail IsEarlier a (b ∷ rest) keeps.rise;
  covers = λ c there on after.
      let first = AllPairs-head IsEarlier a (b ∷ rest) keeps.rise 0 b (omega arith) in
      elim (Contains-cases b rest c (keeps.covers c there on (omega (arith, first, after)))) [
        | inl e ↦ absurd (omega (arith, after, ap (λ (s : Start). s.period) e))
        | inr found ↦ found
      ];
  cleaned = All-weaker (λ c. All (Cleaned plant plan c) (a ∷ (b ∷ rest))) (λ c. All (Cleaned plant plan c) (b ∷ rest))
      (λ c all. All-tail (Cleaned plant plan c) a (b ∷ rest) all) (b ∷ rest)
      (All-tail (λ c. All (Cleaned plant plan c) (a ∷ (b ∷ rest))) a (b ∷ rest) keeps.cleaned);
}

next_from : (a b : Start) (plan : List Start) → a.unit ≡ b.unit → a.period < b.period → All (λ c. not (is_amid a b c) ≡ true) plan → is_next plan a b ≡ true
unfolding is_next
next_from a b plan same later none =
    and_from _ _ (and_from _ _ (eq-eqb a.unit b.unit same) (lt-ltb a.period b.period later)) (list_all-from_AllPass (λ c. not (is_amid a b c)) plan none)

step_from : (plant : Plant) (unit : ℕ) (plan : List Start) (a b : Start) (rest : List Start) → Keeps plant unit plan a (b ∷ rest) → Step plant unit plan a b
step_from plant unit plan a b rest keeps =
    let a_on = All-head (λ c. c.unit ≡ unit) a (b ∷ rest) keeps.on in
    let others = later_keep plant unit plan a b rest keeps in
    let b_on = All-head (λ c. c.unit ≡ unit) b rest others.on in
    let first : a.period < b.period = AllPairs-head IsEarlier a (b ∷ rest) keeps.rise 0 b (omega arith) in
    let none = none_amid unit plan a b rest a_on keeps.covers (AllPairs-head IsEarlier b rest others.rise) in
    let follows = next_from a b plan (a_on ∙ sym b_on) first none in
    let all = All-head (λ c. All (Cleaned plant plan c) (a ∷ (b ∷ rest))) a (b ∷ rest) keeps.cleaned in
    let cleaned : Cleaned plant plan a b = All-head (Cleaned plant plan a) b rest (All-tail (Cleaned plant plan a) a (b ∷ rest) all) in
    record {
      later = first;
      next = follows;
      over = subst (λ (u : ℕ). end_of plant a + gap_between plant u a.task b.task ≤ b.period) a_on (cleaned follows);
    }

follows_from : (plant : Plant) (unit : ℕ) (plan : List Start) (a : Start) (rest : List Start) → Keeps plant unit plan a rest → Follows plant unit plan a rest
follows_from plant unit plan a [] keeps = tt
follows_from plant unit plan a (b ∷ rest) keeps =
    (step_from plant unit plan a b rest keeps, follows_from plant unit plan b rest (later_keep plant unit plan a b rest keeps))

-- a start of the plan that fits is in one of its periods
pub period_less : (plant : Plant) (plan : List Start) → Sound plant → Feasible plant plan → All (λ c. c.period < plant.periods) plan
period_less plant plan sound is k d l =
    let c = get_or plan k d in
    let later = ends_later plant c sound (is.fits k d l) in
    let ends = (fit_parts plant c (is.fits k d l)).ends in
    omega (arith, later, ends)

all_follow : (plant : Plant) (unit : ℕ) (plan starts : List Start) → All (λ c. c.unit ≡ unit) starts → AllPairs IsEarlier starts → ((c : Start) → Contains plan c → c.unit ≡ unit → Contains starts c) →
    All (λ c. All (Cleaned plant plan c) starts) starts → FollowAll plant unit plan starts
all_follow plant unit plan [] on rise have cleaned = tt
all_follow plant unit plan (a ∷ rest) on rise have cleaned =
    follows_from plant unit plan a rest (record {
      on = on;
      rise = rise;
      covers = λ c there c_on after. elim (Contains-cases a rest c (have c there c_on)) [
        | inl e ↦ absurd (omega (arith, after, ap (λ (s : Start). s.period) e))
        | inr found ↦ found
      ];
      cleaned = cleaned;
    })

all_there : (plant : Plant) (unit : ℕ) (plan : List Start) → Sound plant → Feasible plant plan → (c : Start) → Contains plan c → c.unit ≡ unit → Contains (starts_before unit plan plant.periods) c
all_there plant unit plan sound is c there on = starts-have unit plan plant.periods c there on (All-contains (λ a. a.period < plant.periods) plan c (period_less plant plan sound is) there)

-- the starts of a feasible plan on the unit follow one another
pub starts-follow : (plant : Plant) (unit : ℕ) (plan : List Start) → Sound plant → Feasible plant plan → FollowAll plant unit plan (starts_before unit plan plant.periods)
starts-follow plant unit plan sound is =
    let starts = starts_before unit plan plant.periods in
    all_follow plant unit plan starts (starts-on unit plan plant.periods) (starts-rise plant unit plan plant.periods sound is)
    (all_there plant unit plan sound is)
    (All-starts (λ c. All (Cleaned plant plan c) starts) unit plan plant.periods
    (All-weaker (λ c. All (Cleaned plant plan c) plan) (λ c. All (Cleaned plant plan c) starts) (λ c all. All-starts (Cleaned plant plan c) unit plan plant.periods all) plan is.cleaned))

-- the first of some starts comes first in the plan
abbrev pub Opens : List Start → List Start → Type 0
Opens plan [] = Unit {0}
Opens plan (a ∷ rest) = is_first plan a ≡ true

first_from : (plan : List Start) (a : Start) → All (λ c. not (is_earlier c a) ≡ true) plan → is_first plan a ≡ true
unfolding is_first
first_from plan a none = list_all-from_AllPass (λ c. not (is_earlier c a)) plan none

none_earlier : (unit : ℕ) (plan : List Start) (a : Start) (rest : List Start) → a.unit ≡ unit → AllPairs IsEarlier (a ∷ rest) → ((c : Start) → Contains plan c → c.unit ≡ unit → Contains (a ∷ rest) c) → All (λ c. not (is_earlier c a) ≡ true) plan
none_earlier unit plan a rest on rise have k d l =
    let c = get_or plan k d in
    ap not (false_from_ne_true (is_earlier c a) (λ t.
    let both = and_parts (c.unit == a.unit) (nat_lt c.period a.period) t in
    let before = ltb-true c.period a.period both.1 in
    elim (Contains-cases a rest c (have c (contains_at plan k d l) (eqb-true c.unit a.unit both.0 ∙ on))) [
      | inl e ↦ omega (arith, before, ap (λ (s : Start). s.period) e)
      | inr there ↦ let after = All-contains (IsEarlier a) rest c (AllPairs-head IsEarlier a rest rise) there in omega (arith, before, after)
    ]))

all_open : (unit : ℕ) (plan starts : List Start) → All (λ c. c.unit ≡ unit) starts → AllPairs IsEarlier starts → ((c : Start) → Contains plan c → c.unit ≡ unit → Contains starts c) → Opens plan starts
all_open unit plan [] on rise have = tt
all_open unit plan (a ∷ rest) on rise have = first_from plan a (none_earlier unit plan a rest (All-head (λ c. c.unit ≡ unit) a rest on) rise have)

-- the first of a feasible plan's starts on the unit comes first in the plan
pub starts-open : (plant : Plant) (unit : ℕ) (plan : List Start) → Sound plant → Feasible plant plan → Opens plan (starts_before unit plan plant.periods)
starts-open plant unit plan sound is =
    all_open unit plan (starts_before unit plan plant.periods) (starts-on unit plan plant.periods) (starts-rise plant unit plan plant.periods sound is) (all_there plant unit plan sound is)
