-- When units are ready on the rolled plant, and what their first changeovers cost.
use Rattle.std.proofs.Common.{◌≡◌, ℕ, ◌+◌, ◌-◌, ◌<◌, ◌≤◌, false, cond, eqb, List, [], ◌∷◌, length, refl, sym, ap, ◌∙◌, subst, inl, inr, arith, Option, Some, None}
use Rattle.std.specs.Prelude.{ℤ, pos, negsuc, ◌+ℤ◌, ◌-ℤ◌, ◌≤ℤ◌, ◌<ℤ◌, ◌⊎◌, int_le, option_map, All, IsTrue}
use Rattle.std.proofs.lemmas.Int.{ints}
use Rattle.std.proofs.lemmas.Bool.{cases_Bool, cases_lt, cond-true, cond-false, and_parts, eqb-true}
use Rattle.std.proofs.lemmas.List.{get_or_past}
use Rattle.std.proofs.lemmas.List.Elements.{All-head, All-tail}
use Rattle.stn_model.specs.declared.plant.Plant.{Plant}
use Rattle.stn_model.specs.declared.plant.StnUnit.{StnUnit}
use Rattle.stn_model.specs.declared.plant.Last.{Last}
use Rattle.stn_model.specs.declared.plant.Gap.{Gap}
use Rattle.stn_model.specs.declared.start.Start.{Start}
use Rattle.stn_model.specs.Sums.{greatest_by}
use Rattle.stn_model.specs.Plant.{unit_at, no_unit, gap_between, cost_between, is_between, from_begin, ready_after, ready_at, cost_after, first_cost}
use Rattle.stn_model.specs.Sound.{Sound, SoundGap}
use Rattle.stn_model.proofs.Fitting.{placed-Fits}
use Rattle.stn_model.specs.Fits.{is_fit}
use Rattle.rolled_plant.specs.Lists.{map_from}
use Rattle.rolled_plant.specs.Kept.{IsMendable}
use Rattle.rolled_plant.specs.Begin.{is_last, is_latest, latest, last_after, last_behind, seen_from, last_seen}
use Rattle.rolled_plant.specs.RolledPlant.{rolled_plant, rolled_unit}
use Rattle.rolled_plant.proofs.Basics.{get_or-map_zero, length-map_from}
use Rattle.rolled_plant.proofs.Joined.{found_at}

-- ---- times

begin_within : (z : ℤ) (q : ℕ) → from_begin z ≤ q → z ≤ℤ pos q
begin_within (pos n) q h = omega (arith, ints)
begin_within (negsuc n) q h = omega (arith, ints)

within_begin : (z : ℤ) (q : ℕ) → z ≤ℤ pos q → from_begin z ≤ q
within_begin (pos n) q h = omega (arith, ints)
within_begin (negsuc n) q h = omega arith

-- a time is seen as it is, or it was earlier than -336 and is seen as that
abbrev IsSeen : ℤ → ℕ → ℤ → Type 0
IsSeen until period seen = (seen ≡ until -ℤ pos period) ⊎ ((seen ≡ negsuc 335) × ((until -ℤ pos period) <ℤ negsuc 335))

not_at_most : (a b : ℤ) → int_le a b ≡ false → b <ℤ a
not_at_most a b e = grind (arith, ints)

is_seen : (until : ℤ) (period : ℕ) → IsSeen until period (seen_from period until)
is_seen until period =
    let z = until -ℤ pos period in
    elim (cases_Bool (int_le (negsuc 335) z)) [
      | inl t ↦ inl (cond-true {A = ℤ} (int_le (negsuc 335) z) z (negsuc 335) t)
      | inr f ↦ inr (cond-false {A = ℤ} (int_le (negsuc 335) z) z (negsuc 335) f, not_at_most (negsuc 335) z f)
    ]

seen_there : (until : ℤ) (period gap q : ℕ) (seen : ℤ) → gap ≤ 336 → IsSeen until period seen → from_begin (seen +ℤ pos gap) ≤ q → from_begin (until +ℤ pos gap) ≤ period + q
seen_there until period gap q seen short is h =
    let here = begin_within (seen +ℤ pos gap) q h in
    within_begin (until +ℤ pos gap) (period + q)
    (elim is [
      | inl e ↦ omega (arith, ints, e, here)
      | inr lost ↦ (let early = lost.1 in omega (arith, ints, early, short))
    ])

seen_here : (until : ℤ) (period gap q : ℕ) (seen : ℤ) → gap ≤ 336 → IsSeen until period seen → from_begin (until +ℤ pos gap) ≤ period + q → from_begin (seen +ℤ pos gap) ≤ q
seen_here until period gap q seen short is h =
    let there = begin_within (until +ℤ pos gap) (period + q) h in
    within_begin (seen +ℤ pos gap) q
    (elim is [
      | inl e ↦ omega (arith, ints, e, there)
      | inr lost ↦ (let e = lost.0 in omega (arith, ints, e, short))
    ])

short_gaps : (plant : Plant) (unit from to : ℕ) (gaps : List Gap) → All (SoundGap plant) gaps → greatest_by (λ gap. cond (is_between unit from to gap) gap.periods 0) gaps ≤ 336
short_gaps plant unit from to [] sound = omega arith
short_gaps plant unit from to (gap ∷ gaps) sound =
    let rest = short_gaps plant unit from to gaps (All-tail (SoundGap plant) gap gaps sound) in
    let most = (All-head (SoundGap plant) gap gaps sound).periods in
    elim (cases_Bool (is_between unit from to gap)) [
      | inl t ↦ (let value = cond-true {A = ℕ} (is_between unit from to gap) gap.periods 0 t in omega (arith, value, most, rest))
      | inr f ↦ (let value = cond-false {A = ℕ} (is_between unit from to gap) gap.periods 0 f in omega (arith, value, rest))
    ]

-- no cleaning takes longer than the longest horizon
short_gap : (plant : Plant) (unit from to : ℕ) → Sound plant → gap_between plant unit from to ≤ 336
unfolding gap_between
short_gap plant unit from to sound = short_gaps plant unit from to plant.gaps sound.gaps

-- ---- units

-- a start before the period is on a unit that is there
latest_there : (plant : Plant) (before : List Start) (period unit : ℕ) (o : Option Start) → Sound plant → IsMendable plant before period → latest before unit ≡ o → length plant.units ≤ unit → o ≡ None
unfolding latest
latest_there plant before period unit None sound on is out = refl
latest_there plant before period unit (Some a) sound on is out =
    let found = found_at (is_latest before unit) before a is in
    let fits = subst (λ (s : Start). IsTrue (is_fit plant s)) found.2 (on.fits found.0 a found.1) in
    let placed = (placed-Fits plant a sound fits).unit in
    let same : a.unit ≡ unit = eqb-true a.unit unit (and_parts (eqb a.unit unit) (is_last before a) found.3).0 in
    absurd (omega arith)

-- the batch that holds a unit of the rolled plant last
unit_last : (plant : Plant) (before : List Start) (period unit : ℕ) → Sound plant → IsMendable plant before period → (unit_at (rolled_plant plant before period) unit).last ≡ option_map (last_seen period) (last_behind plant before unit)
unfolding rolled_plant last_behind
unit_last plant before period unit sound on =
    elim (cases_lt unit (length plant.units)) [
      | inl l ↦ ap (λ (u : StnUnit). u.last) (get_or-map_zero (rolled_unit plant before period) plant.units unit no_unit no_unit l)
      | inr l ↦
          ap (λ (u : StnUnit). u.last) (get_or_past (map_from (rolled_unit plant before period) 0 plant.units) unit no_unit (omega (arith, l, length-map_from (rolled_unit plant before period) 0 plant.units)))
          ∙ sym (ap (λ (o : Option Start). option_map (last_seen period) (last_after plant o (unit_at plant unit).last)) (latest_there plant before period unit (latest before unit) sound on refl l)
          ∙ ap (λ (u : StnUnit). option_map (last_seen period) u.last) (get_or_past plant.units unit no_unit l))
    ]

ready_same : (plant : Plant) (before : List Start) (period unit task : ℕ) (o : Option Last) → ready_after (rolled_plant plant before period) unit task o ≡ ready_after plant unit task o
unfolding gap_between rolled_plant
ready_same plant before period unit task None = refl
ready_same plant before period unit task (Some last) = refl

ready_is : (plant : Plant) (before : List Start) (period unit task : ℕ) → Sound plant → IsMendable plant before period
    → ready_at (rolled_plant plant before period) unit task ≡ ready_after plant unit task (option_map (last_seen period) (last_behind plant before unit))
unfolding ready_at
ready_is plant before period unit task sound on =
    ap (ready_after (rolled_plant plant before period) unit task) (unit_last plant before period unit sound on)
    ∙ ready_same plant before period unit task (option_map (last_seen period) (last_behind plant before unit))

seen_ready_there : (plant : Plant) (period unit task q : ℕ) (o : Option Last) → Sound plant → ready_after plant unit task (option_map (last_seen period) o) ≤ q → ready_after plant unit task o ≤ period + q
seen_ready_there plant period unit task q None sound h = omega arith
seen_ready_there plant period unit task q (Some last) sound h =
    seen_there last.until period (gap_between plant unit last.task task) q (seen_from period last.until) (short_gap plant unit last.task task sound) (is_seen last.until period) h

seen_ready_here : (plant : Plant) (period unit task q : ℕ) (o : Option Last) → Sound plant → ready_after plant unit task o ≤ period + q → ready_after plant unit task (option_map (last_seen period) o) ≤ q
seen_ready_here plant period unit task q None sound h = omega arith
seen_ready_here plant period unit task q (Some last) sound h =
    seen_here last.until period (gap_between plant unit last.task task) q (seen_from period last.until) (short_gap plant unit last.task task sound) (is_seen last.until period) h

-- a first batch may begin on the rolled plant where it may on the plant, after the batch that holds its unit last
pub ready_there : (plant : Plant) (before : List Start) (period unit task q : ℕ) → Sound plant → IsMendable plant before period
    → ready_at (rolled_plant plant before period) unit task ≤ q → ready_after plant unit task (last_behind plant before unit) ≤ period + q
ready_there plant before period unit task q sound on h =
    let is = ready_is plant before period unit task sound on in
    seen_ready_there plant period unit task q (last_behind plant before unit) sound (omega (arith, is, h))

pub ready_here : (plant : Plant) (before : List Start) (period unit task q : ℕ) → Sound plant → IsMendable plant before period
    → ready_after plant unit task (last_behind plant before unit) ≤ period + q → ready_at (rolled_plant plant before period) unit task ≤ q
ready_here plant before period unit task q sound on h =
    let is = ready_is plant before period unit task sound on in
    let seen = seen_ready_here plant period unit task q (last_behind plant before unit) sound h in
    omega (arith, is, seen)

-- ---- what first changeovers cost

cost_same : (plant : Plant) (before : List Start) (period unit task : ℕ) (o : Option Last) → cost_after (rolled_plant plant before period) unit task (option_map (last_seen period) o) ≡ cost_after plant unit task o
unfolding cost_between rolled_plant
cost_same plant before period unit task None = refl
cost_same plant before period unit task (Some last) = refl

pub first_cost_is : (plant : Plant) (before : List Start) (period unit task : ℕ) → Sound plant → IsMendable plant before period
    → first_cost (rolled_plant plant before period) unit task ≡ cost_after plant unit task (last_behind plant before unit)
unfolding first_cost
first_cost_is plant before period unit task sound on =
    ap (cost_after (rolled_plant plant before period) unit task) (unit_last plant before period unit sound on)
    ∙ cost_same plant before period unit task (last_behind plant before unit)
