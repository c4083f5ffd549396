-- What is found by looking through the starts of a plan, unit by unit.
use Rattle.std.specs.Prelude.{◌≡◌, ◌≢◌, ℕ, ◌<◌, ◌≤◌, List, length}
use Rattle.stn_model.specs.declared.plant.Plant.{Plant}
use Rattle.stn_model.specs.declared.start.Start.{Start}
use Rattle.stn_model.specs.Fits.{Fits}
use Rattle.stn_model.specs.Batches.{Apart}
use Rattle.stn_model.specs.Violations.{start_at, TooEarly, TooSoon}

-- each of the first n starts fits
abbrev pub FitUntil : Plant → List Start → ℕ → Type 0
FitUntil plant plan n = (place : ℕ) → place < n → Fits plant (start_at plan place)

-- the start at this place is the first that does not fit
pub record IsFirstUnfit (plant : Plant) (plan : List Start) (place : ℕ) : Type 0 where
  pub there : place < length plan
  pub unfit : ¬ Fits plant (start_at plan place)
  pub earlier : FitUntil plant plan place

-- the batch at the first place keeps apart from all between the two places
abbrev pub ApartUntil : Plant → List Start → ℕ → ℕ → Type 0
ApartUntil plant plan first end = (place : ℕ) → first < place → place < end → Apart plant (start_at plan first) (start_at plan place)

-- the batch at the second place is the first after the first place that meets it
pub record IsFirstMeeting (plant : Plant) (plan : List Start) (first second : ℕ) : Type 0 where
  pub after : first < second
  pub there : second < length plan
  pub meets : ¬ Apart plant (start_at plan first) (start_at plan second)
  pub between : ApartUntil plant plan first second

-- the start comes later on the same unit
abbrev pub IsLater : Start → Start → Type 0
IsLater a b = (b.unit ≡ a.unit) × (a.period < b.period)

-- no two starts of a unit share a period
abbrev pub NoTwins : List Start → Type 0
NoTwins plan = (i j : ℕ) → i < j → j < length plan → (start_at plan i).unit ≡ (start_at plan j).unit → (start_at plan i).period ≢ (start_at plan j).period

-- none of the first n starts comes later on the unit of a
abbrev pub NoneLater : List Start → ℕ → Start → Type 0
NoneLater plan n a = (place : ℕ) → place < n → ¬ IsLater a (start_at plan place)

-- the start at the place is the nearest later one on the unit of a, among the first n of the plan
pub record IsNearest (plan : List Start) (n : ℕ) (a : Start) (place : ℕ) : Type 0 where
  pub there : place < n
  pub later : IsLater a (start_at plan place)
  pub nearest : (other : ℕ) → other < n → IsLater a (start_at plan other) → (start_at plan place).period ≤ (start_at plan other).period

-- no two batches of one unit meet
abbrev pub ApartThroughout : Plant → List Start → Type 0
ApartThroughout plant plan = (first : ℕ) → first < length plan → ApartUntil plant plan first (length plan)

-- the pair of places is the first whose batches meet
pub record IsFirstBusy (plant : Plant) (plan : List Start) (first second : ℕ) : Type 0 where
  pub meeting : IsFirstMeeting plant plan first second
  pub earlier : (place : ℕ) → place < first → ApartUntil plant plan place (length plan)

-- none of the first n starts is too early after the batch that held its unit last
abbrev pub BegunUntil : Plant → List Start → ℕ → Type 0
BegunUntil plant plan n = (place : ℕ) → place < n → ¬ TooEarly plant plan (start_at plan place)

-- the start at this place is the first that is too early after the batch that held its unit last
pub record IsFirstEarly (plant : Plant) (plan : List Start) (place : ℕ) : Type 0 where
  pub there : place < length plan
  pub early : TooEarly plant plan (start_at plan place)
  pub earlier : BegunUntil plant plan place

-- no start follows a too soon
abbrev pub NoneTooSoon : Plant → List Start → Start → Type 0
NoneTooSoon plant plan a = (place : ℕ) → place < length plan → ¬ TooSoon plant plan a (start_at plan place)

-- the start at the place is the one that follows a too soon
pub record FollowsTooSoon (plant : Plant) (plan : List Start) (a : Start) (place : ℕ) : Type 0 where
  pub there : place < length plan
  pub soon : TooSoon plant plan a (start_at plan place)
  pub only : (other : ℕ) → other < length plan → TooSoon plant plan a (start_at plan other) → other ≡ place

-- no start follows one of the first n too soon
abbrev pub CleanedUntil : Plant → List Start → ℕ → Type 0
CleanedUntil plant plan n = (place : ℕ) → place < n → NoneTooSoon plant plan (start_at plan place)

-- the pair of places is the first whose batches follow each other too soon
pub record IsFirstGap (plant : Plant) (plan : List Start) (first second : ℕ) : Type 0 where
  pub there : first < length plan
  pub follows : FollowsTooSoon plant plan (start_at plan first) second
  pub earlier : CleanedUntil plant plan first

-- the units are kept: starts fit, batches keep apart, first ones are not too early, and units are cleaned
pub record UnitsKept (plant : Plant) (plan : List Start) : Type 0 where
  pub fit : FitUntil plant plan (length plan)
  pub apart : ApartThroughout plant plan
  pub begun : BegunUntil plant plan (length plan)
  pub cleaned : CleanedUntil plant plan (length plan)
