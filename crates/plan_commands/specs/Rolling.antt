-- The answer of `roll`, and when it is right.
use Rattle.std.specs.Prelude.{◌≡◌, ◌⊎◌, ◌≤◌, ◌<◌, ℕ, ◌+◌, ℤ, Bool, true, false, Ok, List, [], ◌++◌, codes}
use Rattle.stn_model.specs.declared.plant.Plant.{Plant}
use Rattle.stn_model.specs.declared.start.Start.{Start}
use Rattle.stn_model.specs.declared.violation.Violation.{Violation}
use Rattle.plan_text.specs.PlanLines.{plan_lines}
use Rattle.plan_text.specs.PlanText.{plan_of_text}
use Rattle.plant_make.specs.Meaning.{Puts}
use Rattle.rolled_plant.specs.Kept.{kept, moved, IsMendable}
use Rattle.rolled_plant.specs.RolledPlant.{rolled_plant}
use Rattle.rolled_plant.specs.FitsFile.{FitsFile}
use Rattle.rolled_plant.specs.RollLaw.{date_at, earned_before, GoesOnWith, RestGoesOn}
use Rattle.rolled_plant.specs.Unmended.{BreaksBefore}
use Rattle.answer_texts.specs.Lines.{amount_line}
use Rattle.answer_texts.specs.Simulation.{violation_text}

-- the period is not before the plant's horizon, and is refused
pub record IsLatePeriod (plant : Plant) (period status : ℕ) (text : List ℕ) : Type 0 where
  pub late : plant.periods ≤ period
  pub status_is : status ≡ 5
  pub text_is : text ≡ codes "refused period\n"

-- the starts before the period break something that no later start mends, and the reply says the first that they break
pub record IsBrokenBefore (plant : Plant) (before : List Start) (period status : ℕ) (text : List ℕ) : Type 0 where
  pub within : period < plant.periods
  pub violation : Violation
  pub breaks : BreaksBefore plant before period violation
  pub status_is : status ≡ 1
  pub text_is : text ≡ violation_text plant violation

-- the starts before the period go on, but no plant file can say the rolled plant, which has too many receipts or a calendar that begins
-- past the year 9999, and it is refused
pub record FitsNoFile (plant : Plant) (before : List Start) (period status : ℕ) (text : List ℕ) : Type 0 where
  pub within : period < plant.periods
  pub goes_on : IsMendable plant before period
  pub unfit : ¬ FitsFile plant before period
  pub status_is : status ≡ 5
  pub text_is : text ≡ codes "refused roll\n"

-- the text begins with the line on what was earned before, and is as a whole a plant file that means the rolled plant
pub record IsRolledFile (earned : ℤ) (rolled : Plant) (text : List ℕ) : Type 0 where
  pub file : List ℕ
  pub line : text ≡ amount_line (codes "# rolled ") earned ++ file
  pub puts : Puts rolled [] text

-- the text is the lines of the plan, and is read as that plan of the rolled plant
pub record IsRestFile (rolled : Plant) (plan : List Start) (text : List ℕ) : Type 0 where
  pub lines : text ≡ plan_lines rolled plan
  pub reads : plan_of_text rolled text ≡ Ok plan

-- what is printed: the rolled plant behind what was earned before, or the rest of the plan
abbrev pub IsRolledText : Bool → Plant → List Start → List Start → ℕ → List ℕ → Type 0
IsRolledText false plant before after period text = IsRolledFile (earned_before plant before period) (rolled_plant plant before period) text
IsRolledText true plant before after period text = IsRestFile (rolled_plant plant before period) after text

-- The plant is rolled to the period. The starts before it go on, so that a list of starts is a feasible plan of the rolled plant exactly
-- where the plant carries it out behind them, and there it earns what it earns on the rolled plant and what was earned before; and so
-- it is with the plan that was given and what is left of it. The clock of the rolled plant shows at each time what that of the plant
-- shows so many periods later.
pub record IsRolled (rest : Bool) (plant : Plant) (starts before after : List Start) (period status : ℕ) (text : List ℕ) : Type 0 where
  pub within : period < plant.periods
  pub goes_on : IsMendable plant before period
  pub fits : FitsFile plant before period
  pub law : (list : List Start) → GoesOnWith plant before period list
  pub plan : RestGoesOn plant starts period
  pub dates : (time : ℕ) → date_at (rolled_plant plant before period) time ≡ date_at plant (period + time)
  pub status_is : status ≡ 0
  pub text_is : IsRolledText rest plant before after period text

-- the answer over the starts before the period and those from it on: that they break something, that no plant file can say the rolled
-- plant, or the plant, or the rest of the plan
abbrev pub RolledOn : Bool → Plant → List Start → List Start → List Start → ℕ → ℕ → List ℕ → Type 0
RolledOn rest plant starts before after period status text =
    IsBrokenBefore plant before period status text ⊎ (FitsNoFile plant before period status text ⊎ IsRolled rest plant starts before after period status text)

-- the answer of `roll` on a plant and a plan: that the period is not before the horizon, or that over the starts of the plan before it
-- and from it on
abbrev pub Rolled : Bool → ℕ → Plant → List Start → ℕ → List ℕ → Type 0
Rolled rest period plant starts status text =
    IsLatePeriod plant period status text ⊎ RolledOn rest plant starts (kept starts period) (moved starts period) period status text
