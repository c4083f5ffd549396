-- Starts that are kept of a plan, and those that are moved.
use Rattle.std.proofs.Common.{◌≡◌, ℕ, ◌<◌, ◌≤◌, ◌^◌, Bool, true, false, not, cond, List, [], ◌∷◌, length, Option, Some, refl, inl, inr, ap, subst, ◌∙◌, arith}
use Rattle.std.specs.Prelude.{All, ⊤, filter, MatchOption}
use Rattle.std.proofs.lemmas.Bool.{cases_Bool, ltb-true}
use Rattle.std.proofs.lemmas.List.{length-map}
use Rattle.std.proofs.lemmas.List.Elements.{All-nil, All-cons, All-head, All-tail, All-map}
use Rattle.std.proofs.lemmas.List.Filters.{length-filter_both}
use Rattle.stn_model.specs.declared.plant.Plant.{Plant}
use Rattle.stn_model.specs.declared.start.Start.{Start}
use Rattle.stn_model.specs.Sound.{Sound}
use Rattle.plan_text.specs.PlanLines.{plan_lines}
use Rattle.plan_text.specs.PlanText.{plan_of_text}
use Rattle.plan_text.specs.ReadsBack.{IsWritable, SaysAgain}
use Rattle.plan_text.specs.Published.{most_lines}
use Rattle.rolled_plant.specs.Kept.{is_before, kept, moved, sooner}
use Rattle.rolled_plant.specs.RolledPlant.{rolled_plant, rolled_unit}
use Rattle.rolled_plant.proofs.Basics.{length-map_from}
use Rattle.plan_commands.specs.Rolling.{IsRestFile}

-- what holds of each item that passes, where it follows of each item
filtered : {X : Type 0} (P Q : X → Type 0) (p : X → Bool) (xs : List X) → ((x : X) → P x → p x ≡ true → Q x) → All P xs → All Q (filter p xs)
filtered P Q p [] step all = All-nil Q
filtered P Q p (x ∷ xs) step all =
    let more = filtered P Q p xs step (All-tail P x xs all) in
    elim (cases_Bool (p x)) [
      | inl is ↦ rw is (All-cons Q x (filter p xs) (step x (All-head P x xs all) is) more)
      | inr none ↦ rw none more
    ]

-- no more items pass than there are
length-filtered : {X : Type 0} (p : X → Bool) (xs : List X) → length (filter p xs) ≤ length xs
length-filtered p xs = omega (arith, length-filter_both p (λ x. not (p x)) (λ x. refl) xs)

-- the starts before a period are before it
pub kept-earlier : (plan : List Start) (period : ℕ) → All (λ start. start.period < period) (kept plan period)
unfolding kept
kept-earlier plan period = filtered (λ _. ⊤) (λ start. start.period < period) (is_before period) plan (λ start _ is. ltb-true start.period period is) (λ k d within. tt)

-- and no more than all
pub kept-few : (plan : List Start) (period : ℕ) → length (kept plan period) ≤ length plan
unfolding kept
kept-few plan period = length-filtered (is_before period) plan

-- a plan file has at most 4,096 lines
lines-most : (large : Bool) → cond large 4096 2048 ≤ 4096
lines-most true = omega arith
lines-most false = omega arith

-- so the starts before a period are few
pub kept-short : (plant : Plant) (plan : List Start) (period : ℕ) → length plan ≤ most_lines plant → length (kept plan period) < 2 ^ 32
kept-short plant plan period few = omega (arith, kept-few plan period, few, lines-most plant.large)

-- those from it on are no more than a plan file of the rolled plant may have
pub moved-few : (plant : Plant) (before plan : List Start) (period : ℕ) → length plan ≤ most_lines plant → length (moved plan period) ≤ most_lines (rolled_plant plant before period)
unfolding moved rolled_plant
moved-few plant before plan period few =
    let later = filter (λ (start : Start). not (is_before period start)) plan in
    omega (arith, length-map later (sooner period), length-filtered (λ (start : Start). not (is_before period start)) plan, few, lines-most plant.large)

-- a start that can be written for a plant can be written for the rolled plant
moved-start : (plant : Plant) (before : List Start) (period : ℕ) (start : Start) → IsWritable plant start → IsWritable (rolled_plant plant before period) (sooner period start)
unfolding rolled_plant
moved-start plant before period start can =
    let units = length-map_from (rolled_unit plant before period) 0 plant.units in
    record {
      named = record { unit = omega (arith, units, can.named.unit); task = can.named.task };
      period = omega (arith, can.period);
      quanta = can.quanta;
    }

-- so can those from the period on
pub moved-writable : (plant : Plant) (before plan : List Start) (period : ℕ) → All (IsWritable plant) plan → All (IsWritable (rolled_plant plant before period)) (moved plan period)
unfolding moved
moved-writable plant before plan period can =
    let rolled = rolled_plant plant before period in
    All-map (IsWritable rolled) (sooner period) (filter (λ (start : Start). not (is_before period start)) plan)
    (filtered (IsWritable plant) (λ start. IsWritable rolled (sooner period start)) (λ start. not (is_before period start)) plan (λ start is _. moved-start plant before period start is) can)

-- lines that say a plan again are its file
pub rest_file : (rolled : Plant) (plan starts : List Start) (text : List ℕ) → Sound rolled → length plan ≤ most_lines rolled → All (IsWritable rolled) plan → starts ≡ plan → text ≡ plan_lines rolled starts → SaysAgain rolled starts → IsRestFile rolled plan text
unfolding SaysAgain
rest_file rolled plan starts text sound few can same lines again =
    let whole : text ≡ plan_lines rolled plan = lines ∙ ap (plan_lines rolled) same in
    let says : SaysAgain rolled plan = subst (λ (ss : List Start). SaysAgain rolled ss) same again in
    record { lines = whole; reads = ap (plan_of_text rolled) whole ∙ says sound few can }

-- what holds exactly where there is a thing holds where there is one
pub holds-there : {X : Type 0} (Holds : Type 0) (made : Option X) (x : X) → made ≡ Some x → MatchOption made (¬ Holds) (λ _. Holds) → Holds
holds-there Holds made x is holds = rw is at holds
