-- The logs of a stem, their names, and the names in an answer.
use Rattle.std.proofs.Common.{◌≡◌, ℕ, ◌-◌, ◌<◌, ◌≤◌, List, [], ◌∷◌, ◌++◌, All, Bool, IsTrue, Option, codes, decimal, arith, subst, ap, ◌∙◌, append_assoc}
use Rattle.std.specs.Prelude.{ℤ, Result, Ok, Err, IfOk}
use Rattle.std.specs.Fmt.{signed_decimal}
use Rattle.std.proofs.lemmas.List.Elements.{All-tail}
use Rattle.std.proofs.lemmas.List.FromFn.{get_or-map-range_with_len, length-map-range_with_len}
use Rattle.stn_model.specs.declared.plant.Plant.{Plant}
use Rattle.stn_model.specs.declared.start.Start.{Start}
use Rattle.stn_model.specs.Sound.{Sound}
use Rattle.plan_text.specs.PlanLines.{plan_lines}
use Rattle.plan_text.specs.PlanText.{plan_of_text}
use Rattle.least_horizon.specs.declared.answer.LeastAnswer.{LeastAnswer}
use Rattle.least_horizon.specs.declared.answer.LeastAnswer.TheVariants.{At, Nowhere, Open}
use Rattle.shorter_plant.specs.PlantAt.{plant_at}
use Rattle.proof_log.specs.LogNames.{log_name}
use Rattle.least_horizon.specs.LogNames.{AreAllowed, OthersStayBelow}
use Rattle.least_horizon.specs.Least.{IsRight, IsLeast, IsStopped, untried}
use Rattle.shorter_plant.proofs.ShorterSound.{shorter_sound}
use Rattle.std.specs.Option.{option_map}
use Rattle.std.specs.FinMap.{get}
use Rattle.stn_edge.specs.Files.{FileMap}
use Rattle.command_replies.specs.Answers.{IsUnwritten}
use Rattle.command_replies.proofs.AnswerLemmas.{written}
use Rattle.command_replies.specs.declared.reply.Reply.{Reply}
use Rattle.horizon_commands.specs.Seeking.{log_names, least_status, least_text, EarnsMoney, NamesItems, Sought}
use Rattle.horizon_commands.proofs.LeastTexts.{least-reads-back, unit-within}
use Rattle.answer_texts.proofs.Named.{named-Feasible}

-- what holds of all names of logs holds of each
pub each_log : (P : List ℕ → Type 0) (stem : List ℕ) (horizon : ℕ) → All P (log_names stem horizon) → (g : ℕ) → 1 ≤ g → g < horizon → P (log_name stem g)
unfolding log_names
each_log P stem horizon all g some below =
    let long = length-map-range_with_len (log_name stem) 1 (horizon - 1) in
    subst P (get_or-map-range_with_len (log_name stem) 1 (horizon - 1) (g - 1) g [] (omega arith) (omega arith)) (all (g - 1) [] (omega arith))

-- names that may all be used, after a first one
pub logs_allowed : (may : List ℕ → Bool) (first stem : List ℕ) (horizon : ℕ) → All (λ name. IsTrue (may name)) (first ∷ log_names stem horizon) → AreAllowed may stem horizon
logs_allowed may first stem horizon all g some below =
    each_log (λ name. IsTrue (may name)) stem horizon (All-tail (λ name. IsTrue (may name)) first (log_names stem horizon) all) g some below

pub all_logs_allowed : (may : List ℕ → Bool) (stem : List ℕ) (horizon : ℕ) → All (λ name. IsTrue (may name)) (log_names stem horizon) → AreAllowed may stem horizon
all_logs_allowed may stem horizon all g some below = each_log (λ name. IsTrue (may name)) stem horizon all g some below

-- the plan within a shorter horizon names units and tasks of the plant
pub named-least : (plant : Plant) (said : LeastAnswer) → Sound plant → IsRight plant said → NamesItems plant said
unfolding plant_at
named-least plant (At horizon earned plan) sound right =
    λ k d within. let named = named-Feasible (plant_at plant horizon) plan (shorter_sound plant horizon sound right.0) right.1.1.0 k d within in record { unit = unit-within plant horizon _ named.unit; task = named.task }
named-least plant Nowhere sound right = tt
named-least plant (Open horizon) sound right = tt

-- a head followed by the lines of a plan is the text of an answer
pub found_text : (plant : Plant) (horizon : ℕ) (earned : ℤ) (plan : List Start) (head : List ℕ) → head ≡ codes "# least " ++ (decimal horizon ++ (codes "\n# feasible " ++ (signed_decimal earned ++ codes "\n")))
    → head ++ plan_lines plant plan ≡ least_text plant (At horizon earned plan)
unfolding least_text
found_text plant horizon earned plan head is = ap (λ (h : List ℕ). h ++ plan_lines plant plan) is ∙ simp append_assoc

-- a right least horizon and its text are an answer of `least`
pub sought_is : (plant : Plant) (budget : ℕ) (logs : ℕ → Option (List ℕ)) (Untouched : ℕ → Type 0) (said : LeastAnswer) (reply : Reply) → Sound plant → IsLeast plant budget logs said
    → Untouched (untried plant said) → EarnsMoney said → (reply.status ≡ least_status said) × (reply.text.items ≡ least_text plant said) → Sought budget plant logs Untouched reply.status reply.text.items
sought_is plant budget logs Untouched said reply sound right untouched money is = record {
  said = said;
  right = right;
  untouched = untouched;
  status_is = is.0;
  text_is = is.1;
  reads_back = ap (plan_of_text plant) is.1 ∙ least-reads-back plant said sound right.right money;
}

pub sought : {E : Type 0} (plant : Plant) (budget : ℕ) (logs : ℕ → Option (List ℕ)) (Untouched : ℕ → Type 0) (said : LeastAnswer) (r : Result Reply E) → Sound plant → IsLeast plant budget logs said
    → Untouched (untried plant said) → EarnsMoney said → IfOk r (λ reply. (reply.status ≡ least_status said) × (reply.text.items ≡ least_text plant said))
    → IfOk r (λ reply. Sought budget plant logs Untouched reply.status reply.text.items)
sought plant budget logs Untouched said (Ok reply) sound right untouched money is = sought_is plant budget logs Untouched said reply sound right untouched money is
sought plant budget logs Untouched said (Err e) sound right untouched money is = tt

-- files that stay while shorter horizons are tried stay while more are
stay_past : (stem : List ℕ) (n m : ℕ) (old new : Option FileMap) → n ≤ m → OthersStayBelow stem n old new → OthersStayBelow stem m old new
stay_past stem n m old new less stay = λ name differs. stay name (λ g some below. differs g some (omega arith))

untried_most : (plant : Plant) (said : LeastAnswer) → Sound plant → IsRight plant said → untried plant said ≤ 337
untried_most plant (At horizon earned plan) sound right = omega (arith, sound.counts.periods.1, right.0.1)
untried_most plant Nowhere sound right = omega (arith, sound.counts.periods.1)
untried_most plant (Open horizon) sound right = omega (arith, sound.counts.periods.1, right.0.1)

-- every file but the logs of a stem stays where a least horizon was found
pub found_stay : (plant : Plant) (said : LeastAnswer) (stem : List ℕ) (old new : Option FileMap) → Sound plant → IsRight plant said → OthersStayBelow stem (untried plant said) old new → OthersStayBelow stem 337 old new
found_stay plant said stem old new sound right stay = stay_past stem (untried plant said) 337 old new (untried_most plant said sound right) stay

-- and where it was stopped
pub stopped_stay : (plant : Plant) (budget : ℕ) (stem : List ℕ) (old new : Option FileMap) → Sound plant → IsStopped plant budget stem old new → OthersStayBelow stem 337 old new
stopped_stay plant budget stem old new sound is = λ name differs.
    is.others name (differs is.horizon is.within.0 (omega (arith, sound.counts.periods.1, is.within.1)))
    ∙ is.kept name (λ g some below. differs g some (omega (arith, sound.counts.periods.1, is.within.1)))

-- and where all files are as before
pub stay_below_same : (stem : List ℕ) (horizon : ℕ) (old new : Option FileMap) → new ≡ old → OthersStayBelow stem horizon old new
stay_below_same stem horizon old new same = λ name others. ap (λ (files : Option FileMap). option_map (λ m. get m name) files) same

-- the status of a least horizon is that of no refusal
pub sought-status : (said : LeastAnswer) (status : ℕ) → status ≡ least_status said → IsUnwritten status → ⊥
sought-status (At horizon earned plan) status is none = written status (λ s. omega (arith, is, s)) (λ s. omega (arith, is, s)) (λ s. omega (arith, is, s)) (λ s. omega (arith, is, s)) none
sought-status Nowhere status is none = written status (λ s. omega (arith, is, s)) (λ s. omega (arith, is, s)) (λ s. omega (arith, is, s)) (λ s. omega (arith, is, s)) none
sought-status (Open horizon) status is none = written status (λ s. omega (arith, is, s)) (λ s. omega (arith, is, s)) (λ s. omega (arith, is, s)) (λ s. omega (arith, is, s)) none
