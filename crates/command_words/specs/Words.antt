-- The words of a command.
use Rattle.std.specs.Prelude.{◌≡◌, ◌≢◌, ℕ, ℤ, ◌<◌, ◌≤◌, ◌^◌, unsigned_abs, Bool, true, false, List, [], ◌∷◌, map, codes, decimal, Option, Some, None, IfSome}
use Rattle.std.specs.Option.{option_map}
use Rattle.std.specs.Fmt.{signed_decimal}
use Rattle.proof_log.specs.LogNames.{log_name}
use Rattle.std.specs.Borrow.{Bor}
use Rattle.command_words.specs.declared.uses.PlantUse.{PlantUse}
use Rattle.command_words.specs.declared.uses.PlantUse.TheVariants.{Upgrade, Slots}
use Rattle.command_words.specs.declared.uses.PlanUse.{PlanUse}
use Rattle.command_words.specs.declared.uses.PlanUse.TheVariants.{Simulate, Report, Picture, Table, Violations}
use Rattle.command_words.specs.declared.uses.LogUse.{LogUse}
use Rattle.command_words.specs.declared.uses.LogUse.TheVariants.{Check, Plan}
use Rattle.plan_tables.specs.declared.kind.TableKind.{TableKind}
use Rattle.plan_tables.specs.declared.kind.TableKind.TheVariants.{Batches, Stocks, Loads, Units, Deliveries}
use Rattle.command_words.specs.declared.share.Share.{Share}
use Rattle.command_words.specs.declared.command.Command as declared
use Rattle.command_words.specs.declared.command.Command.TheVariants as variants

-- what a planner asks for
pub data Request : Type 0 where
  Solving : (plant : List ℕ) (budget : ℕ) → Request
  Logging : (plant : List ℕ) (budget : ℕ) (log : List ℕ) → Request
  Printing : (usage : PlantUse) (plant : List ℕ) → Request
  Simulating : (usage : PlanUse) (plant plan : List ℕ) → Request
  Telling : (usage : LogUse) (plant log : List ℕ) → Request
  Showing : (seed : ℕ) → Request
  Replanning : (plant plan : List ℕ) (period budget : ℕ) → Request
  ReplanLogging : (plant plan : List ℕ) (period budget : ℕ) (log : List ℕ) → Request
  CheckingReplan : (plant plan : List ℕ) (period : ℕ) (log : List ℕ) → Request
  Rolling : (plant plan : List ℕ) (period : ℕ) (rest : Bool) → Request
  Improving : (plant plan : List ℕ) (budget : ℕ) (log : Option (List ℕ)) → Request
  Estimating : (plant log state : List ℕ) (step : ℤ) (count : ℕ) → Request
  Seeking : (plant : List ℕ) (budget : ℕ) → Request
  Tracing : (plant : List ℕ) (budget : ℕ) (stem : List ℕ) → Request
  Auditing : (plant : List ℕ) (horizon : ℕ) (stem : List ℕ) → Request
  Conflicting : (plant : List ℕ) (budget : ℕ) → Request
  ConflictLogging : (plant : List ℕ) (budget : ℕ) (stem : List ℕ) → Request
  CheckingConflict : (plant stem : List ℕ) → Request
  Parting : (plant : List ℕ) (levels : ℕ) → Request
  PartSolving : (plant : List ℕ) (levels part budget : ℕ) (log : List ℕ) → Request
  Joining : (plant : List ℕ) (levels : ℕ) (stem log : List ℕ) → Request
  Resuming : (plant log : List ℕ) (budget : ℕ) (out : List ℕ) (share : Option (ℕ × ℕ)) → Request
  Merging : (plant stem : List ℕ) (count : ℕ) (out : List ℕ) → Request

-- the first word of a command that prints what a plant holds
abbrev pub plant_word : PlantUse → List ℕ
plant_word Upgrade = codes "upgrade"
plant_word Slots = codes "slots"

-- the first word of a command that tells what a log shows
abbrev pub log_word : LogUse → List ℕ
log_word Check = codes "check"
log_word Plan = codes "plan"

-- the first word of a command that simulates a plan
abbrev pub use_word : PlanUse → List ℕ
use_word Simulate = codes "simulate"
use_word Report = codes "report"
use_word Picture = codes "picture"
use_word Violations = codes "violations"
use_word (Table kind) = codes "table"

-- the word that names a table, if one does: the batches need none
abbrev pub kind_words : TableKind → List (List ℕ)
kind_words Batches = []
kind_words Stocks = codes "stocks" ∷ []
kind_words Loads = codes "loads" ∷ []
kind_words Units = codes "units" ∷ []
kind_words Deliveries = codes "deliveries" ∷ []

-- the words of such a command after its files
abbrev pub last_words : PlanUse → List (List ℕ)
last_words (Table kind) = kind_words kind
last_words _ = []

-- the bytes of the words
abbrev pub texts : List (Bor (List ℕ)) → List (List ℕ)
texts words = map (λ word. word.now) words

-- the word is a budget in decimal digits, without sign and leading zeros
pub record IsBudget (word : List ℕ) (budget : ℕ) : Type 0 where
  pub digits : word ≡ decimal budget
  pub some : 1 ≤ budget
  pub most : budget ≤ 100000

-- the word is a seed in decimal digits, without sign and leading zeros
pub record IsSeed (word : List ℕ) (seed : ℕ) : Type 0 where
  pub digits : word ≡ decimal seed
  pub most : seed < 2 ^ 32

-- the word is a period in decimal digits, without sign and leading zeros
pub record IsPeriod (word : List ℕ) (period : ℕ) : Type 0 where
  pub digits : word ≡ decimal period
  pub most : period ≤ 336

-- the word is a step: decimal digits without leading zeros, after a minus where it is below 0
pub record IsStep (word : List ℕ) (step : ℤ) : Type 0 where
  pub digits : word ≡ signed_decimal step
  pub most : unsigned_abs step ≤ 1000000000

-- the word is a number of steps in decimal digits, without sign and leading zeros
pub record IsStepCount (word : List ℕ) (count : ℕ) : Type 0 where
  pub digits : word ≡ decimal count
  pub some : 1 ≤ count
  pub most : count ≤ 50

-- the word is a horizon, or the number after the last, in decimal digits, without sign and leading zeros
pub record IsHorizon (word : List ℕ) (horizon : ℕ) : Type 0 where
  pub digits : word ≡ decimal horizon
  pub some : 1 ≤ horizon
  pub most : horizon ≤ 337

-- the file is the log of no horizon of the stem
abbrev pub IsNoLog : List ℕ → List ℕ → Type 0
IsNoLog file stem = (g : ℕ) → 1 ≤ g → g ≤ 336 → file ≢ log_name stem g

-- the file is neither STEM.0 nor STEM.1
abbrev pub IsNeither : List ℕ → List ℕ → Type 0
IsNeither file stem = (number : ℕ) → number < 2 → file ≢ log_name stem number

-- the word is a number of levels in decimal digits, without sign and leading zeros
pub record IsLevels (word : List ℕ) (levels : ℕ) : Type 0 where
  pub digits : word ≡ decimal levels
  pub some : 1 ≤ levels
  pub most : levels ≤ 8

-- the word is the number of one of the parts of so many levels, in decimal digits, without sign and leading zeros
pub record IsPartNumber (word : List ℕ) (levels part : ℕ) : Type 0 where
  pub digits : word ≡ decimal part
  pub within : part < 2 ^ levels

-- the file is the log of none of the parts of so many levels
abbrev pub IsNoPartLog : List ℕ → List ℕ → ℕ → Type 0
IsNoPartLog file stem levels = (part : ℕ) → part < 2 ^ levels → file ≢ log_name stem part

-- the last word of a command whose log may be named, if it is
abbrev pub log_words : Option (List ℕ) → List (List ℕ)
log_words None = []
log_words (Some log) = log ∷ []

-- the last word where the rest of the plan is asked for and not the plant
abbrev pub rest_words : Bool → List (List ℕ)
rest_words false = []
rest_words true = codes "plan" ∷ []

-- the words are the number of a share and how many shares there are, in decimal digits, without sign and leading zeros
pub record AreShares (word words : List ℕ) (number shares : ℕ) : Type 0 where
  pub digits : word ≡ decimal number
  pub all_digits : words ≡ decimal shares
  pub within : number < shares
  pub most : shares ≤ 256

-- the words that say a share are these, if there is one
abbrev pub SayShare : List (List ℕ) → Option (ℕ × ℕ) → Type 0
SayShare words None = words ≡ []
SayShare words (Some share) = (word : List ℕ) × ((all : List ℕ) × ((words ≡ word ∷ all ∷ []) × AreShares word all share.0 share.1))

-- the word is a number of logs in decimal digits, without sign and leading zeros
pub record IsLogCount (word : List ℕ) (count : ℕ) : Type 0 where
  pub digits : word ≡ decimal count
  pub some : 1 ≤ count
  pub most : count ≤ 256

-- a log has a name, and is not written over the plant or the other file that is read
pub record IsLogBeside (plant plan log : List ℕ) : Type 0 where
  pub named : log ≢ []
  pub no_plant : log ≢ plant
  pub no_plan : log ≢ plan

-- the words say the request; no file has an empty name, and a log is not written over a file that is read
abbrev pub Says : List (List ℕ) → Request → Type 0
Says words (Solving plant budget) = (word : List ℕ) × ((words ≡ codes "solve" ∷ plant ∷ word ∷ []) × (plant ≢ []) × IsBudget word budget)
Says words (Logging plant budget log) =
    (word : List ℕ) × ((words ≡ codes "solve" ∷ plant ∷ word ∷ log ∷ []) × (plant ≢ []) × (log ≢ []) × (log ≢ plant) × IsBudget word budget)
Says words (Printing usage plant) = (words ≡ plant_word usage ∷ plant ∷ []) × (plant ≢ [])
Says words (Simulating usage plant plan) = (words ≡ use_word usage ∷ plant ∷ plan ∷ last_words usage) × (plant ≢ []) × (plan ≢ [])
Says words (Telling usage plant log) = (words ≡ log_word usage ∷ plant ∷ log ∷ []) × (plant ≢ []) × (log ≢ [])
Says words (Showing seed) = (word : List ℕ) × ((words ≡ codes "demo" ∷ word ∷ []) × IsSeed word seed)
Says words (Replanning plant plan period budget) =
    (from : List ℕ) × ((most : List ℕ) × ((words ≡ codes "replan" ∷ plant ∷ plan ∷ from ∷ most ∷ []) × (plant ≢ []) × (plan ≢ []) × IsPeriod from period × IsBudget most budget))
Says words (ReplanLogging plant plan period budget log) =
    (from : List ℕ) × ((most : List ℕ) × ((words ≡ codes "replan" ∷ plant ∷ plan ∷ from ∷ most ∷ log ∷ [])
    × (plant ≢ []) × (plan ≢ []) × (log ≢ []) × (log ≢ plant) × (log ≢ plan) × IsPeriod from period × IsBudget most budget))
Says words (CheckingReplan plant plan period log) =
    (from : List ℕ) × ((words ≡ codes "check-replan" ∷ plant ∷ plan ∷ from ∷ log ∷ []) × (plant ≢ []) × (plan ≢ []) × (log ≢ []) × IsPeriod from period)
Says words (Rolling plant plan period rest) =
    (from : List ℕ) × ((words ≡ codes "roll" ∷ plant ∷ plan ∷ from ∷ rest_words rest) × (plant ≢ []) × (plan ≢ []) × IsPeriod from period)
Says words (Improving plant plan budget log) =
    (most : List ℕ) × ((words ≡ codes "improve" ∷ plant ∷ plan ∷ most ∷ log_words log) × (plant ≢ []) × (plan ≢ []) × IfSome log (IsLogBeside plant plan) × IsBudget most budget)
Says words (Estimating plant log state step count) =
    (by : List ℕ) × ((times : List ℕ) × ((words ≡ codes "whatif" ∷ plant ∷ log ∷ state ∷ by ∷ times ∷ []) × (plant ≢ []) × (log ≢ []) × IsStep by step × IsStepCount times count))
Says words (Seeking plant budget) = (word : List ℕ) × ((words ≡ codes "least" ∷ plant ∷ word ∷ []) × (plant ≢ []) × IsBudget word budget)
Says words (Tracing plant budget stem) =
    (word : List ℕ) × ((words ≡ codes "least" ∷ plant ∷ word ∷ stem ∷ []) × (plant ≢ []) × (stem ≢ []) × IsNoLog plant stem × IsBudget word budget)
Says words (Auditing plant horizon stem) =
    (word : List ℕ) × ((words ≡ codes "check-least" ∷ plant ∷ word ∷ stem ∷ []) × (plant ≢ []) × (stem ≢ []) × IsNoLog plant stem × IsHorizon word horizon)
Says words (Conflicting plant budget) = (word : List ℕ) × ((words ≡ codes "conflict" ∷ plant ∷ word ∷ []) × (plant ≢ []) × IsBudget word budget)
Says words (ConflictLogging plant budget stem) =
    (word : List ℕ) × ((words ≡ codes "conflict" ∷ plant ∷ word ∷ stem ∷ []) × (plant ≢ []) × (stem ≢ []) × IsNeither plant stem × IsBudget word budget)
Says words (CheckingConflict plant stem) = (words ≡ codes "check-conflict" ∷ plant ∷ stem ∷ []) × (plant ≢ []) × (stem ≢ []) × IsNeither plant stem
Says words (Parting plant levels) = (word : List ℕ) × ((words ≡ codes "parts" ∷ plant ∷ word ∷ []) × (plant ≢ []) × IsLevels word levels)
Says words (PartSolving plant levels part budget log) =
    (parts : List ℕ) × ((number : List ℕ) × ((most : List ℕ) × ((words ≡ codes "solve-part" ∷ plant ∷ parts ∷ number ∷ most ∷ log ∷ [])
    × (plant ≢ []) × (log ≢ []) × (log ≢ plant) × IsLevels parts levels × IsPartNumber number levels part × IsBudget most budget)))
Says words (Joining plant levels stem log) =
    (parts : List ℕ) × ((words ≡ codes "join" ∷ plant ∷ parts ∷ stem ∷ log ∷ [])
    × (plant ≢ []) × (stem ≢ []) × (log ≢ []) × (log ≢ plant) × IsNoPartLog log stem levels × IsLevels parts levels)
Says words (Resuming plant log budget out share) =
    (most : List ℕ) × ((last : List (List ℕ)) × ((words ≡ codes "resume" ∷ plant ∷ log ∷ most ∷ out ∷ last) × (plant ≢ []) × (log ≢ []) × IsLogBeside plant log out × IsBudget most budget × SayShare last share))
Says words (Merging plant stem count out) =
    (many : List ℕ) × ((words ≡ codes "merge" ∷ plant ∷ stem ∷ many ∷ out ∷ [])
    × (plant ≢ []) × (stem ≢ []) × (out ≢ []) × (out ≢ plant) × IsNoPartLog out stem 8 × IsLogCount many count)

-- the words have the form of no command
abbrev pub HasNoForm : List (List ℕ) → Type 0
HasNoForm words = (request : Request) → ¬ Says words request

-- the words say no planning of a plant alone, no printing of what it holds, and no demonstration
pub record NoPlant (words : List (List ℕ)) : Type 0 where
  pub solving : (plant : List ℕ) (budget : ℕ) → ¬ Says words (Solving plant budget)
  pub logging : (plant log : List ℕ) (budget : ℕ) → ¬ Says words (Logging plant budget log)
  pub printing : (usage : PlantUse) (plant : List ℕ) → ¬ Says words (Printing usage plant)
  pub showing : (seed : ℕ) → ¬ Says words (Showing seed)

-- the words say no request that simulates a plan or carries one on
pub record NoPlan (words : List (List ℕ)) : Type 0 where
  pub simulating : (usage : PlanUse) (plant plan : List ℕ) → ¬ Says words (Simulating usage plant plan)
  pub rolling : (plant plan : List ℕ) (period : ℕ) (rest : Bool) → ¬ Says words (Rolling plant plan period rest)

-- the words say no planning that keeps starts of a plan or begins with one, and no check of its log
pub record NoReplanning (words : List (List ℕ)) : Type 0 where
  pub replanning : (plant plan : List ℕ) (period budget : ℕ) → ¬ Says words (Replanning plant plan period budget)
  pub logging : (plant plan log : List ℕ) (period budget : ℕ) → ¬ Says words (ReplanLogging plant plan period budget log)
  pub checking : (plant plan log : List ℕ) (period : ℕ) → ¬ Says words (CheckingReplan plant plan period log)
  pub improving : (plant plan : List ℕ) (budget : ℕ) (log : Option (List ℕ)) → ¬ Says words (Improving plant plan budget log)

-- the words say no request on logs that are given: to tell what one shows, to estimate by it, to go on from it or to merge several
pub record NoLog (words : List (List ℕ)) : Type 0 where
  pub telling : (usage : LogUse) (plant log : List ℕ) → ¬ Says words (Telling usage plant log)
  pub estimating : (plant log state : List ℕ) (step : ℤ) (count : ℕ) → ¬ Says words (Estimating plant log state step count)
  pub resuming : (plant log out : List ℕ) (budget : ℕ) (share : Option (ℕ × ℕ)) → ¬ Says words (Resuming plant log budget out share)
  pub merging : (plant stem out : List ℕ) (count : ℕ) → ¬ Says words (Merging plant stem count out)

-- the words say no request that tries one horizon after another
pub record NoHorizons (words : List (List ℕ)) : Type 0 where
  pub seeking : (plant : List ℕ) (budget : ℕ) → ¬ Says words (Seeking plant budget)
  pub tracing : (plant stem : List ℕ) (budget : ℕ) → ¬ Says words (Tracing plant budget stem)
  pub auditing : (plant stem : List ℕ) (horizon : ℕ) → ¬ Says words (Auditing plant horizon stem)

-- the words say no request for deliveries that can't be met together
pub record NoConflicts (words : List (List ℕ)) : Type 0 where
  pub finding : (plant : List ℕ) (budget : ℕ) → ¬ Says words (Conflicting plant budget)
  pub logging : (plant stem : List ℕ) (budget : ℕ) → ¬ Says words (ConflictLogging plant budget stem)
  pub checking : (plant stem : List ℕ) → ¬ Says words (CheckingConflict plant stem)

-- the words say no request that speaks of the parts of a plant
pub record NoParts (words : List (List ℕ)) : Type 0 where
  pub parting : (plant : List ℕ) (levels : ℕ) → ¬ Says words (Parting plant levels)
  pub solving : (plant log : List ℕ) (levels part budget : ℕ) → ¬ Says words (PartSolving plant levels part budget log)
  pub joining : (plant stem log : List ℕ) (levels : ℕ) → ¬ Says words (Joining plant levels stem log)

-- the name of a log that may be named
abbrev pub named_log : Option (Bor (List ℕ)) → Option (List ℕ)
named_log log = option_map (λ word. word.now) log

-- the number of a share, and how many there are
abbrev pub share_numbers : Share → ℕ × ℕ
share_numbers share = (share.number, share.shares)

-- what a command asks for
abbrev pub meaning : declared.Command → Request
meaning (variants.Solve plant budget) = Solving plant.now budget.boxes
meaning (variants.Log plant budget log) = Logging plant.now budget.boxes log.now
meaning (variants.Print usage plant) = Printing usage plant.now
meaning (variants.Simulate usage plant plan) = Simulating usage plant.now plan.now
meaning (variants.Tell usage plant log) = Telling usage plant.now log.now
meaning (variants.Demo seed) = Showing seed
meaning (variants.Replan plant plan period budget) = Replanning plant.now plan.now period.number budget.boxes
meaning (variants.LogReplan plant plan period budget log) = ReplanLogging plant.now plan.now period.number budget.boxes log.now
meaning (variants.CheckReplan plant plan period log) = CheckingReplan plant.now plan.now period.number log.now
meaning (variants.Roll plant plan period rest) = Rolling plant.now plan.now period.number rest
meaning (variants.Improve plant plan budget log) = Improving plant.now plan.now budget.boxes (named_log log)
meaning (variants.Estimate plant log state steps) = Estimating plant.now log.now state.now steps.step steps.count
meaning (variants.Least plant budget) = Seeking plant.now budget.boxes
meaning (variants.LeastLogs plant budget stem) = Tracing plant.now budget.boxes stem.now
meaning (variants.CheckLeast plant horizon stem) = Auditing plant.now horizon stem.now
meaning (variants.Conflict plant budget) = Conflicting plant.now budget.boxes
meaning (variants.ConflictLogs plant budget stem) = ConflictLogging plant.now budget.boxes stem.now
meaning (variants.CheckConflict plant stem) = CheckingConflict plant.now stem.now
meaning (variants.Parts plant levels) = Parting plant.now levels.number
meaning (variants.SolvePart plant part budget log) = PartSolving plant.now part.levels.number part.number budget.boxes log.now
meaning (variants.Join plant levels stem log) = Joining plant.now levels.number stem.now log.now
meaning (variants.Resume plant log budget out share) = Resuming plant.now log.now budget.boxes out.now (option_map share_numbers share)
meaning (variants.Merge plant stem count out) = Merging plant.now stem.now count.number out.now
