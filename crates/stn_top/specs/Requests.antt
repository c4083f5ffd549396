-- The files of a request, and its answer.
use Rattle.std.specs.Prelude.{◌≡◌, ◌≢◌, ◌⊎◌, ◌≤◌, ℕ, Bool, IsTrue, All, List, [], ◌∷◌, ◌++◌, Option, None, Some, Ok, length}
use Rattle.std.specs.Option.{option_map}
use Rattle.std.specs.FinMap.{get}
use Rattle.stn_edge.specs.Files.{FileMap}
use Rattle.stn_model.specs.declared.plant.Plant.{Plant}
use Rattle.plant_text.specs.Reading.{reading}
use Rattle.plan_text.specs.PlanText.{plan_of_text}
use Rattle.frozen_plan.specs.Frozen.{kept_starts}
use Rattle.plan_told.specs.Proofs.{bytes_in}
use Rattle.least_horizon.specs.LogNames.{logs_in, OthersStayBelow}
use Rattle.time_grid.specs.Slots.{slots}
use Rattle.log_parts.specs.PartLogs.{AllAreValid}
use Rattle.command_words.specs.Words.{Request, IsNoPartLog, Solving, Logging, Printing, Simulating, Telling, Showing, Replanning, ReplanLogging, CheckingReplan, Rolling, Improving, Estimating, Seeking, Tracing, Auditing, Parting, PartSolving, Joining, Resuming, Merging, log_words, Conflicting, ConflictLogging, CheckingConflict}
use Rattle.command_replies.specs.Answers.{IsAnswerOver, content}
use Rattle.command_replies.specs.Sources.{IsReadOf, OnPlant, OnPlan}
use Rattle.answer_texts.specs.Levels.{OnLevels}
use Rattle.answer_texts.specs.Simulation.{Simulated}
use Rattle.plan_commands.specs.Rolling.{Rolled}
use Rattle.listing_commands.specs.Printing.{Printed}
use Rattle.log_commands.specs.Telling.{LogTold}
use Rattle.log_commands.specs.CheckingReplan.{ReplanChecked}
use Rattle.tank_commands.specs.Estimating.{Estimated}
use Rattle.planning_commands.specs.Solving.{HoldsLog, Solved}
use Rattle.planning_commands.specs.Replanning.{Replanned}
use Rattle.planning_commands.specs.Improving.{Improved}
use Rattle.planning_commands.specs.NamedLog.{LogLeft, told_log}
use Rattle.planning_commands.specs.PlanningOn.{CanBePlanned, HoldsOn}
use Rattle.planning_commands.specs.PartSolving.{HoldsPart, PartSolved}
use Rattle.demo_commands.specs.Demo.{Shown}
use Rattle.horizon_commands.specs.Seeking.{HoldsLogs, Sought, log_names}
use Rattle.horizon_commands.specs.Auditing.{Audited}
use Rattle.proof_log.specs.LogNames.{log_name}
use Rattle.conflict_commands.specs.Finding.{Found}
use Rattle.conflict_commands.specs.Logging.{FoundWithLog, HoldsConflict}
use Rattle.conflict_commands.specs.Checking.{ConflictChecked}
use Rattle.part_commands.specs.Parting.{Parted}
use Rattle.part_commands.specs.JoiningParts.{HoldsJoined, JoinAnswered, part_names}
use Rattle.resume_commands.specs.Resuming.{HoldsResumed, ResumeAnswered}
use Rattle.resume_commands.specs.Merging.{HoldsMerged, MergeAnswered, merged_names}
use Rattle.log_merging.specs.MergedLogs.{AreMergeable}

-- the names of the files that a request reads, in the order of its words: the plant, then the plan, or the log to check or to list, or
-- the one to go on from and that which was written then, or the logs of the shorter horizons, of the parts, or to merge, or the text
-- of a conflict and its log
abbrev pub read_names : Request → List (List ℕ)
read_names (Solving plant budget) = plant ∷ []
read_names (Logging plant budget log) = plant ∷ []
read_names (Printing usage plant) = plant ∷ []
read_names (Simulating usage plant plan) = plant ∷ plan ∷ []
read_names (Telling usage plant log) = plant ∷ log ∷ []
read_names (Showing seed) = []
read_names (Replanning plant plan period budget) = plant ∷ plan ∷ []
read_names (ReplanLogging plant plan period budget log) = plant ∷ plan ∷ []
read_names (CheckingReplan plant plan period log) = plant ∷ plan ∷ log ∷ []
read_names (Rolling plant plan period rest) = plant ∷ plan ∷ []
read_names (Improving plant plan budget log) = plant ∷ plan ∷ []
read_names (Estimating plant log state step count) = plant ∷ log ∷ []
read_names (Seeking plant budget) = plant ∷ []
read_names (Tracing plant budget stem) = plant ∷ []
read_names (Auditing plant horizon stem) = plant ∷ log_names stem horizon
read_names (Conflicting plant budget) = plant ∷ []
read_names (ConflictLogging plant budget stem) = plant ∷ []
read_names (CheckingConflict plant stem) = plant ∷ log_name stem 0 ∷ log_name stem 1 ∷ []
read_names (Parting plant levels) = plant ∷ []
read_names (PartSolving plant levels part budget log) = plant ∷ []
read_names (Joining plant levels stem log) = plant ∷ part_names stem levels
read_names (Resuming plant log budget out share) = plant ∷ log ∷ out ∷ []
read_names (Merging plant stem count out) = plant ∷ (merged_names stem count ++ out ∷ [])

-- the names of the files that a request writes: the log of a planning, of a joining or of a merging, or that goes on from another,
-- those of all horizons that a plant may have, or the text of a conflict and its log; all others only read
abbrev pub written_names : Request → List (List ℕ)
written_names (Logging plant budget log) = log ∷ []
written_names (ReplanLogging plant plan period budget log) = log ∷ []
written_names (Improving plant plan budget log) = log_words log
written_names (Tracing plant budget stem) = log_names stem 337
written_names (ConflictLogging plant budget stem) = log_name stem 0 ∷ log_name stem 1 ∷ []
written_names (PartSolving plant levels part budget log) = log ∷ []
written_names (Joining plant levels stem log) = log ∷ []
written_names (Resuming plant log budget out share) = out ∷ []
written_names (Merging plant stem count out) = out ∷ []
written_names _ = []

-- the files that a request reads may be read
abbrev pub MayRead : (List ℕ → Bool) → Request → Type 0
MayRead may_read request = All (λ name. IsTrue (may_read name)) (read_names request)

-- the files that a request writes may be written
abbrev pub MayWrite : (List ℕ → Bool) → Request → Type 0
MayWrite may_write request = All (λ name. IsTrue (may_write name)) (written_names request)

-- every file is as it was, but those that the request writes
abbrev pub OthersKept : Request → Option FileMap → Option FileMap → Type 0
OthersKept request old new =
    (name : List ℕ) → All (λ written. name ≢ written) (written_names request) → option_map (λ files. get files name) new ≡ option_map (λ files. get files name) old

-- What is answered to a request whose files have these contents, in order. The bytes of a log that is checked, which is read
-- in pieces, and of one that is written are known where the files are told.
abbrev pub AnswersTo : Option FileMap → Option FileMap → List (List ℕ) → Request → ℕ → List ℕ → Type 0
AnswersTo old new contents (Solving plant budget) status text = OnPlant (reading (content contents 0)) (λ p. Solved budget p None) status text
AnswersTo old new contents (Logging plant budget log) status text = OnPlant (reading (content contents 0)) (λ p. Solved budget p (bytes_in log new)) status text
AnswersTo old new contents (Printing usage plant) status text = OnPlant (reading (content contents 0)) (Printed usage) status text
AnswersTo old new contents (Simulating usage plant plan) status text =
    OnPlant (reading (content contents 0)) (λ p. OnPlan (plan_of_text p (content contents 1)) (Simulated usage p)) status text
AnswersTo old new contents (Telling usage plant log) status text = OnPlant (reading (content contents 0)) (LogTold usage (bytes_in log old)) status text
AnswersTo old new contents (Showing seed) status text = Shown seed status text
AnswersTo old new contents (Replanning plant plan period budget) status text =
    OnPlant (reading (content contents 0)) (λ p. OnPlan (plan_of_text p (content contents 1)) (λ starts. Replanned budget p period starts None (new ≡ old))) status text
AnswersTo old new contents (ReplanLogging plant plan period budget log) status text =
    OnPlant (reading (content contents 0)) (λ p. OnPlan (plan_of_text p (content contents 1)) (λ starts. Replanned budget p period starts (bytes_in log new) (new ≡ old))) status text
AnswersTo old new contents (CheckingReplan plant plan period log) status text =
    OnPlant (reading (content contents 0)) (λ p. OnPlan (plan_of_text p (content contents 1)) (λ starts. ReplanChecked (bytes_in log old) p period (kept_starts period starts) (new ≡ old))) status text
AnswersTo old new contents (Rolling plant plan period rest) status text =
    OnPlant (reading (content contents 0)) (λ p. OnPlan (plan_of_text p (content contents 1)) (Rolled rest period p)) status text
AnswersTo old new contents (Improving plant plan budget log) status text =
    OnPlant (reading (content contents 0)) (λ p. OnPlan (plan_of_text p (content contents 1)) (λ starts. Improved budget p starts (told_log log new) (new ≡ old))) status text
AnswersTo old new contents (Estimating plant log state step count) status text = OnPlant (reading (content contents 0)) (Estimated state step count (content contents 1)) status text
AnswersTo old new contents (Seeking plant budget) status text = OnPlant (reading (content contents 0)) (λ p. Sought budget p (λ _. None) (λ _. Unit {0})) status text
AnswersTo old new contents (Tracing plant budget stem) status text = OnPlant (reading (content contents 0)) (λ p. Sought budget p (logs_in stem new) (λ horizon. OthersStayBelow stem horizon old new)) status text
AnswersTo old new contents (Auditing plant horizon stem) status text = OnPlant (reading (content contents 0)) (Audited old horizon stem) status text
AnswersTo old new contents (Conflicting plant budget) status text = OnPlant (reading (content contents 0)) (Found budget) status text
AnswersTo old new contents (ConflictLogging plant budget stem) status text = OnPlant (reading (content contents 0)) (FoundWithLog budget stem old new) status text
AnswersTo old new contents (CheckingConflict plant stem) status text = OnPlant (reading (content contents 0)) (ConflictChecked old stem) status text
AnswersTo old new contents (Parting plant levels) status text = OnPlant (reading (content contents 0)) (Parted levels) status text
AnswersTo old new contents (PartSolving plant levels part budget log) status text =
    OnPlant (reading (content contents 0)) (λ p. OnLevels p levels (PartSolved budget p levels part (bytes_in log new))) status text
AnswersTo old new contents (Joining plant levels stem log) status text =
    OnPlant (reading (content contents 0)) (λ p. OnLevels p levels (JoinAnswered old new levels stem log p)) status text
AnswersTo old new contents (Resuming plant log budget out share) status text = OnPlant (reading (content contents 0)) (ResumeAnswered old new budget share log out) status text
AnswersTo old new contents (Merging plant stem count out) status text = OnPlant (reading (content contents 0)) (MergeAnswered old new count stem out) status text

-- The answer to a request, with the files before and after: there are contents of the files that it reads, which are those of
-- the files before where the store tells them, and it is the answer over these contents. A refusal of the plant or of the plan
-- leaves every file as it was.
abbrev pub IsAnswer : Option FileMap → Option FileMap → Request → ℕ → List ℕ → Type 0
IsAnswer old new request status text = IsAnswerOver old new (read_names request) (λ contents. AnswersTo old new contents request) status text

-- what a request leaves, however it ends: the files as they were, or, where it writes logs, logs in their files
abbrev pub IsLeft : Request → Option FileMap → Option FileMap → Type 0
IsLeft (Logging plant budget log) old new = (new ≡ old) ⊎ HoldsLog old new plant log
IsLeft (ReplanLogging plant plan period budget log) old new = (new ≡ old) ⊎ HoldsOn old new plant plan (Some period) log
IsLeft (Improving plant plan budget log) old new = LogLeft log (λ name. (new ≡ old) ⊎ HoldsOn old new plant plan None name) old new
IsLeft (Tracing plant budget stem) old new = (new ≡ old) ⊎ HoldsLogs budget old new plant stem
IsLeft (ConflictLogging plant budget stem) old new = (new ≡ old) ⊎ HoldsConflict budget old new plant stem
IsLeft (PartSolving plant levels part budget log) old new = (new ≡ old) ⊎ HoldsPart old new plant levels part log
IsLeft (Joining plant levels stem log) old new = (new ≡ old) ⊎ HoldsJoined old new plant levels stem log
IsLeft (Resuming plant log budget out share) old new = (new ≡ old) ⊎ HoldsResumed old new plant log
IsLeft (Merging plant stem count out) old new = (new ≡ old) ⊎ HoldsMerged old new plant count stem
IsLeft _ old new = new ≡ old

-- a request gets to writing a file: it names a log, and its plant was read, and its plan where it has one, of which the kept starts
-- stand together, or which is feasible where none are kept; where it speaks of parts, the plant has a slot for each level, and the logs that it joins or merges are valid
abbrev pub GetsToWriting : Option FileMap → Request → Type 0
GetsToWriting files (Logging plant budget log) = (p : Plant) × IsReadOf reading files plant (Ok p)
GetsToWriting files (ReplanLogging plant plan period budget log) = CanBePlanned files plant plan (Some period)
GetsToWriting files (Improving plant plan budget log) = (log ≢ None) × CanBePlanned files plant plan None
GetsToWriting files (Tracing plant budget stem) = (p : Plant) × IsReadOf reading files plant (Ok p)
GetsToWriting files (ConflictLogging plant budget stem) = (p : Plant) × IsReadOf reading files plant (Ok p)
GetsToWriting files (PartSolving plant levels part budget log) = (p : Plant) × (IsReadOf reading files plant (Ok p) × (levels ≤ length (slots p)))
GetsToWriting files (Joining plant levels stem log) =
    (p : Plant) × (IsReadOf reading files plant (Ok p) × (levels ≤ length (slots p)) × AllAreValid p levels stem files)
GetsToWriting files (Resuming plant log budget out share) = (p : Plant) × IsReadOf reading files plant (Ok p)
GetsToWriting files (Merging plant stem count out) = (p : Plant) × (IsReadOf reading files plant (Ok p) × AreMergeable p count stem files)
GetsToWriting files _ = ⊥

-- the request reads all of its files before it writes one: it is neither to join or merge logs nor to go on from one
pub record ReadsFirst (request : Request) : Type 0 where
  pub joins_none : (plant : List ℕ) (levels : ℕ) (stem log : List ℕ) → request ≢ Joining plant levels stem log
  pub resumes_none : (plant log : List ℕ) (budget : ℕ) (out : List ℕ) (share : Option (ℕ × ℕ)) → request ≢ Resuming plant log budget out share
  pub merges_none : (plant stem : List ℕ) (count : ℕ) (out : List ℕ) → request ≢ Merging plant stem count out

-- the request writes none of the logs that it joins or merges, and not the one that it goes on from
pub record WritesApart (request : Request) : Type 0 where
  pub joining : (plant : List ℕ) (levels : ℕ) (stem log : List ℕ) → request ≡ Joining plant levels stem log → IsNoPartLog log stem levels
  pub resuming : (plant log : List ℕ) (budget : ℕ) (out : List ℕ) (share : Option (ℕ × ℕ)) → request ≡ Resuming plant log budget out share → out ≢ log
  pub merging : (plant stem : List ℕ) (count : ℕ) (out : List ℕ) → request ≡ Merging plant stem count out → IsNoPartLog out stem 8
