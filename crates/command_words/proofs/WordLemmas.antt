-- Lists of words of a known length.
use Rattle.std.specs.Cmp.Lexicographic.{same_text}
use Rattle.std.specs.Prelude.{◌==◌, nat_eq}
use lib.Pointwise.{pointwise}
use Rattle.std.proofs.Common.{◌≡◌, true, false, ◌∙◌, ap, ℕ, ℤ, ◌<◌, ◌≤◌, List, [], ◌∷◌, length, get_or, refl, arith, Bor}
use Rattle.std.specs.Prelude.{Option, Some, None, MatchOption}
use Rattle.command_words.specs.declared.command.Command.{Command}
use Rattle.command_words.specs.declared.uses.PlantUse.{PlantUse}
use Rattle.command_words.specs.declared.uses.LogUse.{LogUse}
use Rattle.command_words.specs.Words.{texts, Says, HasNoForm, Solving, Logging, Printing, Simulating, Telling, Showing, Replanning, ReplanLogging, CheckingReplan, Rolling, Improving, Estimating, Seeking, Tracing, Auditing, Parting, PartSolving, Joining, Resuming, Merging, NoPlant, NoPlan, NoReplanning, NoLog, NoHorizons, NoParts, meaning, NoConflicts, Conflicting, ConflictLogging, CheckingConflict}

-- three words are the list of their texts
pub three_texts : (words : List (Bor (List ℕ))) (d : Bor (List ℕ)) → 3 ≤ length words → length words < 4 → texts words ≡ (get_or words 0 d).now ∷ (get_or words 1 d).now ∷ (get_or words 2 d).now ∷ []
three_texts [] d least most = absurd (omega arith)
three_texts (a ∷ []) d least most = absurd (omega arith)
three_texts (a ∷ b ∷ []) d least most = absurd (omega arith)
three_texts (a ∷ b ∷ e ∷ []) d least most = refl
three_texts (a ∷ b ∷ e ∷ f ∷ rest) d least most = absurd (omega arith)

-- four words are the list of their texts
pub four_texts : (words : List (Bor (List ℕ))) (d : Bor (List ℕ)) → 4 ≤ length words → length words < 5 → texts words ≡ (get_or words 0 d).now ∷ (get_or words 1 d).now ∷ (get_or words 2 d).now ∷ (get_or words 3 d).now ∷ []
four_texts [] d least most = absurd (omega arith)
four_texts (a ∷ []) d least most = absurd (omega arith)
four_texts (a ∷ b ∷ []) d least most = absurd (omega arith)
four_texts (a ∷ b ∷ e ∷ []) d least most = absurd (omega arith)
four_texts (a ∷ b ∷ e ∷ f ∷ []) d least most = refl
four_texts (a ∷ b ∷ e ∷ f ∷ g ∷ rest) d least most = absurd (omega arith)

-- five words are the list of their texts
pub five_texts : (words : List (Bor (List ℕ))) (d : Bor (List ℕ)) → 5 ≤ length words → length words < 6 →
    texts words ≡ (get_or words 0 d).now ∷ (get_or words 1 d).now ∷ (get_or words 2 d).now ∷ (get_or words 3 d).now ∷ (get_or words 4 d).now ∷ []
five_texts [] d least most = absurd (omega arith)
five_texts (a ∷ []) d least most = absurd (omega arith)
five_texts (a ∷ b ∷ []) d least most = absurd (omega arith)
five_texts (a ∷ b ∷ e ∷ []) d least most = absurd (omega arith)
five_texts (a ∷ b ∷ e ∷ f ∷ []) d least most = absurd (omega arith)
five_texts (a ∷ b ∷ e ∷ f ∷ g ∷ []) d least most = refl
five_texts (a ∷ b ∷ e ∷ f ∷ g ∷ h ∷ rest) d least most = absurd (omega arith)

-- six words are the list of their texts
six_texts : (words : List (Bor (List ℕ))) (d : Bor (List ℕ)) → 6 ≤ length words → length words < 7 →
    texts words ≡ (get_or words 0 d).now ∷ (get_or words 1 d).now ∷ (get_or words 2 d).now ∷ (get_or words 3 d).now ∷ (get_or words 4 d).now ∷ (get_or words 5 d).now ∷ []
six_texts [] d least most = absurd (omega arith)
six_texts (a ∷ []) d least most = absurd (omega arith)
six_texts (a ∷ b ∷ []) d least most = absurd (omega arith)
six_texts (a ∷ b ∷ e ∷ []) d least most = absurd (omega arith)
six_texts (a ∷ b ∷ e ∷ f ∷ []) d least most = absurd (omega arith)
six_texts (a ∷ b ∷ e ∷ f ∷ g ∷ []) d least most = absurd (omega arith)
six_texts (a ∷ b ∷ e ∷ f ∷ g ∷ h ∷ []) d least most = refl
six_texts (a ∷ b ∷ e ∷ f ∷ g ∷ h ∷ i ∷ rest) d least most = absurd (omega arith)

-- two words are the list of their texts
pub two_texts : (words : List (Bor (List ℕ))) (d : Bor (List ℕ)) → 2 ≤ length words → length words < 3 → texts words ≡ (get_or words 0 d).now ∷ (get_or words 1 d).now ∷ []
two_texts [] d least most = absurd (omega arith)
two_texts (a ∷ []) d least most = absurd (omega arith)
two_texts (a ∷ b ∷ []) d least most = refl
two_texts (a ∷ b ∷ e ∷ rest) d least most = absurd (omega arith)

-- two words, of which the first is known
pub two_words : (words : List (Bor (List ℕ))) (d : Bor (List ℕ)) (first : List ℕ) → 2 ≤ length words → length words < 3 → true ≡ pointwise nat_eq (get_or words 0 d).now first → texts words ≡ first ∷ (get_or words 1 d).now ∷ []
two_words words d first least most same =
    two_texts words d least most ∙ ap (λ (x : List ℕ). x ∷ (get_or words 1 d).now ∷ []) (same_text _ _ same)

-- a text that is not empty is not the empty text
pub not_empty : (text : List ℕ) → false ≡ (length text == 0) → text ≡ [] → ⊥
not_empty text some none = (let short = ap length none in grind arith)

-- three words, of which the first is known
pub three_words : (words : List (Bor (List ℕ))) (d : Bor (List ℕ)) (first : List ℕ) → 3 ≤ length words → length words < 4 → true ≡ pointwise nat_eq (get_or words 0 d).now first → texts words ≡ first ∷ (get_or words 1 d).now ∷ (get_or words 2 d).now ∷ []
three_words words d first least most same =
    three_texts words d least most ∙ ap (λ (x : List ℕ). x ∷ (get_or words 1 d).now ∷ (get_or words 2 d).now ∷ []) (same_text _ _ same)

-- four words, of which the first is known
pub four_words : (words : List (Bor (List ℕ))) (d : Bor (List ℕ)) (first : List ℕ) → 4 ≤ length words → length words < 5 → true ≡ pointwise nat_eq (get_or words 0 d).now first → texts words ≡ first ∷ (get_or words 1 d).now ∷ (get_or words 2 d).now ∷ (get_or words 3 d).now ∷ []
four_words words d first least most same =
    four_texts words d least most ∙ ap (λ (x : List ℕ). x ∷ (get_or words 1 d).now ∷ (get_or words 2 d).now ∷ (get_or words 3 d).now ∷ []) (same_text _ _ same)

-- five words, of which the first is known
pub five_words : (words : List (Bor (List ℕ))) (d : Bor (List ℕ)) (first : List ℕ) → 5 ≤ length words → length words < 6 → true ≡ pointwise nat_eq (get_or words 0 d).now first →
    texts words ≡ first ∷ (get_or words 1 d).now ∷ (get_or words 2 d).now ∷ (get_or words 3 d).now ∷ (get_or words 4 d).now ∷ []
five_words words d first least most same =
    five_texts words d least most ∙ ap (λ (x : List ℕ). x ∷ (get_or words 1 d).now ∷ (get_or words 2 d).now ∷ (get_or words 3 d).now ∷ (get_or words 4 d).now ∷ []) (same_text _ _ same)

-- six words, of which the first is known
pub six_words : (words : List (Bor (List ℕ))) (d : Bor (List ℕ)) (first : List ℕ) → 6 ≤ length words → length words < 7 → true ≡ pointwise nat_eq (get_or words 0 d).now first →
    texts words ≡ first ∷ (get_or words 1 d).now ∷ (get_or words 2 d).now ∷ (get_or words 3 d).now ∷ (get_or words 4 d).now ∷ (get_or words 5 d).now ∷ []
six_words words d first least most same =
    six_texts words d least most
    ∙ ap (λ (x : List ℕ). x ∷ (get_or words 1 d).now ∷ (get_or words 2 d).now ∷ (get_or words 3 d).now ∷ (get_or words 4 d).now ∷ (get_or words 5 d).now ∷ []) (same_text _ _ same)

-- words that have none of the forms
pub has_no_form : (words : List (List ℕ)) → NoPlant words → NoPlan words → NoReplanning words → NoLog words → NoHorizons words → NoConflicts words → NoParts words → HasNoForm words
has_no_form words plant plan replan log least conflict parts (Solving file budget) = plant.solving file budget
has_no_form words plant plan replan log least conflict parts (Logging file budget name) = plant.logging file name budget
has_no_form words plant plan replan log least conflict parts (Printing usage file) = plant.printing usage file
has_no_form words plant plan replan log least conflict parts (Simulating usage file starts) = plan.simulating usage file starts
has_no_form words plant plan replan log least conflict parts (Telling usage file name) = log.telling usage file name
has_no_form words plant plan replan log least conflict parts (Showing seed) = plant.showing seed
has_no_form words plant plan replan log least conflict parts (Replanning file starts period budget) = replan.replanning file starts period budget
has_no_form words plant plan replan log least conflict parts (ReplanLogging file starts period budget name) = replan.logging file starts name period budget
has_no_form words plant plan replan log least conflict parts (CheckingReplan file starts period name) = replan.checking file starts name period
has_no_form words plant plan replan log least conflict parts (Rolling file starts period rest) = plan.rolling file starts period rest
has_no_form words plant plan replan log least conflict parts (Improving file starts budget name) = replan.improving file starts budget name
has_no_form words plant plan replan log least conflict parts (Estimating file name state step count) = log.estimating file name state step count
has_no_form words plant plan replan log least conflict parts (Seeking file budget) = least.seeking file budget
has_no_form words plant plan replan log least conflict parts (Tracing file budget stem) = least.tracing file stem budget
has_no_form words plant plan replan log least conflict parts (Auditing file horizon stem) = least.auditing file stem horizon
has_no_form words plant plan replan log least conflict parts (Conflicting file budget) = conflict.finding file budget
has_no_form words plant plan replan log least conflict parts (ConflictLogging file budget stem) = conflict.logging file stem budget
has_no_form words plant plan replan log least conflict parts (CheckingConflict file stem) = conflict.checking file stem
has_no_form words plant plan replan log least conflict parts (Parting file levels) = parts.parting file levels
has_no_form words plant plan replan log least conflict parts (PartSolving file levels part budget name) = parts.solving file name levels part budget
has_no_form words plant plan replan log least conflict parts (Joining file levels stem name) = parts.joining file stem name levels
has_no_form words plant plan replan log least conflict parts (Resuming file name budget out share) = log.resuming file name out budget share
has_no_form words plant plan replan log least conflict parts (Merging file stem count out) = log.merging file stem out count

-- the last form decides
pub last_form : (words : List (List ℕ)) (command : Option Command) → NoPlant words → NoPlan words → NoReplanning words → NoLog words → NoHorizons words → NoConflicts words
    → MatchOption command (NoParts words) (λ c. Says words (meaning c)) → MatchOption command (HasNoForm words) (λ c. Says words (meaning c))
last_form words None plant plan replan log least conflict parts = has_no_form words plant plan replan log least conflict parts
last_form words (Some command) plant plan replan log least conflict parts = parts

-- the last form of those on a plant alone
pub last_plant_form : (words : List (List ℕ)) (command : Option Command) → ((plant : List ℕ) (budget : ℕ) → ¬ Says words (Solving plant budget)) → ((plant log : List ℕ) (budget : ℕ) → ¬ Says words (Logging plant budget log))
    → ((usage : PlantUse) (plant : List ℕ) → ¬ Says words (Printing usage plant)) → MatchOption command ((seed : ℕ) → ¬ Says words (Showing seed)) (λ c. Says words (meaning c)) → MatchOption command (NoPlant words) (λ c. Says words (meaning c))
last_plant_form words None solve log print demo = record { solving = solve; logging = log; printing = print; showing = demo }
last_plant_form words (Some command) solve log print demo = demo

-- the last form of those that keep starts of a plan or begin with one
pub last_replan_form : (words : List (List ℕ)) (command : Option Command) → ((plant plan : List ℕ) (period budget : ℕ) → ¬ Says words (Replanning plant plan period budget))
    → ((plant plan log : List ℕ) (period budget : ℕ) → ¬ Says words (ReplanLogging plant plan period budget log)) → ((plant plan log : List ℕ) (period : ℕ) → ¬ Says words (CheckingReplan plant plan period log))
    → MatchOption command ((plant plan : List ℕ) (budget : ℕ) (log : Option (List ℕ)) → ¬ Says words (Improving plant plan budget log)) (λ c. Says words (meaning c)) → MatchOption command (NoReplanning words) (λ c. Says words (meaning c))
last_replan_form words None replan log check improve = record { replanning = replan; logging = log; checking = check; improving = improve }
last_replan_form words (Some command) replan log check improve = improve

-- the last form of those on logs that are given
pub last_log_form : (words : List (List ℕ)) (command : Option Command) → ((usage : LogUse) (plant log : List ℕ) → ¬ Says words (Telling usage plant log))
    → ((plant log state : List ℕ) (step : ℤ) (count : ℕ) → ¬ Says words (Estimating plant log state step count)) → ((plant log out : List ℕ) (budget : ℕ) (share : Option (ℕ × ℕ)) → ¬ Says words (Resuming plant log budget out share))
    → MatchOption command ((plant stem out : List ℕ) (count : ℕ) → ¬ Says words (Merging plant stem count out)) (λ c. Says words (meaning c)) → MatchOption command (NoLog words) (λ c. Says words (meaning c))
last_log_form words None tell estimate resume merge = record { telling = tell; estimating = estimate; resuming = resume; merging = merge }
last_log_form words (Some command) tell estimate resume merge = merge

-- the last form of those that try one horizon after another
pub last_horizon_form : (words : List (List ℕ)) (command : Option Command) → ((plant : List ℕ) (budget : ℕ) → ¬ Says words (Seeking plant budget)) → ((plant stem : List ℕ) (budget : ℕ) → ¬ Says words (Tracing plant budget stem))
    → MatchOption command ((plant stem : List ℕ) (horizon : ℕ) → ¬ Says words (Auditing plant horizon stem)) (λ c. Says words (meaning c)) → MatchOption command (NoHorizons words) (λ c. Says words (meaning c))
last_horizon_form words None seek trace audit = record { seeking = seek; tracing = trace; auditing = audit }
last_horizon_form words (Some command) seek trace audit = audit

-- planning that begins with a plan is said with a log or without one
no_improving : (words : List (List ℕ)) → ((plant plan : List ℕ) (budget : ℕ) → ¬ Says words (Improving plant plan budget None)) → ((plant plan log : List ℕ) (budget : ℕ) → ¬ Says words (Improving plant plan budget (Some log)))
    → (plant plan : List ℕ) (budget : ℕ) (log : Option (List ℕ)) → ¬ Says words (Improving plant plan budget log)
no_improving words plain logged plant plan budget None = plain plant plan budget
no_improving words plain logged plant plan budget (Some log) = logged plant plan log budget

-- the last form of planning that begins with a plan
pub last_improve_form : (words : List (List ℕ)) (command : Option Command) → ((plant plan : List ℕ) (budget : ℕ) → ¬ Says words (Improving plant plan budget None))
    → MatchOption command ((plant plan log : List ℕ) (budget : ℕ) → ¬ Says words (Improving plant plan budget (Some log))) (λ c. Says words (meaning c))
    → MatchOption command ((plant plan : List ℕ) (budget : ℕ) (log : Option (List ℕ)) → ¬ Says words (Improving plant plan budget log)) (λ c. Says words (meaning c))
last_improve_form words None plain logged = no_improving words plain logged
last_improve_form words (Some command) plain logged = logged

-- the last form of those on deliveries that can't be met together
pub last_conflict_form : (words : List (List ℕ)) (command : Option Command) → ((plant : List ℕ) (budget : ℕ) → ¬ Says words (Conflicting plant budget)) → ((plant stem : List ℕ) (budget : ℕ) → ¬ Says words (ConflictLogging plant budget stem))
    → MatchOption command ((plant stem : List ℕ) → ¬ Says words (CheckingConflict plant stem)) (λ c. Says words (meaning c)) → MatchOption command (NoConflicts words) (λ c. Says words (meaning c))
last_conflict_form words None find log check = record { finding = find; logging = log; checking = check }
last_conflict_form words (Some command) find log check = check

-- going on from a log is said with a share or without one
no_resuming : (words : List (List ℕ)) → ((plant log out : List ℕ) (budget : ℕ) → ¬ Says words (Resuming plant log budget out None)) → ((plant log out : List ℕ) (budget : ℕ) (share : ℕ × ℕ) → ¬ Says words (Resuming plant log budget out (Some share)))
    → (plant log out : List ℕ) (budget : ℕ) (share : Option (ℕ × ℕ)) → ¬ Says words (Resuming plant log budget out share)
no_resuming words all shared plant log out budget None = all plant log out budget
no_resuming words all shared plant log out budget (Some share) = shared plant log out budget share

-- the last form of going on from a log
pub last_resume_form : (words : List (List ℕ)) (command : Option Command) → ((plant log out : List ℕ) (budget : ℕ) → ¬ Says words (Resuming plant log budget out None))
    → MatchOption command ((plant log out : List ℕ) (budget : ℕ) (share : ℕ × ℕ) → ¬ Says words (Resuming plant log budget out (Some share))) (λ c. Says words (meaning c))
    → MatchOption command ((plant log out : List ℕ) (budget : ℕ) (share : Option (ℕ × ℕ)) → ¬ Says words (Resuming plant log budget out share)) (λ c. Says words (meaning c))
last_resume_form words None all shared = no_resuming words all shared
last_resume_form words (Some command) all shared = shared

-- seven words are the list of their texts
pub seven_texts : (words : List (Bor (List ℕ))) (d : Bor (List ℕ)) → 7 ≤ length words → length words < 8 →
    texts words ≡ (get_or words 0 d).now ∷ (get_or words 1 d).now ∷ (get_or words 2 d).now ∷ (get_or words 3 d).now ∷ (get_or words 4 d).now ∷ (get_or words 5 d).now ∷ (get_or words 6 d).now ∷ []
seven_texts [] d least most = absurd (omega arith)
seven_texts (a ∷ []) d least most = absurd (omega arith)
seven_texts (a ∷ b ∷ []) d least most = absurd (omega arith)
seven_texts (a ∷ b ∷ e ∷ []) d least most = absurd (omega arith)
seven_texts (a ∷ b ∷ e ∷ f ∷ []) d least most = absurd (omega arith)
seven_texts (a ∷ b ∷ e ∷ f ∷ g ∷ []) d least most = absurd (omega arith)
seven_texts (a ∷ b ∷ e ∷ f ∷ g ∷ h ∷ []) d least most = absurd (omega arith)
seven_texts (a ∷ b ∷ e ∷ f ∷ g ∷ h ∷ i ∷ []) d least most = refl
seven_texts (a ∷ b ∷ e ∷ f ∷ g ∷ h ∷ i ∷ j ∷ rest) d least most = absurd (omega arith)

-- seven words, of which the first is known
pub seven_words : (words : List (Bor (List ℕ))) (d : Bor (List ℕ)) (first : List ℕ) → 7 ≤ length words → length words < 8 → true ≡ pointwise nat_eq (get_or words 0 d).now first →
    texts words ≡ first ∷ (get_or words 1 d).now ∷ (get_or words 2 d).now ∷ (get_or words 3 d).now ∷ (get_or words 4 d).now ∷ (get_or words 5 d).now ∷ (get_or words 6 d).now ∷ []
seven_words words d first least most same =
    seven_texts words d least most
    ∙ ap (λ (x : List ℕ). x ∷ (get_or words 1 d).now ∷ (get_or words 2 d).now ∷ (get_or words 3 d).now ∷ (get_or words 4 d).now ∷ (get_or words 5 d).now ∷ (get_or words 6 d).now ∷ []) (same_text _ _ same)
