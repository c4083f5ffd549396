-- The words of the commands that simulate a plan.
use Rattle.std.proofs.Common.{◌≡◌, ◌≢◌, ◌≤◌, ℕ, List, [], ◌∷◌, length, get_or, refl, inl, inr, ap, ◌∙◌, arith}
use Rattle.std.specs.Prelude.{◌⊎◌, Bool, true, false, codes, Option, Some, None, MatchOption}
use Rattle.plan_tables.specs.declared.kind.TableKind.{TableKind}
use Rattle.plan_tables.specs.declared.kind.TableKind.TheVariants.{Batches, Stocks, Loads, Units, Deliveries}
use Rattle.command_words.specs.declared.command.Command.{Command}
use Rattle.command_words.specs.declared.uses.PlanUse.{PlanUse}
use Rattle.command_words.specs.declared.uses.PlanUse.TheVariants.{Table}
use Rattle.command_words.specs.Words.{Says, NoPlan, Rolling, Simulating, use_word, last_words, kind_words, meaning}

-- the words that say a use of a plan
abbrev words_of : PlanUse → List ℕ → List ℕ → List (List ℕ)
words_of usage plant plan = use_word usage ∷ plant ∷ plan ∷ last_words usage

-- they are three, or the first begins with a t (116)
use_form : (usage : PlanUse) (plant plan : List ℕ) → (length (words_of usage plant plan) ≡ 3) ⊎ (get_or (get_or (words_of usage plant plan) 0 []) 0 0 ≡ 116)
use_form (Table kind) plant plan = inr refl
use_form _ plant plan = inl refl

-- so more words of which the first begins with another letter say none
pub no_use : (words : List (List ℕ)) (usage : PlanUse) (plant plan : List ℕ) → words ≡ words_of usage plant plan → 4 ≤ length words → get_or (get_or words 0 []) 0 0 ≢ 116 → ⊥
no_use words usage plant plan same long other = elim (use_form usage plant plan) [
  | inl three ↦ (let length_is = ap length same ∙ three in omega (arith, long, length_is))
  | inr t ↦ other (ap (λ (ws : List (List ℕ)). get_or (get_or ws 0 []) 0 0) same ∙ t)
]

-- a table is named by a word, but for that of the batches
no_table : (words : List (List ℕ)) → ((usage : PlanUse) (plant plan : List ℕ) → last_words usage ≡ [] → ¬ Says words (Simulating usage plant plan))
    → ((kind : TableKind) (word plant plan : List ℕ) → kind_words kind ≡ word ∷ [] → ¬ Says words (Simulating (Table kind) plant plan))
    → (kind : TableKind) (plant plan : List ℕ) → ¬ Says words (Simulating (Table kind) plant plan)
no_table words bare table Batches plant plan = bare (Table Batches) plant plan refl
no_table words bare table Stocks plant plan = table Stocks (codes "stocks") plant plan refl
no_table words bare table Loads plant plan = table Loads (codes "loads") plant plan refl
no_table words bare table Units plant plan = table Units (codes "units") plant plan refl
no_table words bare table Deliveries plant plan = table Deliveries (codes "deliveries") plant plan refl

-- a use of a plan that is no table has no word after the files
no_plan_use : (words : List (List ℕ)) → ((usage : PlanUse) (plant plan : List ℕ) → last_words usage ≡ [] → ¬ Says words (Simulating usage plant plan))
    → ((kind : TableKind) (word plant plan : List ℕ) → kind_words kind ≡ word ∷ [] → ¬ Says words (Simulating (Table kind) plant plan))
    → (usage : PlanUse) (plant plan : List ℕ) → ¬ Says words (Simulating usage plant plan)
no_plan_use words bare table (Table kind) plant plan = no_table words bare table kind plant plan
no_plan_use words bare table usage plant plan = bare usage plant plan refl

-- a rolling prints the plant or the rest of the plan
no_rolling : (words : List (List ℕ)) → ((plant plan : List ℕ) (period : ℕ) → ¬ Says words (Rolling plant plan period false)) → ((plant plan : List ℕ) (period : ℕ) → ¬ Says words (Rolling plant plan period true))
    → (plant plan : List ℕ) (period : ℕ) (rest : Bool) → ¬ Says words (Rolling plant plan period rest)
no_rolling words whole part plant plan period false = whole plant plan period
no_rolling words whole part plant plan period true = part plant plan period

-- the last form of those on a plan
pub last_plan_form : (words : List (List ℕ)) (command : Option Command) → ((usage : PlanUse) (plant plan : List ℕ) → last_words usage ≡ [] → ¬ Says words (Simulating usage plant plan))
    → ((kind : TableKind) (word plant plan : List ℕ) → kind_words kind ≡ word ∷ [] → ¬ Says words (Simulating (Table kind) plant plan)) → ((plant plan : List ℕ) (period : ℕ) → ¬ Says words (Rolling plant plan period false))
    → MatchOption command ((plant plan : List ℕ) (period : ℕ) → ¬ Says words (Rolling plant plan period true)) (λ c. Says words (meaning c)) → MatchOption command (NoPlan words) (λ c. Says words (meaning c))
last_plan_form words None bare table roll rest = record { simulating = no_plan_use words bare table; rolling = no_rolling words roll rest }
last_plan_form words (Some command) bare table roll rest = rest
