-- Words on the parts of a plant.
use Rattle.std.proofs.Common.{◌≡◌, ℕ, ◌<◌, ◌≤◌, ◌^◌, List, [], ◌∷◌, get_or, sym, ap, ◌∙◌, subst, arith}
use Rattle.std.specs.Prelude.{Option, Some, None, MatchOption}
use Rattle.std.proofs.lemmas.Fmt.{decimal_injective}
use Rattle.std.proofs.Math.Pow.{pow_mono}
use Rattle.command_words.specs.declared.command.Command.{Command}
use Rattle.command_words.specs.Words.{Says, Parting, PartSolving, Joining, NoParts, IsLevels, IsLogCount, IsPartNumber, IsNoPartLog, meaning}

-- one word says one number of levels
pub same_levels : (word : List ℕ) (a b : ℕ) → IsLevels word a → IsLevels word b → a ≡ b
same_levels word a b is_a is_b = decimal_injective a b (omega (arith, is_a.most)) (omega (arith, is_b.most)) (sym is_a.digits ∙ is_b.digits)

-- the numbers of parts are small
below_all : (levels a : ℕ) → levels ≤ 8 → a < 2 ^ levels → a < 2 ^ 64
below_all levels a most within = (let few = pow_mono {i = levels} {j = 8} most in omega (arith, few, within))

-- one word says the number of one part
pub same_part : (word : List ℕ) (levels levels2 a b : ℕ) → levels ≤ 8 → levels2 ≤ 8 → IsPartNumber word levels a → IsPartNumber word levels2 b → a ≡ b
same_part word levels levels2 a b most most2 is_a is_b = decimal_injective a b (below_all levels a most is_a.within) (below_all levels2 b most2 is_b.within) (sym is_a.digits ∙ is_b.digits)

-- one word says one number of logs
pub same_count : (word : List ℕ) (a b : ℕ) → IsLogCount word a → IsLogCount word b → a ≡ b
same_count word a b is_a is_b = decimal_injective a b (omega (arith, is_a.most)) (omega (arith, is_b.most)) (sym is_a.digits ∙ is_b.digits)

-- words of which the third says no levels, or those of a part's log, are no words of `join`
pub no_join : (words : List (List ℕ)) (first second third fourth fifth : List ℕ) → words ≡ first ∷ second ∷ third ∷ fourth ∷ fifth ∷ [] → ((n : ℕ) → IsLevels third n → ¬ IsNoPartLog fifth fourth n)
    → (plant stem log : List ℕ) (levels : ℕ) → ¬ Says words (Joining plant levels stem log)
no_join words first second third fourth fifth are none plant stem log levels says =
    let same = sym says.1.0 ∙ are in
    let word = λ (k : ℕ). ap (λ (ws : List (List ℕ)). get_or ws k []) same in
    let apart = subst (λ (s : List ℕ). IsNoPartLog log s levels) (word 3) says.1.5 in
    none levels (subst (λ (w : List ℕ). IsLevels w levels) (word 2) says.1.6) (subst (λ (l : List ℕ). IsNoPartLog l fourth levels) (word 4) apart)

-- the last form decides
pub last_part_form : (words : List (List ℕ)) (command : Option Command) → ((plant : List ℕ) (levels : ℕ) → ¬ Says words (Parting plant levels))
    → ((plant log : List ℕ) (levels part budget : ℕ) → ¬ Says words (PartSolving plant levels part budget log))
    → MatchOption command ((plant stem log : List ℕ) (levels : ℕ) → ¬ Says words (Joining plant levels stem log)) (λ c. Says words (meaning c)) → MatchOption command (NoParts words) (λ c. Says words (meaning c))
last_part_form words None parts solve join = record { parting = parts; solving = solve; joining = join }
last_part_form words (Some command) parts solve join = join
