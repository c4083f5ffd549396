-- Merging logs: its answer, and the files that it reads.
use Rattle.std.proofs.Common.{◌≡◌, ℕ, ◌<◌, List, [], ◌∷◌, ◌++◌, length, take, drop, All, Bool, IsTrue, sym, arith, subst}
use Rattle.std.proofs.Math.Seq.{drop-append_seam, take-append_seam}
use Rattle.std.proofs.lemmas.List.Elements.{All-drop, All-same, All-tail, All-take}
use Rattle.std.proofs.lemmas.List.FromFn.{get_or-map-range_with_len, length-map-range_with_len}
use Rattle.proof_log.specs.LogNames.{log_name}
use Rattle.log_merging.specs.declared.merged.Merged.{Merged}
use Rattle.log_merging.specs.declared.merged.Merged.TheVariants.{Done, No}
use Rattle.command_replies.specs.Answers.{IsUnwritten}
use Rattle.command_replies.proofs.AnswerLemmas.{written}
use Rattle.resume_commands.specs.Merging.{merge_status, merged_names}

-- the status of what merging comes to is that of no refusal
pub merge-status : (said : Merged) (status : ℕ) → status ≡ merge_status said → IsUnwritten status → ⊥
merge-status (Done claim) status is none = written status (λ s. omega (arith, is, s)) (λ s. omega (arith, is, s)) (λ s. omega (arith, is, s)) (λ s. omega (arith, is, s)) none
merge-status (No number defect) status is none = written status (λ s. omega (arith, is, s)) (λ s. omega (arith, is, s)) (λ s. omega (arith, is, s)) (λ s. omega (arith, is, s)) none

-- what holds of each of a list and of those behind it holds of each of the list
first-all : {X : Type 0} (P : X → Type 0) (xs ys : List X) → All P (xs ++ ys) → All P xs
first-all P xs ys all = All-same P xs (take (length xs) (xs ++ ys)) (sym (take-append_seam xs ys)) (All-take P (length xs) (xs ++ ys) all)

-- and of those behind it
last-all : {X : Type 0} (P : X → Type 0) (xs ys : List X) → All P (xs ++ ys) → All P ys
last-all P xs ys all = All-same P ys (drop (length xs) (xs ++ ys)) (sym (drop-append_seam xs ys)) (All-drop P (length xs) (xs ++ ys) all)

-- names of logs that are merged, which may all be used with the plant before and the log behind them
pub merged_allowed : (may : List ℕ → Bool) (plant stem : List ℕ) (count : ℕ) (out : List ℕ) → All (λ name. IsTrue (may name)) (plant ∷ (merged_names stem count ++ out ∷ [])) → (number : ℕ) → number < count
    → IsTrue (may (log_name stem number))
unfolding merged_names
merged_allowed may plant stem count out all number below =
    let names = merged_names stem count in
    let rest = first-all (λ name. IsTrue (may name)) names (out ∷ []) (All-tail (λ name. IsTrue (may name)) plant (names ++ out ∷ []) all) in
    let long = length-map-range_with_len (log_name stem) 0 count in
    subst (λ (name : List ℕ). IsTrue (may name)) (get_or-map-range_with_len (log_name stem) 0 count number number [] below (omega arith)) (rest number [] (omega (arith, long, below)))

-- the log behind them
pub out_allowed : (may : List ℕ → Bool) (plant stem : List ℕ) (count : ℕ) (out : List ℕ) → All (λ name. IsTrue (may name)) (plant ∷ (merged_names stem count ++ out ∷ [])) → IsTrue (may out)
out_allowed may plant stem count out all =
    let names = merged_names stem count in
    let last = last-all (λ name. IsTrue (may name)) names (out ∷ []) (All-tail (λ name. IsTrue (may name)) plant (names ++ out ∷ []) all) in
    last 0 [] (omega arith)
