-- The answer of checking a log: its text, and when it is right.
use Rattle.std.specs.Prelude.{◌≡◌, ℕ, List, ◌++◌, codes, decimal, Option, IfSome}
use Rattle.std.specs.Fmt.{signed_decimal}
use Rattle.proof_log.specs.declared.claim.Claim.{Claim}
use Rattle.proof_log.specs.declared.claim.Claim.TheVariants as claim
use Rattle.valid_log.specs.declared.verdict.LogVerdict.{LogVerdict}
use Rattle.valid_log.specs.declared.verdict.LogVerdict.TheVariants.{Yes, No}

-- a claim in words, to the end of the line
unfoldable pub claim_words : Claim → List ℕ
claim_words (claim.Optimal earned point) = codes "optimal " ++ (signed_decimal earned ++ codes "\n")
claim_words claim.Infeasible = codes "infeasible\n"
claim_words (claim.Between earned most point) = codes "between " ++ (signed_decimal earned ++ (codes " " ++ (signed_decimal most ++ codes "\n")))
claim_words (claim.Below most) = codes "below " ++ (signed_decimal most ++ codes "\n")

-- the line on a valid log: its claim
unfoldable pub claim_text : Claim → List ℕ
claim_text claim = codes "yes " ++ claim_words claim

-- the line on a log: the claim of a valid one, or the line and the kind of the first defect
unfoldable pub checked_text : LogVerdict → List ℕ
checked_text (Yes claim) = claim_text claim
checked_text (No defect) = codes "no " ++ (decimal defect.line ++ (codes " " ++ (decimal defect.kind ++ codes "\n")))

-- the exit status of a check
abbrev pub checked_status : LogVerdict → ℕ
checked_status (Yes claim) = 0
checked_status (No defect) = 1

-- The answer of checking a log: a verdict, with its status and its text. What it says holds, and where the log's bytes
-- are told, the verdict is the right one on them.
pub record Judged (IsRight : List ℕ → LogVerdict → Type 0) (Holds : LogVerdict → Type 0) (log : Option (List ℕ)) (status : ℕ) (text : List ℕ) : Type 0 where
  pub verdict : LogVerdict
  pub right : IfSome log (λ bytes. IsRight bytes verdict)
  pub says : Holds verdict
  pub status_is : status ≡ checked_status verdict
  pub text_is : text ≡ checked_text verdict
