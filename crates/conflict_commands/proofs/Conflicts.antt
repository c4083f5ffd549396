-- Conflicts, their texts, and their files.
use Rattle.std.proofs.Common.{◌≡◌, ◌≢◌, ℕ, Bool, true, false, cond, List, ◌++◌, codes, Option, Some, None, inl, inr, ap, sym, subst, ◌∙◌, arith, append_assoc}
use Rattle.std.specs.Prelude.{ℤ, IfSome}
use Rattle.std.specs.Fmt.{signed_decimal}
use Rattle.stn_edge.specs.Files.{FileMap, file_of, OthersStay}
use Rattle.stn_model.specs.declared.plant.Plant.{Plant}
use Rattle.stn_model.specs.declared.start.Start.{Start}
use Rattle.stn_model.specs.declared.answer.Answer.TheVariants.{Infeasible}
use Rattle.stn_model.specs.Sound.{Sound}
use Rattle.plan_text.specs.PlanLines.{plan_lines}
use Rattle.plan_told.specs.Proofs.{bytes_in}
use Rattle.proof_log.specs.LogNames.{log_name}
use Rattle.least_horizon.proofs.LogFiles.{log_name-injective, bytes_same}
use Rattle.command_replies.specs.declared.reply.Reply.{Reply}
use Rattle.command_replies.specs.Answers.{IsUnwritten}
use Rattle.command_replies.proofs.AnswerLemmas.{written}
use Rattle.answer_texts.proofs.Named.{named-Feasible}
use Rattle.order_conflict.specs.declared.answer.ConflictAnswer.{ConflictAnswer}
use Rattle.order_conflict.specs.declared.answer.ConflictAnswer.TheVariants.{Planned, Unsettled, Among, Unproved}
use Rattle.order_conflict.specs.Conflict.{IsConflict}
use Rattle.order_conflict.specs.Logged.{FileStays, HoldsLogOf, IsLogOf, LeavesStepLog}
use Rattle.conflict_commands.specs.Finding.{answer_status, answer_text, has_open, IsPrintable}
use Rattle.conflict_commands.specs.Logging.{FoundWithLog, IsPut, IsTextBegun, LeavesConflict, OthersStayPair}
use Rattle.conflict_commands.proofs.PutText.{stays_same}

-- a right answer can be printed
pub printable : (plant : Plant) (budget : ℕ) (said : ConflictAnswer) → Sound plant → IsConflict plant budget said → IsPrintable plant said
printable plant budget (Planned earned plan) sound right = named-Feasible plant plan sound right.0
printable plant budget Unsettled sound right = tt
printable plant budget (Among marks) sound right = right.1.each
printable plant budget (Unproved marks) sound right = absurd right

-- so can one with its log
pub printable_log : (plant : Plant) (budget : ℕ) (name : List ℕ) (old new : Option FileMap) (said : ConflictAnswer) → Sound plant → IsLogOf plant budget name old new said → IsPrintable plant said
printable_log plant budget name old new (Planned earned plan) sound right = named-Feasible plant plan sound right.0.0
printable_log plant budget name old new Unsettled sound right = tt
printable_log plant budget name old new (Among marks) sound right = right.0.1.each
printable_log plant budget name old new (Unproved marks) sound right = tt

-- a head followed by the lines of a plan is the text of an answer
pub plan_answer : (plant : Plant) (earned : ℤ) (plan : List Start) (head : List ℕ) → head ≡ codes "# feasible " ++ (signed_decimal earned ++ codes "\n") → head ++ plan_lines plant plan ≡ answer_text plant (Planned earned plan)
unfolding answer_text
plan_answer plant earned plan head is = ap (λ (h : List ℕ). h ++ plan_lines plant plan) is ∙ simp append_assoc

-- the status of an answer is that of no refusal
six_or_none : (some : Bool) (status : ℕ) → status ≡ cond some 6 0 → IsUnwritten status → ⊥
six_or_none true status is none = written status (λ s. omega (arith, is, s)) (λ s. omega (arith, is, s)) (λ s. omega (arith, is, s)) (λ s. omega (arith, is, s)) none
six_or_none false status is none = written status (λ s. omega (arith, is, s)) (λ s. omega (arith, is, s)) (λ s. omega (arith, is, s)) (λ s. omega (arith, is, s)) none

pub found-status : (said : ConflictAnswer) (status : ℕ) → status ≡ answer_status said → IsUnwritten status → ⊥
found-status (Planned earned plan) status is none = six_or_none false status is none
found-status Unsettled status is none = six_or_none true status is none
found-status (Among marks) status is none = six_or_none (has_open marks.items) status is none
found-status (Unproved marks) status is none = six_or_none true status is none

-- STEM.0 and STEM.1 are two files
pub two_names : (stem : List ℕ) → log_name stem 0 ≢ log_name stem 1
two_names stem = λ same. let e : 0 ≡ 1 = log_name-injective stem 0 1 (omega arith) (omega arith) same in absurd (omega (arith, e))

pub two_names_back : (stem : List ℕ) → log_name stem 1 ≢ log_name stem 0
two_names_back stem = λ same. two_names stem (sym same)

-- the log of an answer stays while another file is written
pub log_stays : (plant : Plant) (budget : ℕ) (name : List ℕ) (old mid new : Option FileMap) (said : ConflictAnswer) → FileStays name mid new → IsLogOf plant budget name old mid said → IsLogOf plant budget name old new said
log_stays plant budget name old mid new (Planned earned plan) stays is = (is.0, stays ∙ is.1)
log_stays plant budget name old mid new Unsettled stays is = (is.0, stays ∙ is.1)
log_stays plant budget name old mid new (Among marks) stays is =
    (is.0, subst (λ (log : Option (List ℕ)). HoldsLogOf plant budget log marks.items (λ answer. answer ≡ Infeasible)) (sym (bytes_same name mid new stays)) is.1)
log_stays plant budget name old mid new (Unproved marks) stays is =
    (is.0, subst (λ (log : Option (List ℕ)). HoldsLogOf plant budget log marks.items (λ answer. answer ≢ Infeasible)) (sym (bytes_same name mid new stays)) is.1)

-- what is left before anything is written
pub left_none : (plant : Plant) (budget : ℕ) (stem : List ℕ) (old new : Option FileMap) → new ≡ old → LeavesConflict plant budget stem old new
left_none plant budget stem old new same = inl (inl (stays_same (log_name stem 1) old new same), stays_same (log_name stem 0) old new same)

-- where the log was stopped
pub left_log : (plant : Plant) (budget : ℕ) (stem : List ℕ) (old new : Option FileMap) → LeavesStepLog plant budget (log_name stem 1) old new → OthersStay (log_name stem 1) old new → LeavesConflict plant budget stem old new
left_log plant budget stem old new left others = inl (left, others (log_name stem 0) (two_names stem))

text_moved : (name bytes : List ℕ) (old mid new : Option FileMap) → FileStays name old mid → IsTextBegun name bytes mid new → IsTextBegun name bytes old new
text_moved name bytes old mid new stays (inl same) = inl (same ∙ stays)
text_moved name bytes old mid new stays (inr begun) = inr begun

-- where the text was stopped, or is whole
pub left_text : (plant : Plant) (budget : ℕ) (stem : List ℕ) (old mid new : Option FileMap) (said : ConflictAnswer)
    → IsLogOf plant budget (log_name stem 1) old mid said → OthersStay (log_name stem 1) old mid → OthersStay (log_name stem 0) mid new → IsTextBegun (log_name stem 0) (answer_text plant said) mid new → LeavesConflict plant budget stem old new
left_text plant budget stem old mid new said log before after begun =
    inr (
      said,
      (
        log_stays plant budget (log_name stem 1) old mid new said (after (log_name stem 1) (two_names_back stem)) log,
        text_moved (log_name stem 0) (answer_text plant said) old mid new (before (log_name stem 0) (two_names stem)) begun,
      ),
    )

-- every file but the two is as before
pub pair_log : (stem : List ℕ) (old new : Option FileMap) → OthersStay (log_name stem 1) old new → OthersStayPair stem old new
pair_log stem old new others = λ name first second. others name second

pub pair_both : (stem : List ℕ) (old mid new : Option FileMap) → OthersStay (log_name stem 1) old mid → OthersStay (log_name stem 0) mid new → OthersStayPair stem old new
pair_both stem old mid new before after = λ name first second. after name first ∙ before name second

pub pair_same : (stem : List ℕ) (old new : Option FileMap) → new ≡ old → OthersStayPair stem old new
pair_same stem old new same = λ name first second. stays_same name old new same

told_text : (name bytes : List ℕ) (files : Option FileMap) → IfSome files (λ m. file_of m name ≡ bytes) → IfSome (bytes_in name files) (λ own. own ≡ bytes)
told_text name bytes None is = tt
told_text name bytes (Some m) is = is

-- the answer with its log
pub found_log : (plant : Plant) (budget : ℕ) (stem : List ℕ) (old mid new : Option FileMap) (said : ConflictAnswer) (reply : Reply) → IsLogOf plant budget (log_name stem 1) old mid said → OthersStay (log_name stem 0) mid new
    → IsPut plant said stem new reply → FoundWithLog budget stem old new plant reply.status reply.text.items
found_log plant budget stem old mid new said reply log after put = record {
  said = said;
  right = log_stays plant budget (log_name stem 1) old mid new said (after (log_name stem 1) (two_names_back stem)) log;
  written = told_text (log_name stem 0) reply.text.items new put.told;
  status_is = put.status_is;
  text_is = put.text_is;
}
