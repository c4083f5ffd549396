-- Replies over the starts that are kept of a plan.
use Rattle.std.proofs.Common.{◌≡◌, ℕ, List, Ok, Err, inl, inr}
use Rattle.std.specs.Prelude.{⊤, IfOk, Result}
use Rattle.stn_model.specs.declared.plant.Plant.{Plant}
use Rattle.stn_model.specs.declared.start.Start.{Start}
use Rattle.stn_model.specs.declared.violation.Violation.{Violation}
use Rattle.row_kit.specs.declared.program.Program.{Program}
use Rattle.frozen_plan.specs.Keeping.{CannotStand}
use Rattle.command_replies.specs.declared.reply.Reply.{Reply}
use Rattle.answer_texts.specs.Simulation.{violation_text}
use Rattle.answer_texts.specs.Kept.{OnKept}

module _ {E : Type 0} (plant : Plant) (period : ℕ) (kept : List Start) where
  -- of starts that don't stand together
  pub broken_open : (Unchanged : Type 0) (Answers : Program → ℕ → List ℕ → Type 0) (violation : Violation) (r : Result Reply E) → Unchanged → CannotStand plant period kept violation
      → IfOk r (λ reply. (reply.status ≡ 1) × (reply.text.items ≡ violation_text plant violation)) → IfOk r (λ reply. OnKept plant period kept Unchanged Answers reply.status reply.text.items)
  broken_open Unchanged Answers violation (Ok reply) same cannot is = inl (record { violation = violation; cannot = cannot; status_is = is.0; text_is = is.1 }, same)
  broken_open Unchanged Answers violation (Err e) same cannot is = tt

-- where no file can have changed, none has
pub unchanged : (plant : Plant) (period : ℕ) (kept : List Start) (Unchanged : Type 0) (Answers : Program → ℕ → List ℕ → Type 0) (status : ℕ) (text : List ℕ) → Unchanged → OnKept plant period kept ⊤ Answers status text
    → OnKept plant period kept Unchanged Answers status text
unchanged plant period kept Unchanged Answers status text same (inl broken) = inl (broken.0, same)
unchanged plant period kept Unchanged Answers status text same (inr open_) = inr open_
