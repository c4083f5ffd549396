-- What is read of files, and what refuses them.
use Rattle.std.specs.Prelude.{◌≡◌, ℕ, ⊤, List, Option, IfSome, Result, Err, IfErr, MatchResult}
use Rattle.stn_edge.specs.Files.{FileMap, file_of}
use Rattle.stn_model.specs.declared.plant.Plant.{Plant}
use Rattle.stn_model.specs.declared.start.Start.{Start}
use Rattle.plant_text.specs.declared.fault.PlantFault.{PlantFault}
use Rattle.plan_text.specs.declared.fault.PlanFault.{PlanFault}
use Rattle.command_replies.specs.declared.reply.Reply.{Reply}
use Rattle.command_replies.specs.declared.stopped.Stopped.{Stopped}
use Rattle.command_replies.specs.declared.stopped.Stopped.TheVariants.{Refused, ReadFault, WriteFault, Memory}
use Rattle.command_replies.specs.Lines.{fault_text, plan_fault_text}

-- Some bytes, of which this is the reading: where the files are told, those of the file of this name.
pub record IsReadOf {R : Type 0} (reading_of : List ℕ → R) (files : Option FileMap) (name : List ℕ) (read : R) : Type 0 where
  pub bytes : List ℕ
  pub told : IfSome files (λ m. bytes ≡ file_of m name)
  pub is : reading_of bytes ≡ read

-- the reply to a plant file with this fault: status 3 and the fault's line
abbrev pub IsPlantRefusal : PlantFault → ℕ → List ℕ → Type 0
IsPlantRefusal fault status text = (status ≡ 3) × (text ≡ fault_text fault)

-- the reply to a plan file with this fault: status 4 and the fault's line
abbrev pub IsPlanRefusal : PlanFault → ℕ → List ℕ → Type 0
IsPlanRefusal fault status text = (status ≡ 4) × (text ≡ plan_fault_text fault)

-- the answer of a command on a plant file: what the command answers of the plant, and where the file
-- has a fault, the refusal by its first fault
abbrev pub OnPlant : Result Plant PlantFault → (Plant → ℕ → List ℕ → Type 0) → ℕ → List ℕ → Type 0
OnPlant read Answers status text = MatchResult read (λ plant. Answers plant status text) (λ fault. IsPlantRefusal fault status text)

-- the answer of a command on a plan file: what the command answers of the plan, and where the file has
-- a fault, the refusal by its first fault
abbrev pub OnPlan : Result (List Start) PlanFault → (List Start → ℕ → List ℕ → Type 0) → ℕ → List ℕ → Type 0
OnPlan read Answers status text = MatchResult read (λ plan. Answers plan status text) (λ fault. IsPlanRefusal fault status text)

-- the fault of a plan file that is too long
abbrev pub plan_too_long : PlanFault
plan_too_long = record { kind = 4; line = 0 }

-- the reading of the bytes ends in a fault, and the reply is the refusal by it
pub record IsRefusedAs {X E : Type 0} (reading_of : List ℕ → Result X E) (IsRefusal : E → ℕ → List ℕ → Type 0) (bytes : List ℕ) (reply : Reply) : Type 0 where
  pub fault : E
  pub is : reading_of bytes ≡ Err fault
  pub refusal : IsRefusal fault reply.status reply.text.items

-- the reading of the file ends in a fault, and the reply is the refusal by it
pub record Refuses {X E : Type 0} (reading_of : List ℕ → Result X E) (IsRefusal : E → ℕ → List ℕ → Type 0) (files : Option FileMap) (name : List ℕ) (reply : Reply) : Type 0 where
  pub fault : E
  pub read : IsReadOf reading_of files name (Err fault)
  pub refusal : IsRefusal fault reply.status reply.text.items

-- where it is a refusal, its reply is such a one
abbrev pub IfRefusal : Stopped → (Reply → Type 0) → Type 0
IfRefusal (Refused reply) P = P reply
IfRefusal ReadFault P = ⊤
IfRefusal WriteFault P = ⊤
IfRefusal Memory P = ⊤

-- where an input was refused, the reply is such a one
abbrev pub IfRefused : {X : Type 0} → Result X Stopped → (Reply → Type 0) → Type 0
IfRefused result P = IfErr result (λ stopped. IfRefusal stopped P)

-- where there is a reply, of the whole work or in refusing an input, it is such a one
abbrev pub IfReplied : Result Reply Stopped → (Reply → Type 0) → Type 0
IfReplied result P = MatchResult result P (λ stopped. IfRefusal stopped P)
