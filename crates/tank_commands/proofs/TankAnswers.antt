-- The answers of `whatif` over the bytes of a log.
use Rattle.std.proofs.Common.{◌≡◌, ℕ, ◌+◌, ◌<◌, ◌≤◌, ◌^◌, true, false, List, [], length, Option, Some, None, Ok, Err, nat_lt, refl, inl, inr, arith, ℤ}
use Rattle.std.specs.Prelude.{◌∷◌, IfOk, IfSome, MatchOption, Result, codes}
use Rattle.std.specs.Option.{option_map}
use Rattle.std.proofs.lemmas.Bool.{lt-ltb, le-ltb}
use Rattle.std.proofs.lemmas.List.Sorted.{length_permutation}
use Rattle.stn_edge.specs.Files.{FileMap, file_of}
use Rattle.stn_model.specs.declared.plant.Plant.{Plant}
use Rattle.stn_model.specs.declared.start.Start.{Start}
use Rattle.stn_model.specs.Sound.{Sound}
use Rattle.time_grid.specs.PlanPoint.{IsPlanOf, point_starts}
use Rattle.time_grid.specs.Slots.{slots}
use Rattle.time_grid.proofs.SlotList.{length-slots}
use Rattle.row_relax.specs.RowProofs.{RowTree}
use Rattle.proof_log.specs.declared.claim.Claim.{Claim}
use Rattle.proof_log.specs.declared.claim.Claim.TheVariants.{Optimal, Infeasible, Between, Below}
use Rattle.log_lines.specs.declared.defect.Defect.{Defect}
use Rattle.valid_log.specs.declared.verdict.LogVerdict.TheVariants.{No}
use Rattle.valid_log.specs.PlantLogs.{IsAnyChecked}
use Rattle.what_if.specs.declared.old.LogHead.{LogHead}
use Rattle.what_if.specs.OldLogs.{ClaimsPlan, IsValidFor}
use Rattle.plant_text.specs.Reading.{reading}
use Rattle.command_replies.specs.declared.reply.Reply.{Reply}
use Rattle.command_replies.specs.declared.stopped.Stopped.{Stopped}
use Rattle.command_replies.specs.Answers.{IsPlantAnswer, content}
use Rattle.command_replies.specs.Sources.{IfRefused, IfReplied, IsReadOf}
use Rattle.command_replies.proofs.AnswerLemmas.{replied_if, told_both}
use Rattle.answer_texts.specs.Checking.{checked_text}
use Rattle.tank_commands.specs.Estimating.{Estimated, IsTankText, OnBytes, OnTank, tank_number}
use Rattle.answer_texts.proofs.ReadBack.{length-point_starts}
use Rattle.command_replies.proofs.ReadFiles.{some_bytes}

-- ---- the plan of a claim

-- the plan of a point has no more starts than a plant may have slots
few_of_point : (plant : Plant) (point : List ℕ) (plan : List Start) → Sound plant → IsPlanOf plant point plan → length plan < 2 ^ 32
few_of_point plant point plan sound is =
    let same = length_permutation (point_starts plant (slots plant) point) plan is.starts in
    let few = length-point_starts plant (slots plant) point in
    let all = length-slots plant in
    let most = sound.counts.slots in
    omega (arith, same, few, all, most)

pub few_claimed : (plant : Plant) (claim : Claim) (plan : Option (List Start)) → Sound plant → ClaimsPlan plant claim plan → IfSome plan (λ starts. length starts < 2 ^ 32)
few_claimed plant claim None sound has = tt
few_claimed plant (Optimal earned point) (Some plan) sound has = few_of_point plant point plan sound has
few_claimed plant Infeasible (Some plan) sound has = absurd (cc)
few_claimed plant (Between earned most point) (Some plan) sound has = few_of_point plant point plan sound has
few_claimed plant (Below most) (Some plan) sound has = absurd (cc)

-- ---- a log

-- a log that is not too long and is valid
pub valid_answer : {E : Type 0} (plant : Plant) (number : ℕ) (step : ℤ) (count : ℕ) (log : List ℕ) (head : LogHead) (proof : RowTree) (claim : Claim) (r : Result Reply E) → length log ≤ 67108864 → IsValidFor plant log head proof claim
    → IfOk r (λ reply. reply.status ≡ 0) → IfOk r (λ reply. IsTankText plant number step count head proof claim reply.text.items) → IfOk r (λ reply. OnTank plant number step count log reply.status reply.text.items)
valid_answer plant number step count log head proof claim (Ok reply) short valid status says =
    let test : nat_lt 67108864 (length log) ≡ false = le-ltb 67108864 (length log) short in
    rw test (inr (record { head = head; proof = proof; claim = claim; valid = valid; status_is = status; says = says }))
valid_answer plant number step count log head proof claim (Err e) short valid status says = tt

-- a log that is not too long and has a defect
pub defect_answer : {E : Type 0} (plant : Plant) (number : ℕ) (step : ℤ) (count : ℕ) (log : List ℕ) (defect : Defect) (r : Result Reply E) → length log ≤ 67108864 → IsAnyChecked plant log (No defect)
    → IfOk r (λ reply. (reply.status ≡ 1) × (reply.text.items ≡ checked_text (No defect))) → IfOk r (λ reply. OnTank plant number step count log reply.status reply.text.items)
defect_answer plant number step count log defect (Ok reply) short right says =
    let test : nat_lt 67108864 (length log) ≡ false = le-ltb 67108864 (length log) short in
    rw test (inl (record { defect = defect; right = right; status_is = says.0; text_is = says.1 }))
defect_answer plant number step count log defect (Err e) short right says = tt

long_answer : (plant : Plant) (number : ℕ) (step : ℤ) (count : ℕ) (log : List ℕ) (status : ℕ) (text : List ℕ) → 67108864 < length log → (status ≡ 1) × (text ≡ codes "no 0 17\n") → OnTank plant number step count log status text
long_answer plant number step count log status text long is =
    let test : nat_lt 67108864 (length log) ≡ true = lt-ltb 67108864 (length log) long in
    rw test is

-- a file that is longer than a limit has bytes that are, whether they are told or not
on_long : (limit : ℕ) (files : Option FileMap) (name : List ℕ) (Answers : List ℕ → Type 0) → ((bytes : List ℕ) → limit < length bytes → Answers bytes) → IfSome files (λ m. limit < length (file_of m name)) → OnBytes (option_map (λ m. file_of m name) files) Answers
on_long limit None name Answers each long =
    let longer = some_bytes (limit + 1) in
    record { bytes = longer.0; are = tt; answers = each longer.0 (let more = longer.1 in omega (arith, more)) }
on_long limit (Some m) name Answers each long = record { bytes = file_of m name; are = refl; answers = each (file_of m name) long }

-- a log that is too long
pub too_long_answer : (files : Option FileMap) (name : List ℕ) (plant : Plant) (number : ℕ) (step : ℤ) (count status : ℕ) (text : List ℕ) → IfSome files (λ m. 67108864 < length (file_of m name)) → (status ≡ 1) × (text ≡ codes "no 0 17\n")
    → OnBytes (option_map (λ m. file_of m name) files) (λ bytes. OnTank plant number step count bytes status text)
too_long_answer files name plant number step count status text long is =
    on_long 67108864 files name (λ bytes. OnTank plant number step count bytes status text) (λ bytes more. long_answer plant number step count bytes status text more is) long

-- the answer on the bytes that were read of a file
pub read_answer : (files : Option FileMap) (name bytes : List ℕ) (Answers : List ℕ → Type 0) → IfSome files (λ m. bytes ≡ file_of m name) → Answers bytes → OnBytes (option_map (λ m. file_of m name) files) Answers
read_answer None name bytes Answers told is = record { bytes = bytes; are = tt; answers = is }
read_answer (Some m) name bytes Answers told is = record { bytes = bytes; are = told; answers = is }

-- an answer that does not rest on the bytes
any_bytes : (told : Option (List ℕ)) (Answers : List ℕ → Type 0) → ((bytes : List ℕ) → Answers bytes) → OnBytes told Answers
any_bytes None Answers each = record { bytes = []; are = tt; answers = each [] }
any_bytes (Some file) Answers each = record { bytes = file; are = refl; answers = each file }

-- a name that is not that of a state with limits
pub refused_answer : (told : Option (List ℕ)) (name : List ℕ) (step : ℤ) (count : ℕ) (plant : Plant) (status : ℕ) (text : List ℕ) → tank_number plant name ≡ None → (status ≡ 5) × (text ≡ codes "refused state\n")
    → OnBytes told (λ bytes. Estimated name step count bytes plant status text)
refused_answer told name step count plant status text none is = any_bytes told (λ bytes. Estimated name step count bytes plant status text) (λ bytes. rw none is)

-- ---- the files

-- bytes of a file that may be told
told_bytes : (files : Option FileMap) (name bytes : List ℕ) → MatchOption (option_map (λ m. file_of m name) files) (Unit {0}) (λ file. bytes ≡ file) → IfSome files (λ m. bytes ≡ file_of m name)
told_bytes None name bytes are = tt
told_bytes (Some m) name bytes are = are

-- an answer of estimating is one over the contents of the files
estimating_answer : (old new : Option FileMap) (plant log state : List ℕ) (step : ℤ) (count : ℕ) (p : Plant) (status : ℕ) (text : List ℕ) → new ≡ old → IsReadOf reading old plant (Ok p)
    → OnBytes (option_map (λ m. file_of m log) old) (λ bytes. Estimated state step count bytes p status text) → IsPlantAnswer old new plant (log ∷ []) (λ contents. Estimated state step count (content contents 1)) status text
estimating_answer old new plant log state step count p status text same read is = record {
  contents = read.bytes ∷ is.bytes ∷ [];
  told = told_both old plant read.bytes log is.bytes [] read.told (told_bytes old log is.bytes is.are);
  answers = rw read.is is.answers;
  kept = λ _. same;
}

-- what an estimate by a log that may be read replies
pub estimated_reply : (old new : Option FileMap) (plant log state : List ℕ) (step : ℤ) (count : ℕ) (p : Plant) (r : Result Reply Stopped) → new ≡ old → IsReadOf reading old plant (Ok p)
    → IfOk r (λ reply. OnBytes (option_map (λ m. file_of m log) old) (λ bytes. Estimated state step count bytes p reply.status reply.text.items)) → IfRefused r (λ _. ⊥)
    → IfReplied r (λ reply. IsPlantAnswer old new plant (log ∷ []) (λ contents. Estimated state step count (content contents 1)) reply.status reply.text.items)
estimated_reply old new plant log state step count p r same read is none =
    replied_if r (λ reply. OnBytes (option_map (λ m. file_of m log) old) (λ bytes. Estimated state step count bytes p reply.status reply.text.items))
    (λ reply. IsPlantAnswer old new plant (log ∷ []) (λ contents. Estimated state step count (content contents 1)) reply.status reply.text.items)
    (λ reply. estimating_answer old new plant log state step count p reply.status reply.text.items same read) is none
