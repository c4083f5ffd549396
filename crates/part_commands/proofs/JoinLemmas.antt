-- Joining logs: its answer, and what it leaves.
use Rattle.std.proofs.Common.{◌≡◌, ℕ, ◌≤◌, ◌<◌, ◌^◌, List, [], ◌∷◌, length, All, Bool, IsTrue, inl, inr, arith, append-nil, subst}
use Rattle.std.proofs.lemmas.List.Elements.{All-tail}
use Rattle.std.proofs.lemmas.List.FromFn.{get_or-map-range_with_len, length-map-range_with_len}
use Rattle.std.specs.Prelude.{Option, Some, None, Result, Ok, Err, IfOk, IfSome}
use Rattle.stn_edge.specs.Files.{FileMap, file_of}
use Rattle.stn_model.specs.declared.plant.Plant.{Plant}
use Rattle.time_grid.specs.Slots.{slots}
use Rattle.proof_log.specs.declared.claim.Claim.{Claim}
use Rattle.log_parts.specs.declared.joins.Joined.{Joined}
use Rattle.log_parts.specs.declared.joins.Joined.TheVariants.{Done, No}
use Rattle.log_parts.specs.PartLogs.{IsJoinedLog, IsJoinBegun, IsJoiningIn, IsNo, logs_of}
use Rattle.command_replies.specs.declared.reply.Reply.{Reply}
use Rattle.proof_log.specs.LogNames.{log_name}
use Rattle.part_commands.specs.JoiningParts.{join_status, part_names, JoinAnswered, LeavesJoined}
use Rattle.command_replies.specs.Answers.{IsUnwritten}
use Rattle.command_replies.proofs.AnswerLemmas.{written}

-- a whole joined log is a first part of it
whole : (plant : Plant) (levels : ℕ) (logs : ℕ → List ℕ) (claim : Claim) (bytes : List ℕ) → IsJoinedLog plant levels logs claim bytes → IsJoinBegun plant levels logs bytes
whole plant levels logs claim bytes is = record { claim = claim; rest = []; begun = rw (append-nil bytes) is }

-- the same of files that may be told
whole-in : (plant : Plant) (levels : ℕ) (stem log : List ℕ) (old new : Option FileMap) (claim : Claim) → IsJoiningIn plant levels stem log old new (Done claim)
    → IfSome old (λ m. IfSome new (λ n. IsJoinBegun plant levels (logs_of m stem) (file_of n log)))
whole-in plant levels stem log None new claim is = tt
whole-in plant levels stem log (Some m) None claim is = tt
whole-in plant levels stem log (Some m) (Some n) claim is = whole plant levels (logs_of m stem) claim (file_of n log) is

-- what joining leaves that ended
pub joined_leaves : (plant : Plant) (levels : ℕ) (stem log : List ℕ) (old new : Option FileMap) (said : Joined) → levels ≤ length (slots plant) → IsJoiningIn plant levels stem log old new said
    → (IsNo said → new ≡ old) → LeavesJoined plant levels stem log old new
joined_leaves plant levels stem log old new (Done claim) enough right kept = inr (enough, inr (whole-in plant levels stem log old new claim right))
joined_leaves plant levels stem log old new (No part defect) enough right kept = inl (kept tt)

-- the status of what joining comes to is that of no refusal
join-status : (said : Joined) (status : ℕ) → status ≡ join_status said → IsUnwritten status → ⊥
join-status (Done claim) status is none = written status (λ s. omega (arith, is, s)) (λ s. omega (arith, is, s)) (λ s. omega (arith, is, s)) (λ s. omega (arith, is, s)) none
join-status (No part defect) status is none = written status (λ s. omega (arith, is, s)) (λ s. omega (arith, is, s)) (λ s. omega (arith, is, s)) (λ s. omega (arith, is, s)) none

pub join_written : {E : Type 0} (old new : Option FileMap) (levels : ℕ) (stem log : List ℕ) (plant : Plant) (Unchanged : Type 0) (r : Result Reply E)
    → IfOk r (λ reply. JoinAnswered old new levels stem log plant reply.status reply.text.items) → IfOk r (λ reply. IsUnwritten reply.status → Unchanged)
join_written old new levels stem log plant Unchanged (Ok reply) is = λ none. absurd (join-status is.said reply.status is.status_is none)
join_written old new levels stem log plant Unchanged (Err e) is = tt

-- names of the logs of parts that may all be used, after a first one
pub parts_allowed : (may : List ℕ → Bool) (first stem : List ℕ) (levels : ℕ) → All (λ name. IsTrue (may name)) (first ∷ part_names stem levels) → (part : ℕ) → part < 2 ^ levels → IsTrue (may (log_name stem part))
unfolding part_names
parts_allowed may first stem levels all part below =
    let rest = All-tail (λ name. IsTrue (may name)) first (part_names stem levels) all in
    let long = length-map-range_with_len (log_name stem) 0 (2 ^ levels) in
    subst (λ (name : List ℕ). IsTrue (may name)) (get_or-map-range_with_len (log_name stem) 0 (2 ^ levels) part part [] below (omega arith)) (rest part [] (omega (arith, long, below)))
