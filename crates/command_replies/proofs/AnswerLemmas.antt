-- The answers of commands over the contents of their files.
use Rattle.std.proofs.Common.{◌≡◌, ◌≢◌, ℕ, List, [], ◌∷◌, map, Option, Some, None, Ok, Err, ap, ◌∙◌, inl, inr}
use Rattle.std.specs.Prelude.{◌⊎◌, IfSome, IfOk, Result}
use Rattle.stn_edge.specs.Files.{FileMap, file_of}
use Rattle.stn_model.specs.declared.plant.Plant.{Plant}
use Rattle.stn_model.specs.declared.start.Start.{Start}
use Rattle.plant_text.specs.Reading.{reading}
use Rattle.plan_text.specs.PlanText.{plan_of_text}
use Rattle.command_replies.specs.declared.reply.Reply.{Reply}
use Rattle.command_replies.specs.declared.stopped.Stopped.{Stopped}
use Rattle.command_replies.specs.declared.stopped.Stopped.TheVariants.{Refused, ReadFault, WriteFault, Memory}
use Rattle.command_replies.specs.Sources.{IsReadOf, IsPlantRefusal, IsPlanRefusal, Refuses, IfRefusal, IfRefused, IfReplied}
use Rattle.command_replies.specs.Answers.{IsPlantAnswer, IsPlanAnswer, IsUnwritten}

-- ---- contents

-- what a file holds where it is told, else nothing
abbrev pub told_or_empty : Option FileMap → List ℕ → List ℕ
told_or_empty None name = []
told_or_empty (Some m) name = file_of m name

-- the contents of a first file and of others
pub told_first : (files : Option FileMap) (name bytes : List ℕ) (names : List (List ℕ)) → IfSome files (λ m. bytes ≡ file_of m name)
    → IfSome files (λ m. (bytes ∷ map (told_or_empty files) names) ≡ map (file_of m) (name ∷ names))
told_first None name bytes names told = tt
told_first (Some m) name bytes names told = ap (λ (b : List ℕ). b ∷ map (file_of m) names) told

-- the contents of two files and of others
pub told_both : (files : Option FileMap) (name bytes name2 bytes2 : List ℕ) (names : List (List ℕ)) → IfSome files (λ m. bytes ≡ file_of m name) → IfSome files (λ m. bytes2 ≡ file_of m name2)
    → IfSome files (λ m. (bytes ∷ bytes2 ∷ map (told_or_empty files) names) ≡ map (file_of m) (name ∷ name2 ∷ names))
told_both None name bytes name2 bytes2 names told told2 = tt
told_both (Some m) name bytes name2 bytes2 names told told2 =
    ap (λ (b : List ℕ). b ∷ bytes2 ∷ map (file_of m) names) told ∙ ap (λ (b : List ℕ). file_of m name ∷ b ∷ map (file_of m) names) told2

-- ---- statuses

-- a status that is none of these
pub written : (status : ℕ) → status ≢ 2 → status ≢ 3 → status ≢ 4 → status ≢ 5 → IsUnwritten status → ⊥
written status two three four five (inl is) = two is
written status two three four five (inr (inl is)) = three is
written status two three four five (inr (inr (inl is))) = four is
written status two three four five (inr (inr (inr is))) = five is

-- the statuses of refused inputs are among those after which no file has changed
pub of_refusal : (status : ℕ) → (status ≡ 3) ⊎ (status ≡ 4) → IsUnwritten status
of_refusal status (inl three) = inr (inl three)
of_refusal status (inr four) = inr (inr (inl four))

-- ---- replies

-- a fact of a refusal's reply from another
pub IfRefusal-weaker : (stopped : Stopped) (P Q : Reply → Type 0) → ((reply : Reply) → P reply → Q reply) → IfRefusal stopped P → IfRefusal stopped Q
IfRefusal-weaker (Refused reply) P Q step is = step reply is
IfRefusal-weaker ReadFault P Q step is = tt
IfRefusal-weaker WriteFault P Q step is = tt
IfRefusal-weaker Memory P Q step is = tt

-- what holds of every reply
pub replied : (r : Result Reply Stopped) (P : Reply → Type 0) → ((reply : Reply) → P reply) → IfReplied r P
replied (Ok reply) P is = is reply
replied (Err (Refused reply)) P is = is reply
replied (Err ReadFault) P is = tt
replied (Err WriteFault) P is = tt
replied (Err Memory) P is = tt

-- what follows of each reply from a fact of it
pub replied_from : (r : Result Reply Stopped) (P Q : Reply → Type 0) → ((reply : Reply) → P reply → Q reply) → IfReplied r P → IfReplied r Q
replied_from (Ok reply) P Q step is = step reply is
replied_from (Err (Refused reply)) P Q step is = step reply is
replied_from (Err ReadFault) P Q step is = tt
replied_from (Err WriteFault) P Q step is = tt
replied_from (Err Memory) P Q step is = tt

-- where a fact of a reply makes another, it makes it of whatever is replied, if no input was refused
pub replied_if : (r : Result Reply Stopped) (P R : Reply → Type 0) → ((reply : Reply) → P reply → R reply) → IfOk r P → IfRefused r (λ _. ⊥) → IfReplied r R
replied_if (Ok reply) P R step is none = step reply is
replied_if (Err (Refused reply)) P R step is none = absurd none
replied_if (Err ReadFault) P R step is none = tt
replied_if (Err WriteFault) P R step is none = tt
replied_if (Err Memory) P R step is none = tt

-- where two facts of a reply make a third, they make it of whatever is replied, if no input was refused
pub replied_by : (r : Result Reply Stopped) (P Q R : Reply → Type 0) → ((reply : Reply) → P reply → Q reply → R reply) → IfOk r P → IfOk r Q → IfRefused r (λ _. ⊥) → IfReplied r R
replied_by (Ok reply) P Q R step is also none = step reply is also
replied_by (Err (Refused reply)) P Q R step is also none = absurd none
replied_by (Err ReadFault) P Q R step is also none = tt
replied_by (Err WriteFault) P Q R step is also none = tt
replied_by (Err Memory) P Q R step is also none = tt

-- ---- on a plant file

module _ (old new : Option FileMap) (plant : List ℕ) (others : List (List ℕ)) (Answers : List (List ℕ) → Plant → ℕ → List ℕ → Type 0) where
  -- the refusal of the plant is an answer, where the files are as before
  refused-plant : (reply : Reply) → new ≡ old → Refuses reading IsPlantRefusal old plant reply → IsPlantAnswer old new plant others Answers reply.status reply.text.items
  refused-plant reply same is = record {
    contents = is.read.bytes ∷ map (told_or_empty old) others;
    told = told_first old plant is.read.bytes others is.read.told;
    answers = rw is.read.is is.refusal;
    kept = λ _. same;
  }

  -- the plant was refused
  pub plant_refused : (stopped : Stopped) → new ≡ old → IfRefusal stopped (Refuses reading IsPlantRefusal old plant) → IfRefusal stopped (λ reply. IsPlantAnswer old new plant others Answers reply.status reply.text.items)
  plant_refused stopped same is =
      IfRefusal-weaker stopped (Refuses reading IsPlantRefusal old plant) (λ reply. IsPlantAnswer old new plant others Answers reply.status reply.text.items) (λ reply. refused-plant reply same) is

  -- what is answered of the plant, with whatever the other files hold
  pub plant_answer : (p : Plant) (read : IsReadOf reading old plant (Ok p)) (status : ℕ) (text : List ℕ) → Answers (read.bytes ∷ map (told_or_empty old) others) p status text
      → ((status ≡ 3) ⊎ (status ≡ 4) → new ≡ old) → IsPlantAnswer old new plant others Answers status text
  plant_answer p read status text is kept = record {
    contents = read.bytes ∷ map (told_or_empty old) others;
    told = told_first old plant read.bytes others read.told;
    answers = rw read.is is;
    kept = kept;
  }

-- ---- on a plant file and a plan file

module _ (old new : Option FileMap) (plant plan : List ℕ) (others : List (List ℕ)) (Answers : Plant → List Start → ℕ → List ℕ → Type 0) (p : Plant) (read : IsReadOf reading old plant (Ok p)) where
  -- the refusal of the plan is an answer, where the files are as before
  refused-plan : (reply : Reply) → new ≡ old → Refuses (plan_of_text p) IsPlanRefusal old plan reply → IsPlanAnswer old new plant plan others Answers reply.status reply.text.items
  refused-plan reply same is = record {
    contents = read.bytes ∷ is.read.bytes ∷ map (told_or_empty old) others;
    told = told_both old plant read.bytes plan is.read.bytes others read.told is.read.told;
    answers = rw (read.is, is.read.is) is.refusal;
    kept = λ _. same;
  }

  -- the plan was refused
  pub plan_refused : (stopped : Stopped) → new ≡ old → IfRefusal stopped (Refuses (plan_of_text p) IsPlanRefusal old plan) → IfRefusal stopped (λ reply. IsPlanAnswer old new plant plan others Answers reply.status reply.text.items)
  plan_refused stopped same is =
      IfRefusal-weaker stopped (Refuses (plan_of_text p) IsPlanRefusal old plan) (λ reply. IsPlanAnswer old new plant plan others Answers reply.status reply.text.items) (λ reply. refused-plan reply same) is

  -- what is answered of the plant and the plan
  pub plan_answer : (starts : List Start) (read2 : IsReadOf (plan_of_text p) old plan (Ok starts)) (status : ℕ) (text : List ℕ) → Answers p starts status text
      → ((status ≡ 3) ⊎ (status ≡ 4) → new ≡ old) → IsPlanAnswer old new plant plan others Answers status text
  plan_answer starts read2 status text is kept = record {
    contents = read.bytes ∷ read2.bytes ∷ map (told_or_empty old) others;
    told = told_both old plant read.bytes plan read2.bytes others read.told read2.told;
    answers = rw (read.is, read2.is) is;
    kept = kept;
  }
