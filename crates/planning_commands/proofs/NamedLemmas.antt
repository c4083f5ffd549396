-- What is left where a log may be named.
use Rattle.std.proofs.Common.{◌≡◌, ℕ, List, Option, Some, None}
use Rattle.stn_edge.specs.Files.{FileMap}
use Rattle.planning_commands.specs.NamedLog.{LogLeft}

-- where no file has changed, what any log leaves that is as it was
pub left-same : (log : Option (List ℕ)) (Left : List ℕ → Type 0) (old new : Option FileMap) → new ≡ old → ((name : List ℕ) → Left name) → LogLeft log Left old new
left-same None Left old new same is = same
left-same (Some name) Left old new same is = is name

-- what is left of one kind is left of another that follows
pub left-as : (log : Option (List ℕ)) (A B : List ℕ → Type 0) (old new : Option FileMap) → ((name : List ℕ) → A name → B name) → LogLeft log A old new → LogLeft log B old new
left-as None A B old new step is = is
left-as (Some name) A B old new step is = step name is
