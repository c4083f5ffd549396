-- Files that are as before.
use Rattle.std.proofs.Common.{◌≡◌, ℕ, List, Option, ap}
use Rattle.std.specs.Option.{option_map}
use Rattle.std.specs.FinMap.{get}
use Rattle.stn_edge.specs.Files.{FileMap, OthersStay}

-- where all files are as before, so is every file but one
pub stay_same : (log : List ℕ) (old new : Option FileMap) → new ≡ old → OthersStay log old new
stay_same log old new same = λ name others. ap (λ (files : Option FileMap). option_map (λ m. get m name) files) same
