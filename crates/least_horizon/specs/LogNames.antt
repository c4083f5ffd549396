-- The files of the logs of the horizons.
use Rattle.std.specs.Prelude.{◌≡◌, ◌≢◌, ◌<◌, ◌≤◌, ℕ, Bool, IsTrue, List, Option}
use Rattle.std.specs.Option.{option_map}
use Rattle.std.specs.FinMap.{get}
use Rattle.stn_edge.specs.Files.{FileMap}
use Rattle.proof_log.specs.LogNames.{log_name}
use Rattle.plan_told.specs.Proofs.{bytes_in}

-- the bytes of the logs of a stem, by their horizons, where files are told
abbrev pub logs_in : List ℕ → Option FileMap → ℕ → Option (List ℕ)
logs_in stem files horizon = bytes_in (log_name stem horizon) files

-- the logs of the horizons from 1 on that are shorter than this one may be used
abbrev pub AreAllowed : (List ℕ → Bool) → List ℕ → ℕ → Type 0
AreAllowed may stem horizon = (g : ℕ) → 1 ≤ g → g < horizon → IsTrue (may (log_name stem g))

-- every file is as it was, but the logs of the horizons from 1 on that are shorter than this one
abbrev pub OthersStayBelow : List ℕ → ℕ → Option FileMap → Option FileMap → Type 0
OthersStayBelow stem horizon old new =
    (name : List ℕ) → ((g : ℕ) → 1 ≤ g → g < horizon → name ≢ log_name stem g) → option_map (λ files. get files name) new ≡ option_map (λ files. get files name) old
