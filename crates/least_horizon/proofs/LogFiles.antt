-- The logs of shorter horizons stay while the log of a horizon is written.
use Rattle.std.proofs.Common.{◌≡◌, ◌≢◌, ℕ, ◌+◌, ◌^◌, ◌<◌, ◌≤◌, List, [], ◌++◌, codes, decimal, option_map, Option, None, Some, refl, ap, ◌∙◌, sym, subst, arith}
use Rattle.std.specs.Prelude.{unwrap_or, Result, Ok, Err, OnErr}
use Rattle.std.specs.FinMap.{get}
use Rattle.std.proofs.lemmas.Fmt.{decimal_injective}
use Rattle.std.proofs.lemmas.List.{append_cancel_left}
use Rattle.stn_edge.specs.Files.{FileMap, OthersStay}
use Rattle.stn_model.specs.declared.plant.Plant.{Plant}
use Rattle.plan_told.specs.Proofs.{HasPlantProof, IsLeftOf, bytes_in}
use Rattle.shorter_plant.specs.PlantAt.{plant_at}
use Rattle.proof_log.specs.LogNames.{log_name}
use Rattle.least_horizon.specs.LogNames.{logs_in, OthersStayBelow}
use Rattle.least_horizon.specs.Least.{AreInfeasible}

-- two numbers of a stem have two names
pub log_name-injective : (stem : List ℕ) (g h : ℕ) → g < 2 ^ 64 → h < 2 ^ 64 → log_name stem g ≡ log_name stem h → g ≡ h
unfolding log_name
log_name-injective stem g h small_g small_h same =
    decimal_injective g h small_g small_h (append_cancel_left (codes ".") (decimal g) (decimal h) (append_cancel_left stem (codes "." ++ decimal g) (codes "." ++ decimal h) same))

-- a file that stays has the same bytes
pub bytes_same : (name : List ℕ) (old new : Option FileMap) → option_map (λ files. get files name) new ≡ option_map (λ files. get files name) old → bytes_in name new ≡ bytes_in name old
bytes_same name None None same = refl
bytes_same name None (Some new) same = absurd cc
bytes_same name (Some old) None same = absurd cc
bytes_same name (Some old) (Some new) same = let e : get new name ≡ get old name = cc in ap (λ o. Some (unwrap_or o [])) e

-- the logs of shorter horizons are as they were
pub still_infeasible : (plant : Plant) (budget : ℕ) (stem : List ℕ) (horizon : ℕ) (old new : Option FileMap) → horizon < 2 ^ 64 → OthersStay (log_name stem horizon) old new
    → AreInfeasible plant budget (logs_in stem old) horizon → AreInfeasible plant budget (logs_in stem new) horizon
still_infeasible plant budget stem horizon old new small others before g some below =
    let it = before g some below in
    let other : log_name stem g ≢ log_name stem horizon = λ e. let same : g ≡ horizon = log_name-injective stem g horizon (omega arith) small e in absurd (omega arith) in
    let same : logs_in stem new g ≡ logs_in stem old g = bytes_same (log_name stem g) old new (others (log_name stem g) other) in
    (it.0, (it.1.0, record { right = it.1.1.right; proof = subst (λ log. HasPlantProof (plant_at plant g) log it.0) (sym same) it.1.1.proof }))

-- every file is as it was but the logs of shorter horizons and of this one
pub stay_below : (stem : List ℕ) (horizon : ℕ) (old now new : Option FileMap) → 1 ≤ horizon → OthersStayBelow stem horizon old now → OthersStay (log_name stem horizon) now new → OthersStayBelow stem (horizon + 1) old new
stay_below stem horizon old now new some kept others name differs =
    others name (differs horizon some (omega arith)) ∙ kept name (λ g above below. differs g above (omega arith))

-- what holds anyway holds after an error
pub after_err : {X E : Type 0} (r : Result X E) (P : Type 0) → P → OnErr r P
after_err (Ok x) P is = tt
after_err (Err e) P is = is

-- what is left of a plant under a name is left of the same plant under the same name
pub left_moved : (a b : Plant) (name other : List ℕ) (old new : Option FileMap) → a ≡ b → name ≡ other → IsLeftOf a name old new → IsLeftOf b other old new
left_moved a b name other old new same_plant same_name left = subst (λ (p : Plant). IsLeftOf p other old new) same_plant (subst (λ (n : List ℕ). IsLeftOf a n old new) same_name left)
