-- What caps and claims say of plans.
use Rattle.std.proofs.Common.{◌≢◌, ℕ, ℤ, ◌≤ℤ◌, List, ◌∙◌, arith}
use Rattle.std.proofs.lemmas.Int.{ints}
use Rattle.row_kit.specs.declared.program.Program.{Program}
use Rattle.row_kit.specs.Point.{IsLawful, worth_of}
use Rattle.proof_tree.specs.declared.capped.Capped.{Capped}
use Rattle.proof_tree.specs.declared.capped.Capped.TheVariants.{Bad}
use Rattle.proof_tree.specs.Cap.{Bounds}
use Rattle.proof_log.specs.declared.claim.Claim.{Claim}
use Rattle.proof_log.specs.declared.claim.Claim.TheVariants.{Optimal, Infeasible, Between, Below}
use Rattle.proof_log.specs.ClaimSays.{ClaimSays, HasWorth, NoneAbove}
use Rattle.plan_images.specs.Caps.{Caps}
use Rattle.plan_images.specs.Images.{Relaxes}
use Rattle.plan_images.specs.Told.{IsBorne, ReadsAs}
use Rattle.plan_images.proofs.Allowing.{allowed-most, allowed-point, allows-less, allows-one}

-- what a claim says holds where a cap bears it out that allows what each thing earns
pub borne : {X : Type 0} (admits : X → Type 0) (earned : X → ℤ) (of_values : List ℕ → X) (cap : Capped) (claim : Claim) → cap ≢ Bad → Caps admits earned cap → IsBorne admits earned of_values cap claim → ClaimSays admits earned of_values claim
borne admits earned of_values cap (Optimal profit point) real caps is = (is.0, λ x admitted. allowed-most cap profit (earned x) real is.1 (caps x admitted))
borne admits earned of_values cap Infeasible real caps is = λ x admitted. is (allowed-point cap (earned x) real (caps x admitted))
borne admits earned of_values cap (Between profit most point) real caps is = (is.0, λ x admitted. allowed-most cap most (earned x) real is.1 (caps x admitted))
borne admits earned of_values cap (Below most) real caps is = λ x admitted. allowed-most cap most (earned x) real is (caps x admitted)

-- the plan of a claim
plan_told : {X : Type 0} (admits : X → Type 0) (earned : X → ℤ) (program : Program) (of_values : List ℕ → X) (value : ℤ) (point : List ℕ) → ReadsAs program admits earned of_values
    → HasWorth (IsLawful program) (worth_of program) point value → HasWorth admits earned (of_values point) value
plan_told admits earned program of_values value point reads has = let own = reads point has.0 in (own.0, own.1 ∙ has.1)

-- a cap that bears out a claim by points bears it out by the plans that they stand for
pub borne-read : {X : Type 0} (admits : X → Type 0) (earned : X → ℤ) (program : Program) (of_values : List ℕ → X) (cap : Capped) (claim : Claim) → ReadsAs program admits earned of_values
    → IsBorne (IsLawful program) (worth_of program) (λ point. point) cap claim → IsBorne admits earned of_values cap claim
borne-read admits earned program of_values cap (Optimal profit point) reads is = (plan_told admits earned program of_values profit point reads is.0, is.1)
borne-read admits earned program of_values cap Infeasible reads is = is
borne-read admits earned program of_values cap (Between profit most point) reads is = (plan_told admits earned program of_values profit point reads is.0, is.1)
borne-read admits earned program of_values cap (Below most) reads is = is

-- what bounds the worths of a relaxation's points allows what each plan earns
pub bounds-cap : {X : Type 0} (admits : X → Type 0) (earned : X → ℤ) (program : Program) (P : List ℕ → Type 0) (cap : Capped) → Relaxes admits earned program → ((point : List ℕ) → IsLawful program point → P point)
    → Bounds P (IsLawful program) (worth_of program) cap → Caps admits earned cap
bounds-cap admits earned program P cap is within bounds x admitted =
    let image = is.is x admitted in
    allows-less cap (earned x) (worth_of program (is.image x)) image.said (allows-one P (IsLawful program) (worth_of program) cap bounds (is.image x) (within (is.image x) image.lawful) image.lawful)

most_earned : (a b c : ℤ) → a ≤ℤ b → b ≤ℤ c → a ≤ℤ c
most_earned a b c one other = omega (arith, ints, one, other)

-- where no point of a relaxation is worth more, no plan earns more
above_none : {X : Type 0} (admits : X → Type 0) (earned : X → ℤ) (program : Program) (most : ℤ) → Relaxes admits earned program → NoneAbove (IsLawful program) (worth_of program) most → NoneAbove admits earned most
above_none admits earned program most is above x admitted =
    let image = is.is x admitted in
    most_earned (earned x) (worth_of program (is.image x)) most image.said (above (is.image x) image.lawful)

-- what a claim says of all points of a relaxation it says of the plans
pub told : {X : Type 0} (admits : X → Type 0) (earned : X → ℤ) (program : Program) (of_values : List ℕ → X) (claim : Claim) → Relaxes admits earned program → ReadsAs program admits earned of_values
    → ClaimSays (IsLawful program) (worth_of program) (λ point. point) claim → ClaimSays admits earned of_values claim
told admits earned program of_values (Optimal profit point) is reads says = (plan_told admits earned program of_values profit point reads says.0, above_none admits earned program profit is says.1)
told admits earned program of_values Infeasible is reads says = λ x admitted. says (is.image x) (is.is x admitted).lawful
told admits earned program of_values (Between profit most point) is reads says = (plan_told admits earned program of_values profit point reads says.0, above_none admits earned program most is says.1)
told admits earned program of_values (Below most) is reads says = above_none admits earned program most is says

-- what a claim says of some plans it says of the same plans, otherwise told
pub same-plans : {X : Type 0} (admits others : X → Type 0) (earned : X → ℤ) (of_values : List ℕ → X) (claim : Claim) → ((x : X) → admits x → others x) → ((x : X) → others x → admits x) → ClaimSays admits earned of_values claim → ClaimSays others earned of_values claim
same-plans admits others earned of_values (Optimal profit point) to back says = ((to (of_values point) says.0.0, says.0.1), λ x other. says.1 x (back x other))
same-plans admits others earned of_values Infeasible to back says = λ x other. says x (back x other)
same-plans admits others earned of_values (Between profit most point) to back says = ((to (of_values point) says.0.0, says.0.1), λ x other. says.1 x (back x other))
same-plans admits others earned of_values (Below most) to back says = λ x other. says x (back x other)
