-- What a claim says, over any things that may be lawful and have a worth.
use Rattle.std.specs.Prelude.{◌≡◌, ℕ, ℤ, ◌≤ℤ◌, List}
use Rattle.proof_log.specs.declared.claim.Claim.{Claim}
use Rattle.proof_log.specs.declared.claim.Claim.TheVariants.{Optimal, Infeasible, Between, Below}

-- a thing is lawful and has this worth
abbrev pub HasWorth : {X : Type 0} → (X → Type 0) → (X → ℤ) → X → ℤ → Type 0
HasWorth lawful worth x value = lawful x × (worth x ≡ value)

-- no lawful thing is worth more than a number
abbrev pub NoneAbove : {X : Type 0} → (X → Type 0) → (X → ℤ) → ℤ → Type 0
NoneAbove {X = X} lawful worth most = (x : X) → lawful x → worth x ≤ℤ most

-- what a claim says of all lawful things; its values stand for one of them
abbrev pub ClaimSays : {X : Type 0} → (X → Type 0) → (X → ℤ) → (List ℕ → X) → Claim → Type 0
ClaimSays lawful worth of_values (Optimal profit point) = HasWorth lawful worth (of_values point) profit × NoneAbove lawful worth profit
ClaimSays {X = X} lawful worth of_values Infeasible = (x : X) → ¬ lawful x
ClaimSays lawful worth of_values (Between profit most point) = HasWorth lawful worth (of_values point) profit × NoneAbove lawful worth most
ClaimSays lawful worth of_values (Below most) = NoneAbove lawful worth most
