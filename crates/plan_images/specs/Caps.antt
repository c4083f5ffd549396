-- What a cap says of what things earn.
use Rattle.std.specs.Prelude.{ℤ, ◌<ℤ◌, ◌≤ℤ◌, ⊤}
use Rattle.proof_tree.specs.declared.capped.Capped.{Capped}
use Rattle.proof_tree.specs.declared.capped.Capped.TheVariants.{AtMost, NoPoint, Bad}

-- a cap allows that so much is earned: a number that is not less, and where there is no point nothing
abbrev pub Allows : Capped → ℤ → Type 0
Allows (AtMost most) earned = earned ≤ℤ most
Allows NoPoint earned = ⊥
Allows Bad earned = ⊤

-- a cap allows what each admitted thing earns
abbrev pub Caps : {X : Type 0} → (X → Type 0) → (X → ℤ) → Capped → Type 0
Caps {X = X} admits earned cap = (x : X) → admits x → Allows cap (earned x)

-- a cap allows more than a number
abbrev pub AllowsMore : Capped → ℤ → Type 0
AllowsMore (AtMost most) n = n <ℤ most
AllowsMore NoPoint n = ⊥
AllowsMore Bad n = ⊥

-- a cap allows some point
abbrev pub AllowsPoint : Capped → Type 0
AllowsPoint (AtMost most) = ⊤
AllowsPoint NoPoint = ⊥
AllowsPoint Bad = ⊥
