-- What a limit by version says: how many there are of something.
use Rattle.std.proofs.Common.{◌≡◌, ℕ, ◌≤◌, Bool, true, false, cond, refl, arith}

-- a limit that is the same in each version
pub same_either : (third : Bool) (many : ℕ) → cond third many many ≡ many
same_either true many = refl
same_either false many = refl

-- what has at most as many as its version allows has at most as many as any
pub under : (third : Bool) (few many n : ℕ) → few ≤ many → n ≤ cond third many few → n ≤ many
under true few many n less h = h
under false few many n less h = omega (arith, less, h)

-- and few where the file is not of version 3
pub few_of : (third : Bool) (few many n : ℕ) → third ≡ false → n ≤ cond third many few → n ≤ few
few_of true few many n not_third h = absurd cc
few_of false few many n not_third h = h
