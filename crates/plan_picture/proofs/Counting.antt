-- A count over one more number.
use Rattle.std.proofs.Common.{◌≡◌, ℕ, ◌+◌, Bool, cond, refl, add-one}
use Rattle.stn_model.specs.Sums.{count_below}

pub count_below_more : (p : ℕ → Bool) (n : ℕ) → count_below p (n + 1) ≡ count_below p n + cond (p n) 1 0
count_below_more p n = rw add-one refl
