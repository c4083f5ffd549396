-- The lines of raised plants, and the plans of old claims.
use Rattle.std.proofs.Common.{◌≡◌, ℕ, suc, ◌+◌, ◌*◌, ◌<◌, ◌≤◌, ◌^◌, List, ◌++◌, refl, sym, ap, ◌∙◌, subst, arith, ℤ, pos, ◌*ℤ◌, unsigned_abs}
use Rattle.std.proofs.Math.Nat.{mul-le-mul_left, mul-le-mul_right}
use Rattle.std.proofs.lemmas.List.{append_assoc}
use Rattle.stn_model.specs.declared.plant.Plant.{Plant}
use Rattle.stn_model.specs.declared.plant.State.{State}
use Rattle.what_if.specs.Raised.{raised, raised_states, with_states}
use Rattle.tank_commands.specs.Estimating.{AreLines}

-- one line more
pub more_lines : (IsLine : ℕ → List ℕ → Type 0) (n : ℕ) (start before line text next : List ℕ) → text ≡ start ++ before → AreLines IsLine n before → next ≡ text ++ line → IsLine n line
    → (lines : List ℕ) × ((next ≡ start ++ lines) × AreLines IsLine (n + 1) lines)
more_lines IsLine n start before line text next put are more is =
    let one : suc n ≡ n + 1 = omega arith in (
      before ++ line,
      (more ∙ ap (λ (xs : List ℕ). xs ++ line) put ∙ append_assoc start before line, subst (λ (k : ℕ). AreLines IsLine k (before ++ line)) one (before, (line, (are, is, refl)))),
    )

-- a plant that differs from another in its states alone, and is given raised states of the other
pub raised_plant : (whole plant new' : Plant) (states : List State) (number : ℕ) (amount step : ℤ) (times : ℕ) → plant ≡ with_states whole plant.states → states ≡ whole.states → amount ≡ pos times *ℤ step
    → new' ≡ with_states plant (raised_states number amount states) → new' ≡ raised whole number step times
raised_plant whole plant new' states number amount step times same is_states is_amount is =
    is ∙ ap (λ (p : Plant). with_states p (raised_states number amount states)) same
    ∙ ap (λ (s : List State). with_states whole (raised_states number amount s)) is_states
    ∙ ap (λ (n : ℤ). with_states whole (raised_states number n whole.states)) is_amount

-- a multiple of a step is small
pub small_multiple : (times count : ℕ) (step : ℤ) → times < count + 1 → count ≤ 50 → unsigned_abs step ≤ 1000000000 → times * unsigned_abs step ≤ 2 ^ 62
small_multiple times count step lt few small =
    let first = mul-le-mul_left times small in
    let most : times ≤ 50 = omega (arith, lt, few) in
    let second = mul-le-mul_right 1000000000 most in
    omega (arith, first, second)

-- a plant that is another with other states has the other's parts beside its states
pub is_but_states : (whole plant : Plant) (states : List State) → plant ≡ with_states whole states → plant ≡ with_states whole plant.states
is_but_states whole plant states is = is ∙ ap (with_states whole) (sym (ap (λ (p : Plant). p.states) is))
