-- Answers on the parts of so many levels.
use Rattle.std.specs.Prelude.{◌≡◌, ◌⊎◌, ℕ, ◌<◌, ◌≤◌, List, length, codes}
use Rattle.stn_model.specs.declared.plant.Plant.{Plant}
use Rattle.time_grid.specs.Slots.{slots}

-- The answer of a command on the parts of so many levels: where the plant has fewer slots, the refusal of the levels, and else
-- what the command answers.
abbrev pub OnLevels : Plant → ℕ → (ℕ → List ℕ → Type 0) → ℕ → List ℕ → Type 0
OnLevels plant levels Answers status text =
    ((length (slots plant) < levels) × (status ≡ 5) × (text ≡ codes "refused levels\n")) ⊎ ((levels ≤ length (slots plant)) × Answers status text)
