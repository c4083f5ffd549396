-- The limits of the logs of a plant's parts, and what their heads are judged over.
use Rattle.std.proofs.Common.{◌≡◌, ℕ, ◌-◌, List, length, ap, ◌∙◌, inl, inr}
use Rattle.std.specs.Prelude.{map}
use Rattle.std.proofs.lemmas.Bool.{cases_eq, cond-true, cond-false, eq-eqb, ne_eqb}
use Rattle.std.proofs.lemmas.List.{length-map}
use Rattle.stn_model.specs.Points.{depth_limit}
use Rattle.stn_model.specs.declared.plant.Plant.{Plant}
use Rattle.time_grid.specs.Slots.{slots}
use Rattle.row_kit.specs.declared.domain.Domain.{Domain}
use Rattle.row_kit.specs.declared.program.Program.{Program}
use Rattle.row_relax.specs.Choices.{plain}
use Rattle.row_set.specs.PlantProgram.{plant_rows, slot_domain}
use Rattle.log_lines.specs.declared.grammar.Limits.{Limits}
use Rattle.valid_log.specs.Verdict.{limits_of}
use Rattle.valid_log.specs.Heads.{judged_over}
use Rattle.plant_parts.specs.PlantParts.{IsPartProgram}
use Rattle.plant_parts.proofs.Cutting.{length-cut}
use Rattle.log_parts.specs.laws.Checked.{head_limits}

-- the limits of the heads of a part's logs
pub head_same : (plant : Plant) (levels part : ℕ) (program : Program) → IsPartProgram plant levels part program → limits_of (plain program) (depth_limit plant - levels) ≡ head_limits plant levels
head_same plant levels part program is =
    let made : ℕ → ℕ → Limits = λ r s. record { rows = r; slots = s; points = s; depth = depth_limit plant - levels } in
    let rows : length program.rows ≡ length (plant_rows plant) = ap length (is.is_part.but_root.rows ∙ is.is_part.made.rows_are) in
    let slots' : length program.root ≡ length (slots plant) = ap length is.root ∙ length-cut levels part (map (slot_domain plant) (slots plant)) ∙ length-map (slots plant) (slot_domain plant) in
    ap (λ (r : ℕ). made r (length program.root)) rows ∙ ap (made (length (plant_rows plant))) slots'

-- a head is judged over the same domains in either version where they are the same
pub judged_same : (judged : List Domain) (version : ℕ) → judged_over judged judged version ≡ judged
judged_same judged version = elim (cases_eq version 3) [
  | inl three ↦ cond-true _ _ _ (eq-eqb version 3 three)
  | inr other ↦ cond-false _ _ _ (ne_eqb version 3 other)
]
