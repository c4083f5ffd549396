-- One row more in a table of slots.
use Rattle.std.proofs.Common.{◌≡◌, ℕ, ◌+◌, ◌<◌, Bool, List, [], length, get_or, set, subst, inl, inr, arith}
use Rattle.std.proofs.lemmas.Bool.{cases_eq}
use Rattle.std.proofs.lemmas.List.{get_or_default, get_or-set_same, get_or-set_other}
use Rattle.stn_model.specs.declared.plant.Plant.{Plant}
use Rattle.stn_model.specs.declared.plant.Run.{Run}
use Rattle.plant_text.specs.Sizes.{IsRow}

pub row_more : (plant : Plant) (runs : List Run) (rows : List (List Bool)) (i : ℕ) (d : Run) (row : List Bool) → i < length runs → i < length rows
    → ((k : ℕ) (run : Run) → k < i → IsRow plant (get_or runs k run) (get_or rows k [])) → IsRow plant (get_or runs i d) row
    → (k : ℕ) (run : Run) → k < i + 1 → IsRow plant (get_or runs k run) (get_or (set rows i row) k [])
row_more plant runs rows i d row lt room so_far here k run below =
    elim (cases_eq k i) [
      | inl e ↦
          let same : get_or (set rows i row) k [] ≡ row = rw e (get_or-set_same rows i row [] room) in
          let which : get_or runs i d ≡ get_or runs k run = rw e (get_or_default runs i d run lt) in
          rw same (subst (λ (r : Run). IsRow plant r row) which here)
      | inr e ↦
          let before : k < i = grind (arith, e) in
          rw (get_or-set_other rows i k row [] e) (so_far k run before)
    ]
