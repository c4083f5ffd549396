-- Found points of a part have no defect in the whole.
use Rattle.std.proofs.Common.{◌≡◌, ℕ, List, refl, sym, ◌∙◌, inl, inr, ⊎_elim}
use Rattle.std.specs.Prelude.{ℤ}
use Rattle.row_kit.specs.declared.program.Program.{Program}
use Rattle.row_kit.specs.Point.{IsLawful, worth_of}
use Rattle.proof_tree.specs.declared.item.Item.TheVariants.{Node, Cut, Found as FoundItem, Empty, Dual, Point, Pending, Split}
use Rattle.row_relax.specs.RowProofs.{RowItem}
use Rattle.valid_log.proofs.FoundSound.{IsFinePoint, IsFine}
use Rattle.log_parts.proofs.PartCaps.{IsPart, lawful-part}

-- a point without a defect in a part has none in the whole
pub fine-whole : (whole part : Program) (value : ℤ) (point : List ℕ) → IsPart whole part → IsFinePoint part value point → IsFinePoint whole value point
fine-whole whole part value point is fine kind =
    ⊎_elim
    (λ other. fine 13 (inl (refl, λ (lawful : IsLawful part point). other.1 (lawful-part whole part point is lawful))))
    (λ other. fine 13 (inl (refl, λ (lawful : IsLawful part point). fine 14 (inr (refl, lawful, λ (worth : worth_of part point ≡ value). other.2 (sym (is.worth point lawful) ∙ worth))))))

-- an item without a defect in a part has none in the whole
pub fine-item : (whole part : Program) → IsPart whole part → (item : RowItem) → IsFine part item → IsFine whole item
fine-item whole part is Node fine = tt
fine-item whole part is (Cut cut) fine = tt
fine-item whole part is (FoundItem found) fine = fine-whole whole part found.value found.point is fine
fine-item whole part is Empty fine = tt
fine-item whole part is (Dual cert) fine = tt
fine-item whole part is Point fine = tt
fine-item whole part is (Pending cert) fine = tt
fine-item whole part is (Split pick cert) fine = tt
