-- A proof that may be written, and whose cap is defined, has no meaning defect.
use Rattle.std.proofs.Common.{◌≡◌, ◌≢◌, ℕ, Bool, sym, ap, ◌∙◌}
use Rattle.std.proofs.lemmas.List.Elements.{All-weaker}
use Rattle.row_kit.specs.declared.area.Area.{Area}
use Rattle.row_kit.specs.declared.found.Found.{Found}
use Rattle.proof_tree.specs.declared.capped.Capped.{Capped}
use Rattle.proof_tree.specs.declared.capped.Capped.TheVariants.{Bad}
use Rattle.proof_tree.specs.Tree.{tree_cap}
use Rattle.proof_tree.specs.declared.item.Item.TheVariants.{Node, Cut, Found as FoundItem, Empty, Dual, Point, Pending, Split}
use Rattle.proof_tree.specs.Items.{tree_items}
use Rattle.proof_tree.specs.Walk.{ended, outcome_of, walked, start}
use Rattle.proof_tree.proofs.WalkLaw.{walked-whole}
use Rattle.row_relax.specs.declared.rows.Rows.{Rows}
use Rattle.row_relax.specs.Choices.{choices_of, steps_of}
use Rattle.row_relax.specs.RowProofs.{RowItem, RowTree}
use Rattle.row_relax.specs.View.{view_of}
use Rattle.branch_tree.specs.Searched.{IsFitItem, IsWritable}
use Rattle.valid_log.specs.Meaning.{IsProved}
use Rattle.valid_log.proofs.FoundSound.{IsFine, items_sound, real_outcome}
use Rattle.valid_log.proofs.Items.{worth-sound}

-- an item that may be written is no found point with a defect
item_fine : (rows : Rows) (floors : Bool) (item : RowItem) → IsFitItem rows floors item → IsFine (choices_of rows) item
item_fine rows floors Node fit = tt
item_fine rows floors (Cut cut) fit = tt
item_fine rows floors (FoundItem found) fit = worth-sound (choices_of rows) found.value found.point (fit.lawful, sym fit.worth)
item_fine rows floors Empty fit = tt
item_fine rows floors (Dual cert) fit = tt
item_fine rows floors Point fit = tt
item_fine rows floors (Pending cert) fit = tt
item_fine rows floors (Split pick cert) fit = tt

module _ (most : ℕ) (rows : Rows) (floors : Bool) (tree : RowTree) (cap : Capped) (writable : IsWritable most rows floors tree) (is : cap ≡ tree_cap (steps_of rows) (view_of rows.program.root) tree) (defined : cap ≢ Bad) where
  -- the items of a proof lead to its cap
  items_led : walked {R = Rows} {A = Area} {F = Found} (steps_of rows) (start (view_of rows.program.root)) (tree_items tree) ≡ ended cap
  items_led = walked-whole Rows Area Found (steps_of rows) tree (view_of rows.program.root) ∙ (ap outcome_of (sym is) ∙ real_outcome cap defined)

  -- a proof that may be written, and whose cap is defined, has no defect, and leads to its cap
  pub tree-proved : IsProved (steps_of rows) (choices_of rows) (view_of rows.program.root) (tree_items tree) cap
  tree-proved = record {
    sound = items_sound rows (start (view_of rows.program.root)) (tree_items tree) cap (All-weaker (IsFitItem rows floors) (IsFine (choices_of rows)) (item_fine rows floors) (tree_items tree) writable.fit) items_led;
    led = items_led;
  }
