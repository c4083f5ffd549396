-- Searches that go on at boxes of a proof that stands. Only clauses of private functions cite it.
use Rattle.std.specs.Prelude.{◌≡◌, ℕ, ◌<◌, ⊤, List, length, None, Some}
use Rattle.proof_tree.specs.declared.capped.Capped.{Capped}
use Rattle.proof_tree.specs.Views.{View}
use Rattle.row_relax.specs.declared.rows.Rows.{Rows}
use Rattle.row_relax.specs.RowProofs.{RowItem}
use Rattle.branch_tree.specs.declared.box_place.BoxPlace.{BoxPlace}
use Rattle.branch_tree.specs.declared.going_on.GoingOn.{GoingOn}
use Rattle.branch_tree.specs.laws.Grounds.{IsGround, program_of, rows_of}
use Rattle.branch_tree.specs.laws.Handed.{BoxHanded}

-- a search over these rows, in which at most so many splits stand one below another, can go on: it has a place for each slot, and offers no point of its own
pub record CanGoOn (most : ℕ) (rows : Rows) (going : GoingOn) : Type 0 where
  pub limited : going.ground.most ≡ most
  pub over : going.ground.rows.now ≡ rows
  pub indexed : IsGround going.ground
  pub places : length going.reached.point.items ≡ length (program_of going.ground).root
  pub none : going.reached.own ≡ None

-- a search may count a box more
abbrev pub HasLeft : GoingOn → Type 0
HasLeft going = going.reached.spent < going.ground.budget

-- the items of a proof of a box were put that stands at this place, over this view
abbrev pub HandsBox : {T O : Type 0} → (T → O → List RowItem → T → O → Type 0) → GoingOn → BoxPlace → View → Capped → T → O → GoingOn → T → O → Type 0
HandsBox took old place view cap t o new t2 o2 =
    BoxHanded took (λ _. ⊤) (rows_of old.ground) old.ground.floors old.ground.given old.ground.budget old.ground.may_leave view cap
    (record old.reached { depth = place.depth; changed = None; held = Some place.held }) t o new.reached t2 o2
