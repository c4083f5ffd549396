-- Where the items of a proof stand, whatever the proof is over: which item may come next, and when the items are whole.
use Rattle.std.specs.Prelude.{◌≡◌, ◌≢◌, true, List, [], ◌∷◌, ◌++◌, Some, None}
use Rattle.proof_tree.specs.declared.capped.Capped.TheVariants.{NoPoint}
use Rattle.proof_tree.specs.declared.item.Item.{Item}
use Rattle.proof_tree.specs.Relaxation.{Steps}
use Rattle.proof_tree.specs.Walk.{Outcome, ended, misplaced, walked, start}

-- steps under which each cut and each part is there, no split has a floor and each end gives a cap
abbrev pub any_steps : {U C P : Type 0} → Steps U C P
any_steps = record {
  cut = λ v u. Some v;
  left = λ v k. Some v;
  right = λ v k. Some v;
  empty = λ v. true;
  cap = λ v c. NoPoint;
  settle = λ v. NoPoint;
  floor = λ v k c. None;
  trim = λ v k c. v;
}

-- where items stand: what they lead to under those steps
abbrev pub form_of : {R A U C P F : Type 0} → List (Item R A U C P F) → Outcome P
form_of items = walked any_steps (start []) items

-- an item may come after these items of a proof
abbrev pub MayComeAfter : {R A U C P F : Type 0} → List (Item R A U C P F) → Item R A U C P F → Type 0
MayComeAfter items item = form_of (items ++ item ∷ []) ≢ misplaced

-- items are those of a proof, from its first to its last
abbrev pub AreWhole : {R A U C P F : Type 0} → List (Item R A U C P F) → Type 0
AreWhole items = form_of items ≡ ended NoPoint
