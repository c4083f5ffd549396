-- Other files stay, from one change of a file to the next, and what follows of an answer.
use Rattle.std.proofs.Common.{◌≡◌, ◌∙◌, ℕ, List, Option}
use Rattle.stn_edge.specs.Files.{FileMap, OthersStay}
use Rattle.std.specs.Prelude.{OnOk, Result, Ok, Err}

-- other files stay as they are from one change to the next, where the name stays that of the file which changes
pub others-then : (out later : List ℕ) (a b c : Option FileMap) → later ≡ out → OthersStay out a b → OthersStay later b c → OthersStay out a c
others-then out later a b c same first second = λ other apart. second other (λ is. apart (is ∙ same)) ∙ first other apart

-- what follows where something is there follows of the answer
pub ok-then : {X E P Q : Type 0} (result : Result X E) → OnOk result P → (P → Q) → OnOk result Q
ok-then (Ok x) is then_ = then_ is
ok-then (Err e) is then_ = tt
