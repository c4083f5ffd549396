-- What the text of setups is read as.
use Rattle.std.specs.Prelude.{◌≡◌, ◌+◌, ◌^◌, ◌<◌, ℕ, None, List, ◌++◌, length}
use Rattle.log_lines.specs.declared.grammar.Limits.{Limits}
use Rattle.sum_lines.specs.declared.head.Head.{Head}
use Rattle.setup_lines.specs.declared.setups.SetupFront.{SetupFront}
use Rattle.setup_lines.specs.declared.setups.SetupFront.TheVariants.{Whole}
use Rattle.setup_lines.specs.declared.setups.SetupSize.{SetupSize}
use Rattle.setup_lines.specs.Front.{IsSetupFront, NoneFirst}
use Rattle.setup_lines.specs.Line.{setups_text}
use Rattle.setup_lines.specs.Setups.{AreSetupsKept, MaySetUp, last_unit, setups_of}

-- what stands behind a head, where the text of setups that keep the limits follows, and then no line that declares that of a later unit, is those setups, where they end before 2^64 bytes
abbrev pub SetupsAreRead : Type 0
SetupsAreRead =
    (limits : Limits) (sizes : List SetupSize) (head : Head) (front rest units : List ℕ) → length front ≡ head.bytes → AreSetupsKept limits sizes units
    → NoneFirst (MaySetUp (last_unit None units)) rest → head.bytes + length (setups_text units) < 2 ^ 64
    → IsSetupFront limits sizes head (front ++ (setups_text units ++ rest)) (Whole (setups_of limits sizes head units))

-- what stands in bytes behind a head is one thing
abbrev pub SetupsAreOne : Type 0
SetupsAreOne =
    (limits : Limits) (sizes : List SetupSize) (head : Head) (bytes : List ℕ) (a b : SetupFront) → IsSetupFront limits sizes head bytes a → IsSetupFront limits sizes head bytes b → a ≡ b
