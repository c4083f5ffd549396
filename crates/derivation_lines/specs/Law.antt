-- What the text of derivations is read as.
use Rattle.std.specs.Prelude.{◌≡◌, ◌+◌, ◌^◌, ◌<◌, ℕ, List, ◌∷◌, ◌++◌, length, codes}
use Rattle.log_lines.specs.declared.grammar.Limits.{Limits}
use Rattle.derivations.specs.declared.derivation.Derivation.{Derivation}
use Rattle.sum_lines.specs.declared.head.Head.{Head}
use Rattle.derivation_lines.specs.declared.tail.TailFront.TheVariants.{Whole}
use Rattle.derivation_lines.specs.Front.{IsTailFront}
use Rattle.derivation_lines.specs.Tail.{AreDerivationsKept, tail_of, tail_text}

-- what stands behind a head, where the text of derivations that keep the limits follows, and a line `node` and more after it, is those derivations, where they end before 2^64 bytes
abbrev pub DerivationsAreRead : Type 0
DerivationsAreRead =
    (limits : Limits) (head : Head) (front rest : List ℕ) (derivations : List Derivation) → length front ≡ head.bytes → AreDerivationsKept limits derivations
    → head.bytes + length (tail_text derivations) < 2 ^ 64
    → IsTailFront limits head (front ++ (tail_text derivations ++ (codes "node" ++ 10 ∷ rest))) (Whole (tail_of head derivations))
