-- What a head's text is read as.
use Rattle.std.specs.Prelude.{◌^◌, ◌<◌, ℕ, List, ◌∷◌, ◌++◌, length, codes}
use Rattle.log_lines.specs.declared.grammar.Limits.{Limits}
use Rattle.sum_slots.specs.declared.sum.Sum.{Sum}
use Rattle.sum_lines.specs.declared.head.Front.TheVariants.{Headed}
use Rattle.sum_lines.specs.Front.{IsFront}
use Rattle.sum_lines.specs.Head.{AreKept, IsHeadVersion, head_of, head_text}

-- the front of the text of a head of version 3 or 4 whose sums keep the limits, and of a line `node` and more after it, is that head, where it has fewer than 2^64 bytes
abbrev pub HeadsAreRead : Type 0
HeadsAreRead =
    (version : ℕ) (limits : Limits) (sums : List Sum) (rest : List ℕ) → IsHeadVersion version → AreKept version limits sums
    → length (head_text version sums) < 2 ^ 64
    → IsFront limits (head_text version sums ++ (codes "node" ++ 10 ∷ rest)) (Headed (head_of version sums))
