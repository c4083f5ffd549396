-- Ends that close their boxes. Only clauses of private functions cite it.
use Rattle.std.specs.Prelude.{◌≡◌, ℤ, true, false, Option, Some, None, IfSome}
use Rattle.merged_nodes.specs.declared.looking.Capping.{Capping}
use Rattle.merged_nodes.specs.Merged.{closes}

-- an end is kept where its cap closes its box, and no other
abbrev pub KeepsClosing : Option ℤ → Option Capping → Option Capping → Type 0
KeepsClosing best end None = IfSome end (λ own. closes best own.cap ≡ false)
KeepsClosing best end (Some kept) = (end ≡ Some kept) × (closes best kept.cap ≡ true)
