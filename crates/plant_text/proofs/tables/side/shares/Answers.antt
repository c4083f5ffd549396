use Rattle.std.proofs.lemmas.List.Elements.{All-map}
use Rattle.fraction.specs.Fractions.{IsProper}
use Rattle.plant_text.specs.declared.tables.side.SidePart.{SidePart}
use Rattle.plant_text.proofs.tables.side.shares.Goals as goal

pub sums_to_one-requires-clause-proper : goal.sums_to_one-requires-clause-proper
sums_to_one-requires-clause-proper c =
    rw (c.as_slice.ensures.value, c.in_ok-parts.ensures) (All-map IsProper (λ (side : SidePart). side.part) c.args.sides.now c.requires.proper)
