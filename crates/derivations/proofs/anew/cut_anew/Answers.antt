-- What the cut leaves is what it leaves of the domains, and one that names nothing leaves all.
use Rattle.std.proofs.Common.{inl, refl, ap, arith, ◌∙◌}
use Rattle.row_kit.specs.Area.{present}
use Rattle.row_kit.specs.Row.{row_at}
use Rattle.row_kit.proofs.Marks.{present-with_domain}
use Rattle.range_prop.specs.Cut.{cut_domain}
use Rattle.derivations.specs.Larger.{begun}
use Rattle.derivations.proofs.anew.cut_anew.Goals as goal

pub returns : goal.returns
returns c =
    let marks = c.args.area.now in
    let left = cut_domain (row_at c.args.program.rows c.args.made.row) c.args.made.slot (present marks) in
    let made = ap (begun c.args.program) (ap present c.cut.ensures.marks ∙ present-with_domain marks c.args.made.slot left (omega arith)) in
    record {
      anew = (begun c.args.program (present c.cut.new.area), (inl ((omega arith, omega arith), made), refl));
      slots = c.cut.ensures.slots;
      count = omega arith;
      root = refl;
      rest = record { profit = refl; base = refl; tags = refl; changes = refl };
    }
