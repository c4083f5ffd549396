-- A delivery that is left is marked by what planning without it says.
use Rattle.std.proofs.Common.{◌≡◌, true, get_or, arith}
use Rattle.order_text.specs.declared.mark.Mark.TheVariants.{Out}
use Rattle.order_text.specs.Marks.{is_left}
use Rattle.order_conflict.proofs.Passing.{settled_by}
use Rattle.order_conflict.proofs.passes.settle.Goals as goal

pub returns : goal.returns
returns g c =
    let e = c.as_slice.ensures.value in
    let said = rw e at c.is_left_at.ensures in
    let left : is_left (get_or c.args.marks.now.items c.args.place Out) ≡ true = grind arith in
    rw c.is_left.ensures (settled_by c.args.plant.now c.args.budget c.args.place c.args.marks.now.items c.in_ok-mark.mark left (rw c.as_slice-2.ensures.value at c.in_ok-mark.ensures))
