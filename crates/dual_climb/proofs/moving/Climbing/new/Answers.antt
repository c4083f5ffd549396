-- The certificate's factors, one for each row.
use Rattle.std.proofs.Common.{◌∙◌, ℕ, length, ap, sym, subst, arith}
use Rattle.row_kit.specs.Area.{present}
use Rattle.dual_climb.specs.laws.Sums.{weighted, HaveSameSums, IsFull}
use Rattle.dual_climb.proofs.Sums.{gain_same}
use Rattle.dual_climb.proofs.Usable.{keeps}
use Rattle.dual_climb.proofs.moving.Climbing.new.Goals as goal

pub gains_under-requires-clause-usable : goal.gains_under-requires-clause-usable
gains_under-requires-clause-usable c = (keeps c.args.program.now (present c.args.area.now) c.args.start.now c.requires.total).usable

pub returns-clause-climbing : goal.returns-clause-climbing
returns-clause-climbing c =
    let p = c.args.program.now in
    let cert = c.args.start.now in
    let all = c.in_ok-factors.factors.items in
    let same : HaveSameSums all cert.mults = λ worth. c.in_ok-factors.ensures.same worth ∙ ap (weighted worth) c.as_slice.ensures in
    let full : IsFull (length p.rows) all = subst (λ (n : ℕ). IsFull n all) c.len.ensures c.in_ok-factors.ensures.full in
    record {
      gained = record {
        full = full;
        slots = c.in_ok-gains.ensures.length;
        gains = λ slot v h. c.in_ok-gains.ensures.value slot v h ∙ sym (gain_same p cert.scale all cert.mults same slot v);
      };
      greatest_gains = c.in_ok-gains.ensures.most;
      slacks = omega (arith, c.in_ok-slacks.slacks.ok, c.in_ok-slacks.ensures.len, c.len-2.ensures);
      places = omega (arith, c.in_ok-point.point.ok, c.in_ok-point.ensures.len, c.len-3.ensures);
      best = subst (IsFull (length p.rows)) (sym (c.in_ok-best.ensures.items ∙ c.as_slice-2.ensures.value)) full;
    }
