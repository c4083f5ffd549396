-- What the certificate says is held.
use Rattle.std.proofs.Common.{◌≡◌, ◌∙◌, ℕ, sym, ap, subst, Some, arith, ℤ, to_z, of_z}
use Rattle.std.proofs.lemmas.Int.{ints}
use Rattle.row_kit.specs.Area.{present}
use Rattle.dual_climb.specs.laws.Sums.{weighted, HaveSameSums, IsFull}
use Rattle.dual_climb.proofs.Sums.{gain_same, total_same}
use Rattle.dual_climb.proofs.Usable.{keeps, total_is}
use Rattle.dual_climb.proofs.polishing.hold.Goals as goal
use mir.Syntax.{w128}

pub gains_under-requires-clause-usable : goal.gains_under-requires-clause-usable
gains_under-requires-clause-usable c = (keeps c.args.program.now (present c.args.area.now) c.args.cert.now c.requires.total).usable

pub gains_under-requires-clause-open_ : goal.gains_under-requires-clause-open_
gains_under-requires-clause-open_ c = (keeps c.args.program.now (present c.args.area.now) c.args.cert.now c.requires.total).each_open

pub usable_total-total-requires-clause-usable : goal.usable_total-total-requires-clause-usable
usable_total-total-requires-clause-usable c = (keeps c.args.program.now (present c.args.area.now) c.args.cert.now c.requires.total).usable

pub usable_total-total-requires-clause-open_ : goal.usable_total-total-requires-clause-open_
usable_total-total-requires-clause-open_ c = (keeps c.args.program.now (present c.args.area.now) c.args.cert.now c.requires.total).each_open

pub returns-clause-area : goal.returns-clause-area
returns-clause-area c =
    let k = keeps c.args.program.now (present c.args.area.now) c.args.cert.now c.requires.total in
    record { slots = c.requires.slots; normal = c.slot_count.ensures.normal; each_open = k.each_open; few_rows = c.requires.few_rows; most = k.scale }

pub returns-clause-held : goal.returns-clause-held
returns-clause-held c =
    let p = c.args.program.now in
    let ds = present c.args.area.now in
    let cert = c.args.cert.now in
    let all = c.in_ok-mults.mults.items in
    let same : HaveSameSums all cert.mults = λ worth. c.in_ok-mults.ensures.same worth ∙ ap (weighted worth) c.as_slice.ensures in
    let exact : to_z w128 (of_z w128 c.usable_total-total.result) ≡ c.usable_total-total.result = omega (arith, ints, c.usable_total-total.ensures.small) in
    record {
      gained = record {
        full = subst (λ (n : ℕ). IsFull n all) c.len.ensures c.in_ok-mults.ensures.full;
        slots = c.in_ok-gains.ensures.length;
        gains = λ slot v h. c.in_ok-gains.ensures.value slot v h ∙ sym (gain_same p cert.scale all cert.mults same slot v);
      };
      greatest_gains = c.in_ok-gains.ensures.most;
      is_total = exact ∙ c.usable_total-total.ensures.value ∙ sym (total_same p ds cert.scale all cert.mults same);
    }

pub returns-clause-total : goal.returns-clause-total
returns-clause-total c =
    let p = c.args.program.now in
    let ds = present c.args.area.now in
    let exact : to_z w128 (of_z w128 c.usable_total-total.result) ≡ c.usable_total-total.result = omega (arith, ints, c.usable_total-total.ensures.small) in
    total_is p ds c.args.cert.now (keeps p ds c.args.cert.now c.requires.total).has ∙ ap (λ (x : ℤ). Some x) (sym (exact ∙ c.usable_total-total.ensures.value))

pub returns-clause-same : goal.returns-clause-same
returns-clause-same c = λ worth. c.in_ok-mults.ensures.same worth ∙ ap (weighted worth) c.as_slice.ensures
