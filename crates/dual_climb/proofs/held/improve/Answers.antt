-- A change takes the fall along the row off the total.
use Rattle.std.proofs.Common.{◌≡◌, ◌∙◌, ◌+◌, ◌<◌, ◌^◌, ℤ, length, ap, sym, subst, pos, ◌+ℤ◌, ◌-ℤ◌, ◌≤ℤ◌, ◌<ℤ◌, unsigned_abs, arith, rules, inl}
use Rattle.std.proofs.lemmas.Int.{ints}
use Rattle.std.proofs.lemmas.List.{get_or_read}
use Rattle.row_kit.specs.Area.{present}
use Rattle.dual_bound.specs.declared.cert.Mult.{Mult}
use Rattle.dual_climb.specs.laws.Along.{part_along}
use Rattle.dual_climb.specs.laws.Sums.{no_mult}
use Rattle.dual_climb.proofs.Small.{total_small}
use Rattle.dual_climb.proofs.Steps.{fall_shown, fell_by, held_part, less_fall, lowered_one, moved_read, moved_total, near_best, own_of, read_row, stays_best}
use Rattle.dual_climb.proofs.held.improve.Goals as goal

pub is_reached-requires-clause-small : goal.is_reached-requires-clause-small
is_reached-requires-clause-small c =
    let p = c.args.program.now in
    let held = c.args.held.now in
    let small = total_small p (present c.args.area.now) c.args.scale held.mults.items c.requires.area.most c.requires.held.gained.full c.requires.area.few_rows c.requires.area.normal c.requires.area.slots in
    subst (λ (x : ℤ). unsigned_abs x < 2 ^ 118) (sym c.requires.held.is_total) (omega (arith, small))

pub least-factor-requires-clause-along : goal.least-factor-requires-clause-along
least-factor-requires-clause-along c =
    let held = c.args.held.now in
    (read_row c.args.program.now (present c.args.area.now) c.args.scale held.mults.items held.gains.lines.items c.args.number c.as_slice.result.now c.index-as_slice-number.result c.index.result.now c.requires.area c.requires.held.gained c.requires.number c.index-as_slice-number.is c.as_slice.ensures c.index.ensures).along

pub fall_to-fall-requires-clause-along : goal.fall_to-fall-requires-clause-along
fall_to-fall-requires-clause-along c =
    let held = c.args.held.now in
    (read_row c.args.program.now (present c.args.area.now) c.args.scale held.mults.items held.gains.lines.items c.args.number c.as_slice.result.now c.index-as_slice-number.result c.index.result.now c.requires.area c.requires.held.gained c.requires.number c.index-as_slice-number.is c.as_slice.ensures c.index.ensures).along

pub move_gains-requires-clause-along : goal.move_gains-requires-clause-along
move_gains-requires-clause-along c =
    let held = c.args.held.now in
    (read_row c.args.program.now (present c.args.area.now) c.args.scale held.mults.items held.gains.lines.items c.args.number c.as_slice.result.now c.index-as_slice-number.result c.index.result.now c.requires.area c.requires.held.gained c.requires.number c.index-as_slice-number.is c.as_slice.ensures c.index.ensures).along

pub is_near-requires-clause-along : goal.is_near-requires-clause-along
is_near-requires-clause-along c =
    let held = c.args.held.now in
    (read_row c.args.program.now (present c.args.area.now) c.args.scale held.mults.items held.gains.lines.items c.args.number c.as_slice.result.now c.index-as_slice-number.result c.index.result.now c.requires.area c.requires.held.gained c.requires.number c.index-as_slice-number.is c.as_slice.ensures c.index.ensures).along

pub returns-then-is_near-clause-best : goal.returns-then-is_near-clause-best
returns-then-is_near-clause-best c = λ _.
    let p = c.args.program.now in
    let ds = present c.args.area.now in
    let held = c.args.held.now in
    let ms = held.mults.items in
    let lines = held.gains.lines.items in
    let k = c.args.number in
    let read = read_row p ds c.args.scale ms lines k c.as_slice.result.now c.index-as_slice-number.result c.index.result.now c.requires.area c.requires.held.gained c.requires.number c.index-as_slice-number.is c.as_slice.ensures c.index.ensures in
    let hp = held_part p ds ms lines k in
    let own = c.index.result.now.factor in
    let part = part_along lines ds c.index-as_slice-number.result own in
    inl (near_best c.args.least_fall p ds c.args.scale ms lines k c.requires.area c.requires.held.gained c.requires.number
    (λ f le. subst (λ (x : ℤ). (x -ℤ pos c.args.least_fall) <ℤ hp f) (read.part own ∙ ap hp read.is_own) (subst (λ (x : ℤ). (part own -ℤ pos c.args.least_fall) <ℤ x) (read.part f) (c.is_near.ensures c.if-is_near.true f le))))

pub returns-then-fall-from-clause-best : goal.returns-then-fall-from-clause-best
returns-then-fall-from-clause-best c = λ _.
    let p = c.args.program.now in
    let ds = present c.args.area.now in
    let held = c.args.held.now in
    let ms = held.mults.items in
    let lines = held.gains.lines.items in
    let k = c.args.number in
    let factor = c.least-factor.result in
    let read = read_row p ds c.args.scale ms lines k c.as_slice.result.now c.index-as_slice-number.result c.index.result.now c.requires.area c.requires.held.gained c.requires.number c.index-as_slice-number.is c.as_slice.ensures c.index.ensures in
    let hp = held_part p ds ms lines k in
    let fall : c.fall_to-fall.result ≡ hp (own_of ms k) -ℤ hp factor =
    c.fall_to-fall.ensures.value ∙ ap (λ (x : ℤ). x -ℤ part_along lines ds c.index-as_slice-number.result c.index.result.now.factor factor) (read.part c.index.result.now.factor ∙ ap hp read.is_own) ∙ ap (λ (x : ℤ). hp (own_of ms k) -ℤ x) (read.part factor) in
    let less : c.fall_to-fall.result <ℤ pos c.args.least_fall = omega (arith, ints, c.fall_to-fall.ensures.small, c.from.ensures, c.if-fall-from.true, c.requires.fall) in
    inl (stays_best c.args.least_fall p ds c.args.scale ms lines k factor c.requires.area c.requires.held.gained c.requires.number
    (λ f le. subst (λ (x : ℤ). x ≤ℤ hp f) (read.part factor) (subst (λ (x : ℤ). part_along lines ds c.index-as_slice-number.result c.index.result.now.factor factor ≤ℤ x) (read.part f) (c.least-factor.ensures.least f le)))
    (subst (λ (x : ℤ). x <ℤ pos c.args.least_fall) fall less))

pub overflow_sub-held : goal.overflow_sub-held
overflow_sub-held c =
    let p = c.args.program.now in
    let ds = present c.args.area.now in
    let held = c.args.held.now in
    let was : unsigned_abs held.total < 2 ^ 117 =
    subst (λ (x : ℤ). unsigned_abs x < 2 ^ 117) (sym c.requires.held.is_total) (total_small p ds c.args.scale held.mults.items c.requires.area.most c.requires.held.gained.full c.requires.area.few_rows c.requires.area.normal c.requires.area.slots) in
    omega (arith, ints, was, c.fall_to-fall.ensures.small)

pub returns : goal.returns
returns c =
    let p = c.args.program.now in
    let ds = present c.args.area.now in
    let held = c.args.held.now in
    let ms = held.mults.items in
    let lines = held.gains.lines.items in
    let k = c.args.number in
    let factor = c.least-factor.result in
    let gained = c.requires.held.gained in
    let read = read_row p ds c.args.scale ms lines k c.as_slice.result.now c.index-as_slice-number.result c.index.result.now c.requires.area gained c.requires.number c.index-as_slice-number.is c.as_slice.ensures c.index.ensures in
    let hp = held_part p ds ms lines k in
    let fall : c.fall_to-fall.result ≡ hp (own_of ms k) -ℤ hp factor =
    c.fall_to-fall.ensures.value ∙ ap (λ (x : ℤ). x -ℤ part_along lines ds c.index-as_slice-number.result c.index.result.now.factor factor) (read.part c.index.result.now.factor ∙ ap hp read.is_own) ∙ ap (λ (x : ℤ). hp (own_of ms k) -ℤ x) (read.part factor) in
    let was : unsigned_abs held.total < 2 ^ 117 =
    subst (λ (x : ℤ). unsigned_abs x < 2 ^ 117) (sym c.requires.held.is_total) (total_small p ds c.args.scale ms c.requires.area.most gained.full c.requires.area.few_rows c.requires.area.normal c.requires.area.slots) in
    let put : Mult = record { row = c.index_mut.result.now.row; factor = factor } in
    let in_ms : k < length ms = omega (arith, gained.full.all, c.requires.number) in
    let put_at : put.row ≡ 0 + k = ap (λ (m : Mult). m.row) (get_or_read ms k c.index_mut.result.now in_ms c.index_mut.ensures.value no_mult) ∙ gained.full.numbered k in_ms in
    let is_put : put.row ≡ k = omega arith in
    let below : pos c.args.least_fall ≤ℤ c.fall_to-fall.result = fall_shown c.fall_to-fall.result c.from.result c.args.least_fall c.fall_to-fall.ensures.small c.from.ensures (omega (arith, c.requires.fall)) c.if-fall-from.false in
    record {
      held = record {
        gained = moved_read p ds c.args.scale ms lines c.move_gains.new.gains.lines.items k c.index-as_slice-number.result c.index.result.now.factor put read gained (c.move_gains.ensures.slots ∙ c.requires.area.slots) c.requires.number is_put c.least-factor.ensures.range (λ slot v h. c.move_gains.ensures.value slot v (omega (arith, h, c.requires.area.slots)));
        greatest_gains = c.move_gains.ensures.most;
        is_total = less_fall held.total c.fall_to-fall.result was c.fall_to-fall.ensures.small ∙ ap (λ (x : ℤ). held.total -ℤ x) fall ∙ moved_total p ds c.args.scale ms lines held.total k put c.requires.area gained c.requires.held.is_total c.requires.number is_put;
      };
      fell = λ _. subst (λ (x : ℤ). (x +ℤ pos c.args.least_fall) ≤ℤ held.total) (sym (less_fall held.total c.fall_to-fall.result was c.fall_to-fall.ensures.small)) (fell_by held.total c.fall_to-fall.result (pos c.args.least_fall) below);
      changes = lowered_one c.args.least_fall p ds c.args.scale ms lines k put c.requires.area gained c.requires.number is_put c.least-factor.ensures.range (subst (λ (x : ℤ). pos c.args.least_fall ≤ℤ x) fall below);
      same = search rules;
      best = search rules;
    }
