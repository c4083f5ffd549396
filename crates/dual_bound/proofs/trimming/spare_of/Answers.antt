-- The total and what each slot gains stand on the one side or the other.
use Rattle.std.proofs.Common.{◌≡◌, ◌∙◌, ◌<◌, ℕ, ℤ, length, ap, sym, pos, ◌+ℤ◌, ◌-ℤ◌, ◌*ℤ◌, to_z, of_z, arith}
use Rattle.std.specs.Prelude.{int_le}
use Rattle.std.proofs.lemmas.Int.{ints}
use Rattle.row_kit.specs.Area.{present}
use Rattle.row_kit.specs.Domain.{domain_at, no_values, values_of}
use Rattle.row_kit.proofs.Domains.{Holds-from_values}
use Rattle.row_kit.proofs.Parts.{held_byte}
use Rattle.dual_bound.specs.Line.{line_at, slot_line}
use Rattle.dual_bound.specs.Total.{gain, greatest, limits_sum, total_of}
use Rattle.dual_bound.proofs.Greatest.{greatest_same}
use Rattle.dual_bound.proofs.Nearness.{moved, with_small}
use Rattle.dual_bound.proofs.Small.{gain_small, greatest_small, total_small}
use Rattle.dual_bound.proofs.trimming.spare_of.Goals as goal
use mir.Syntax.{w128}

pub returns-clause-decides : goal.returns-clause-decides
returns-clause-decides c = λ slot v lt le.
    let program = c.args.program.now in
    let cert = c.args.cert.now in
    let ds = present c.args.area.now in
    let d = domain_at ds slot in
    let s = c.scaled_next.result in
    let fixed = c.fixed_total.result in
    let gains = c.gains_in.result in
    let line = slot_line c.gains_in.new.lines slot in
    let t = total_of program ds cert in
    let m = greatest (gain program cert slot) (values_of d) in
    let g = gain program cert slot v in
    let whole : fixed +ℤ gains ≡ t = ap (λ (x : ℤ). x +ℤ gains) c.fixed_total.ensures.value ∙ ap (λ (x : ℤ). ((pos cert.scale *ℤ program.base) +ℤ limits_sum program.rows cert.mults) +ℤ x) c.gains_in.ensures.value in
    let exact : to_z w128 (of_z w128 (to_z w128 (of_z w128 s) -ℤ to_z w128 (of_z w128 (to_z w128 (of_z w128 fixed) +ℤ to_z w128 (of_z w128 gains))))) ≡ s -ℤ (fixed +ℤ gains) =
    omega (arith, ints, c.scaled_next.ensures.small, c.fixed_total.ensures.small, c.gains_in.ensures.small) in
    let here : slot < length c.gains_in.new.lines = omega (arith, lt, c.requires.slots, c.requires.there, c.gains_in.auto.lines) in
    let is = λ (v : ℕ). c.gains_in.ensures.lines slot v here in
    let most : greatest (line_at line) (values_of d) ≡ m = greatest_same (line_at line) (gain program cert slot) is (values_of d) in
    let normal' = c.slot_count-slots.ensures.normal slot no_values lt in
    let total' = total_small program ds cert c.requires.usable c.slot_count-slots.ensures.normal c.requires.slots in
    let most' = greatest_small (gain program cert slot) (values_of d) 142000000000000000000000000 (λ w in'. gain_small program cert slot w c.requires.usable (held_byte d w normal' (Holds-from_values d w normal'.positive in'))) in
    let small = with_small t m g total' most' (gain_small program cert slot v c.requires.usable le) in
    c.scaled_next.ensures.same ((t -ℤ m) +ℤ g) small
    ∙ moved s t m g
    ∙ sym
    (ap (λ (x : ℤ). int_le (x +ℤ greatest (line_at line) (values_of d)) (line_at line v)) (exact ∙ ap (λ (y : ℤ). s -ℤ y) whole)
    ∙ ap (λ (x : ℤ). int_le ((s -ℤ t) +ℤ x) (line_at line v)) most
    ∙ ap (int_le ((s -ℤ t) +ℤ m)) (is v))
