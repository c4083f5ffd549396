-- An entry counts at most the room where a multiple is small or great enough.
use Rattle.std.proofs.Common.{◌≡◌, ◌∙◌, ◌-ℤ◌, ◌≤ℤ◌, pos, to_z, of_z, ap, unsigned_abs, arith}
use Rattle.std.proofs.lemmas.Int.{ints}
use Rattle.range_prop.proofs.Multiples.{allowed_up, allowed_down}
use Rattle.range_prop.proofs.allowed.allowed.Goals as goal
use mir.Syntax.{w64, w128}

pub returns-then-entry-lt0-clause-range : goal.returns-then-entry-lt0-clause-range
returns-then-entry-lt0-clause-range c = λ v low high.
    let e = c.args.entry.now in
    let fixed : to_z w64 (of_z w64 e.fixed) ≡ e.fixed = omega (arith, ints) in
    let per : to_z w64 (of_z w64 e.per) ≡ e.per = omega (arith, ints) in
    let down : e.per ≤ℤ pos 0 = grind (arith, ints) in
    let from : c.from.result ≡ e.fixed = c.from.ensures ∙ fixed in
    let is : to_z w128 (of_z w128 (pos 0 -ℤ to_z w128 (of_z w128 (to_z w128 (of_z w128 c.args.room.now) -ℤ to_z w128 (of_z w128 c.from.result))))) ≡ e.fixed -ℤ c.args.room.now = omega (arith, ints, c.requires.small, c.requires.light.fixed) in
    let abs = c.unsigned_abs-per.ensures.value ∙ ap unsigned_abs per in
    allowed_down e c.args.room.now _ c.unsigned_abs-per.result c.least_times.result v _ down is abs low (c.least_times.ensures.least v low high) (c.at_least.ensures.range v low high)

pub returns-else-entry-lt0-clause-range : goal.returns-else-entry-lt0-clause-range
returns-else-entry-lt0-clause-range c = λ v low high.
    let e = c.args.entry.now in
    let fixed : to_z w64 (of_z w64 e.fixed) ≡ e.fixed = omega (arith, ints) in
    let per : to_z w64 (of_z w64 e.per) ≡ e.per = omega (arith, ints) in
    let up : pos 0 ≤ℤ e.per = grind (arith, ints) in
    let from : c.from.result ≡ e.fixed = c.from.ensures ∙ fixed in
    let is : to_z w128 (of_z w128 (to_z w128 (of_z w128 c.args.room.now) -ℤ to_z w128 (of_z w128 c.from.result))) ≡ c.args.room.now -ℤ e.fixed = omega (arith, ints, c.requires.small, c.requires.light.fixed) in
    let abs = c.unsigned_abs-per.ensures.value ∙ ap unsigned_abs per in
    allowed_up e c.args.room.now _ c.unsigned_abs-per.result c.most_times.result v up is abs low (c.most_times.ensures v low high)
