-- One row may be broken in place of what it was before.
use mir.Syntax.{w128}
use Rattle.std.proofs.Common.{◌≡◌, ◌+◌, ◌∙◌, ◌≤◌, ◌^◌, ℤ, ap, set, arith, pos, sym, to_z, of_z, unsigned_abs}
use Rattle.std.specs.List.{sum_by}
use Rattle.std.proofs.lemmas.Int.{ints}
use Rattle.std.proofs.lemmas.List.{length-set}
use Rattle.std.proofs.lemmas.List.Elements.{All-set}
use Rattle.row_rooms.specs.Rooms.{broken_by, room_at}
use Rattle.row_rooms.proofs.Left.{few_broken, one_broken}
use Rattle.row_rooms.proofs.rooms.change_one.Goals as goal

pub overflow_add-result : goal.overflow_add-result
overflow_add-result c =
    let rooms = c.args.rooms.now in
    let row = c.args.cell.now.row in
    let left = c.left_after-left.result in
    let at : to_z w128 (of_z w128 (room_at rooms row)) ≡ room_at rooms row = omega (arith, ints) in
    let is : to_z w128 (of_z w128 left) ≡ left = omega (arith, ints) in
    let count = one_broken rooms row c.args.broken c.broken_by.result c.broken_by-2.result left c.requires.named c.requires.broken (c.broken_by.ensures ∙ ap broken_by at) (c.broken_by-2.ensures ∙ ap broken_by is) in
    omega (arith, count, few_broken (set rooms row left), length-set rooms row left)

pub returns-clause-broken : goal.returns-clause-broken
returns-clause-broken c =
    let rooms = c.args.rooms.now in
    let row = c.args.cell.now.row in
    let left = c.left_after-left.result in
    let at : to_z w128 (of_z w128 (room_at rooms row)) ≡ room_at rooms row = omega (arith, ints) in
    let is : to_z w128 (of_z w128 left) ≡ left = omega (arith, ints) in
    one_broken rooms row c.args.broken c.broken_by.result c.broken_by-2.result left c.requires.named c.requires.broken (c.broken_by.ensures ∙ ap broken_by at) (c.broken_by-2.ensures ∙ ap broken_by is)
    ∙ ap (λ (z : ℤ). sum_by broken_by (set rooms row z)) (sym is)

pub returns-clause-rooms : goal.returns-clause-rooms
returns-clause-rooms c =
    let rooms = c.args.rooms.now in
    let row = c.args.cell.now.row in
    ap (set rooms row) (omega (arith, ints, c.left_after-left.ensures.left))

pub returns-clause-small : goal.returns-clause-small
returns-clause-small c most small =
    let rooms = c.args.rooms.now in
    let row = c.args.cell.now.row in
    let here = small row (pos 0) c.requires.named in
    All-set (λ (room : ℤ). unsigned_abs room ≤ most + 2 ^ 41) rooms row (to_z w128 (of_z w128 c.left_after-left.result))
    (omega (arith, ints, here, c.left_after-left.ensures.small)) (λ k d lt. omega (arith, small k d lt))
