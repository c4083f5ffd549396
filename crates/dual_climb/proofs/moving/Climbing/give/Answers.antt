-- The lines move with the factor.
use Rattle.std.proofs.Common.{◌≡◌, ◌∙◌, ◌+◌, ◌<◌, length, ap, arith}
use Rattle.std.proofs.lemmas.List.{get_or_read}
use Rattle.row_kit.specs.Area.{present}
use Rattle.dual_bound.specs.declared.cert.Mult.{Mult}
use Rattle.dual_climb.specs.laws.Sums.{no_mult}
use Rattle.dual_climb.proofs.Steps.{moved_read, read_row}
use Rattle.dual_climb.proofs.moving.Climbing.give.Goals as goal

pub move_gains-requires-clause-along : goal.move_gains-requires-clause-along
move_gains-requires-clause-along c =
    let self = c.args.self.now in
    (read_row c.args.program.now (present c.args.area.now) c.args.scale self.factors.items self.gains.lines.items c.args.number c.as_slice.result.now c.index-as_slice-number.result c.index.result.now c.requires.area c.requires.climbing.gained c.requires.number c.index-as_slice-number.is c.as_slice.ensures c.index.ensures).along

pub returns : goal.returns
returns c =
    let p = c.args.program.now in
    let ds = present c.args.area.now in
    let self = c.args.self.now in
    let ms = self.factors.items in
    let k = c.args.number in
    let gained = c.requires.climbing.gained in
    let read = read_row p ds c.args.scale ms self.gains.lines.items k c.as_slice.result.now c.index-as_slice-number.result c.index.result.now c.requires.area gained c.requires.number c.index-as_slice-number.is c.as_slice.ensures c.index.ensures in
    let put : Mult = record { row = c.index_mut.result.now.row; factor = c.args.factor } in
    let in_ms : k < length ms = omega (arith, gained.full.all, c.requires.number) in
    let put_at : put.row ≡ 0 + k = ap (λ (m : Mult). m.row) (get_or_read ms k c.index_mut.result.now in_ms c.index_mut.ensures.value no_mult) ∙ gained.full.numbered k in_ms in
    let is_put : put.row ≡ k = omega arith in
    record {
      gained = moved_read p ds c.args.scale ms self.gains.lines.items c.move_gains.new.gains.lines.items k c.index-as_slice-number.result c.index.result.now.factor put read gained (c.move_gains.ensures.slots ∙ c.requires.area.slots) c.requires.number is_put c.requires.factor (λ slot v h. c.move_gains.ensures.value slot v (omega (arith, h, c.requires.area.slots)));
      greatest_gains = c.move_gains.ensures.most;
      slacks = c.requires.climbing.slacks;
      places = c.requires.climbing.places;
      best = c.requires.climbing.best;
    }
