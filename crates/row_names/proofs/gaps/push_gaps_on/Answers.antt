-- One more slot, where it is of the unit or not, and all.
use Rattle.std.proofs.Common.{◌≡◌, ◌++◌, ◌∙◌, ℕ, ◌<◌, ap, sym, length, arith}
use Rattle.std.specs.Prelude.{filter, slice_index_or}
use Rattle.std.specs.List.{flat_map, range_with_len}
use Rattle.std.proofs.lemmas.List.{get_or_default}
use Rattle.time_grid.specs.Slots.{slots}
use Rattle.time_grid.proofs.SlotList.{grid-are}
use Rattle.unit_rows.specs.Busy.{is_on}
use Rattle.row_names.specs.RowNames.{slot_at, gaps_after, gaps_on}
use Rattle.row_names.proofs.Ranges.{piece_taken, piece_left}
use Rattle.row_names.proofs.gaps.push_gaps_on.Goals as goal
use Rattle.row_names.proofs.gaps.push_gaps_on.Goals.{then-is_on+in_ok-push_gaps_after, else-is_on}

pub is_on-requires : goal.is_on-requires
is_on-requires c = (grid-are c.args.plant.now c.args.grid.now c.loop-first.first c.run_period.result c.requires.grid (omega arith) c.run_period.ensures).run

pub loop-first-preserved : goal.loop-first-preserved
loop-first-preserved c =
    let p = λ (first : ℕ). is_on c.args.plant.now c.args.unit (slot_at c.args.plant.now first) in
    let within : c.loop-first.first < length c.args.grid.now = omega arith in
    let here : c.run_period.result ≡ slot_at c.args.plant.now c.loop-first.first =
    c.run_period.ensures ∙ get_or_default c.args.grid.now c.loop-first.first c.run_period.result (0, 0) within ∙ ap (λ grid. slice_index_or grid c.loop-first.first (0, 0)) c.requires.grid in
    let test = c.is_on.ensures ∙ ap (λ slot. is_on c.args.plant.now c.args.unit slot) here in
    elim c.if-is_on.branch [
      | then-is_on+in_ok-push_gaps_after w ↦ rw w.names-is (piece_taken (gaps_after c.args.plant.now c.args.unit) p c.args.names.now.items c.loop-first.names.items w.push_gaps_after.new.names.items c.loop-first.first (sym test ∙ w.if-is_on.true) c.loop-first.invariant w.in_ok-push_gaps_after.ensures)
      | else-is_on w ↦ rw w.names-is (piece_left (gaps_after c.args.plant.now c.args.unit) p c.args.names.now.items c.loop-first.names.items c.loop-first.first (sym test ∙ w.if-is_on.false) c.loop-first.invariant)
    ]

pub returns : goal.returns
unfolding gaps_on
returns c =
    let all : c.loop-first.first ≡ length (slots c.args.plant.now) = omega (arith, ap length c.requires.grid) in
    let p = λ (first : ℕ). is_on c.args.plant.now c.args.unit (slot_at c.args.plant.now first) in
    c.loop-first.invariant ∙ ap (λ n. c.args.names.now.items ++ flat_map (gaps_after c.args.plant.now c.args.unit) (filter p (range_with_len 0 n))) all
