-- One more slot, where it is too near or not, and all.
use Rattle.std.proofs.Common.{◌≡◌, ◌++◌, ◌∙◌, ℕ, ◌<◌, ap, ap₂, sym, length, map, arith}
use Rattle.std.specs.Prelude.{filter, slice_index_or}
use Rattle.std.specs.List.{range_with_len}
use Rattle.std.proofs.lemmas.List.{get_or_default}
use Rattle.time_grid.specs.Slots.{slots}
use Rattle.time_grid.proofs.SlotList.{grid-are}
use Rattle.unit_rows.specs.Gaps.{is_too_soon}
use Rattle.row_names.specs.declared.name.RowName.TheVariants.{Gap}
use Rattle.row_names.specs.RowNames.{slot_at, gaps_after}
use Rattle.row_names.proofs.Ranges.{item_taken, item_left}
use Rattle.row_names.proofs.gaps.push_gaps_after.Goals as goal
use Rattle.row_names.proofs.gaps.push_gaps_after.Goals.{then-is_too_soon+in_ok-push, else-is_too_soon}

pub is_too_soon-requires-clause-first : goal.is_too_soon-requires-clause-first
is_too_soon-requires-clause-first c = grid-are c.args.plant.now c.args.grid.now c.args.first c.run_period.result c.requires.grid (let long = ap length c.requires.grid in omega (arith, long, c.requires.there)) c.run_period.ensures

pub is_too_soon-requires-clause-second : goal.is_too_soon-requires-clause-second
is_too_soon-requires-clause-second c = grid-are c.args.plant.now c.args.grid.now c.loop-second.second c.run_period-in-loop-second.result c.requires.grid (omega arith) c.run_period-in-loop-second.ensures

pub loop-second-preserved : goal.loop-second-preserved
loop-second-preserved c =
    let p = λ (second : ℕ). is_too_soon c.args.plant.now (slot_at c.args.plant.now c.args.first) (slot_at c.args.plant.now second) in
    let long = ap length c.requires.grid in
    let inside : c.args.first < length c.args.grid.now = omega (arith, long, c.requires.there) in
    let within : c.loop-second.second < length c.args.grid.now = omega arith in
    let here : c.run_period.result ≡ slot_at c.args.plant.now c.args.first =
    c.run_period.ensures ∙ get_or_default c.args.grid.now c.args.first c.run_period.result (0, 0) inside ∙ ap (λ grid. slice_index_or grid c.args.first (0, 0)) c.requires.grid in
    let there : c.run_period-in-loop-second.result ≡ slot_at c.args.plant.now c.loop-second.second =
    c.run_period-in-loop-second.ensures ∙ get_or_default c.args.grid.now c.loop-second.second c.run_period-in-loop-second.result (0, 0) within ∙ ap (λ grid. slice_index_or grid c.loop-second.second (0, 0)) c.requires.grid in
    let test = c.is_too_soon.ensures ∙ ap₂ (λ a b. is_too_soon c.args.plant.now a b) here there in
    elim c.if-is_too_soon.branch [
      | then-is_too_soon+in_ok-push w ↦ rw w.names-is (item_taken (Gap c.args.unit c.args.first) p c.args.names.now.items c.loop-second.names.items w.push.new.self.items c.loop-second.second (sym test ∙ w.if-is_too_soon.true) c.loop-second.invariant w.in_ok-push.ensures.items)
      | else-is_too_soon w ↦ rw w.names-is (item_left (Gap c.args.unit c.args.first) p c.args.names.now.items c.loop-second.names.items c.loop-second.second (sym test ∙ w.if-is_too_soon.false) c.loop-second.invariant)
    ]

pub returns : goal.returns
unfolding gaps_after
returns c =
    let all : c.loop-second.second ≡ length (slots c.args.plant.now) = omega (arith, ap length c.requires.grid) in
    let p = λ (second : ℕ). is_too_soon c.args.plant.now (slot_at c.args.plant.now c.args.first) (slot_at c.args.plant.now second) in
    c.loop-second.invariant ∙ ap (λ n. c.args.names.now.items ++ map (Gap c.args.unit c.args.first) (filter p (range_with_len 0 n))) all
