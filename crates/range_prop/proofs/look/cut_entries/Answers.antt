-- One look at a row, entry by entry.
use Rattle.std.proofs.Common.{Vec, Global, ◌≡◌, ◌∙◌, ◌+◌, ◌<◌, ℕ, ℤ, List, length, map, get_or, take, refl, sym, ap, subst, arith, ◌+ℤ◌, ◌-ℤ◌, ◌≤ℤ◌}
use Rattle.std.specs.List.{All}
use Rattle.std.specs.List.Sorted.{IsStrictlyIncreasing}
use Rattle.row_kit.specs.declared.domain.Domain.{Domain}
use Rattle.row_kit.specs.declared.row.Entry.{Entry}
use Rattle.row_kit.specs.declared.row.Row.{Row}
use Rattle.row_kit.specs.Bounds.{IsBoundedRow}
use Rattle.range_prop.specs.declared.row_cut.RowCut.{RowCut}
use Rattle.range_prop.specs.Cuts.{HasCut}
use Rattle.row_kit.specs.Area.{present}
use Rattle.row_kit.specs.Domain.{Holds, domain_at, no_values}
use Rattle.row_kit.specs.Row.{counted, no_row, row_at}
use Rattle.row_kit.proofs.Ascending.{no_entry}
use Rattle.row_kit.proofs.Marks.{take-with_domain}
use Rattle.range_prop.specs.Cut.{least_counted}
use Rattle.range_prop.specs.laws.Sums.{least_sum}
use Rattle.range_prop.proofs.Looks.{IsCutTo, look_cut, look_kept}
use Rattle.range_prop.proofs.Rooms.{HasRoom-near}
use Rattle.range_prop.proofs.Sequences.{HasCut-keeps, HasCut-none, HasCut-slots, take-then}
use Rattle.range_prop.proofs.look.cut_entries.Goals as goal
use Rattle.range_prop.proofs.look.cut_entries.Goals.{then-keep_near+in_ok-push, else-keep_near}

-- the slots of the entries are there, whatever has been cut
in_slots : (rows : List Row) (root : List Domain) (row : ℕ) (es : List Entry) (a b : List (List Domain)) (x y : List RowCut) (i : ℕ) → All (IsBoundedRow (length root)) rows → row < length rows → es ≡ (row_at rows row).entries → length (present a) ≡ length root → HasCut rows a b x y → i < length es → (get_or es i no_entry).slot < length (present b)
in_slots rows root row es a b x y i bounded lt is slots cut below =
    let named = subst (λ (xs : List Entry). All (λ e. e.slot < length root) xs) (sym is) (bounded row no_row lt).entries.named in
    omega (arith, named i no_entry below, slots, HasCut-slots rows a b x y cut)

-- their slots ascend
ascends : (rows : List Row) (n row : ℕ) (es : List Entry) → All (IsBoundedRow n) rows → row < length rows → es ≡ (row_at rows row).entries → IsStrictlyIncreasing (map (λ e. e.slot) es)
ascends rows n row es bounded lt is = subst (λ (xs : List Entry). IsStrictlyIncreasing (map (λ e. e.slot) xs)) (sym is) (bounded row no_row lt).entries.ascending

pub loop-entry-init : goal.loop-entry-init
loop-entry-init c = record {
  cut = HasCut-none c.args.program.now.rows c.args.area.now c.args.cuts.now.items;
  sum = refl;
  open' = c.requires.open_;
  normal' = c.slot_count-slots.ensures.normal;
  near = λ k below. absurd (omega arith);
}

pub keep_near-requires-clause-slot : goal.keep_near-requires-clause-slot
keep_near-requires-clause-slot c =
    let program = c.args.program.now in
    in_slots program.rows program.root c.args.row c.args.entries.now c.args.area.now c.loop-entry.area c.args.cuts.now.items c.loop-entry.cuts.items c.loop-entry.entry-index program.rows_bounded c.requires.row c.requires.entries c.requires.slots c.loop-entry.invariant.cut c.loop-entry-test.true

pub keep_near-requires-clause-open_ : goal.keep_near-requires-clause-open_
keep_near-requires-clause-open_ c = c.loop-entry.invariant.open' (get_or c.args.entries.now c.loop-entry.entry-index no_entry).slot no_values (keep_near-requires-clause-slot c)

pub returns-in_err-push-clause-keeps : goal.returns-in_err-push-clause-keeps
returns-in_err-push-clause-keeps c =
    let e = get_or c.args.entries.now c.loop-entry.entry-index no_entry in
    let here = HasCut-keeps c.args.program.now.rows c.args.area.now c.loop-entry.area c.args.cuts.now.items c.loop-entry.cuts.items c.loop-entry.invariant.cut in
    let one : take (length c.loop-entry.area) c.keep_near.new.area ≡ c.loop-entry.area = ap (take (length c.loop-entry.area)) c.keep_near.ensures.marks ∙ take-with_domain c.loop-entry.area e.slot _ in
    take-then c.args.area.now c.loop-entry.area c.keep_near.new.area here one

pub returns-in_err-push-clause-slots : goal.returns-in_err-push-clause-slots
returns-in_err-push-clause-slots c =
    c.keep_near.ensures.slots ∙ HasCut-slots c.args.program.now.rows c.args.area.now c.loop-entry.area c.args.cuts.now.items c.loop-entry.cuts.items c.loop-entry.invariant.cut

pub loop-entry-preserved : goal.loop-entry-preserved
loop-entry-preserved c =
    let program = c.args.program.now in
    let es = c.args.entries.now in
    let i = c.loop-entry.entry-index in
    let up = ascends program.rows (length program.root) c.args.row es program.rows_bounded c.requires.row c.requires.entries in
    let in' = in_slots program.rows program.root c.args.row es c.args.area.now c.loop-entry.area c.args.cuts.now.items c.loop-entry.cuts.items i program.rows_bounded c.requires.row c.requires.entries c.requires.slots c.loop-entry.invariant.cut c.loop-entry-test.true in
    let k = c.keep_near.ensures in
    elim c.if-keep_near.branch as (λ _. IsCutTo program.rows es c.args.slack.now c.args.area.now c.keep_near.new.area c.args.cuts.now.items c.if-keep_near.cuts.items (i + 1)) [
      | then-keep_near+in_ok-push w ↦
          let look = look_cut program.rows c.args.row es c.requires.entries c.args.slack.now c.args.area.now c.loop-entry.area c.keep_near.new.area c.args.cuts.now.items c.loop-entry.cuts.items i c.loop-entry.invariant up c.requires.row c.loop-entry-test.true in' c.requires.slack k.marks (sym k.shrank ∙ w.if-keep_near.true) k.near k.least k.open_ in
          let listed = ap (λ (v : Vec RowCut Global). v.items) w.cuts-is ∙ w.in_ok-push.ensures.items in
          subst (λ (xs : List RowCut). IsCutTo program.rows es c.args.slack.now c.args.area.now c.keep_near.new.area c.args.cuts.now.items xs (i + 1)) (sym listed) look
      | else-keep_near w ↦
          let look = look_kept program.rows c.args.row es c.requires.entries c.args.slack.now c.args.area.now c.loop-entry.area c.keep_near.new.area c.args.cuts.now.items c.loop-entry.cuts.items i c.loop-entry.invariant up c.loop-entry-test.true in' c.requires.slack k.marks (sym k.shrank ∙ w.if-keep_near.false) k.near k.least k.open_ in
          subst (λ (v : Vec RowCut Global). IsCutTo program.rows es c.args.slack.now c.args.area.now c.keep_near.new.area c.args.cuts.now.items v.items (i + 1)) (sym w.cuts-is) look
    ]

pub returns-clause-room : goal.returns-clause-room
returns-clause-room c =
    let program = c.args.program.now in
    let row = row_at program.rows c.args.row in
    let es = c.args.entries.now in
    let ds = present c.loop-entry.area in
    let near = λ (k : ℕ) (lt : k < length es). c.loop-entry.invariant.near k (omega (arith, lt, c.loop-entry-test.false)) in
    let is = c.requires.slack ∙ ap (λ (x : ℤ). row.limit -ℤ x) (sym c.loop-entry.invariant.sum ∙ ap (λ (xs : List Entry). least_sum xs ds) c.requires.entries) in
    HasRoom-near row ds c.args.slack.now (program.rows_bounded c.args.row no_row c.requires.row).entries.ascending is c.requires.least
    (subst (λ (xs : List Entry). (k : ℕ) → k < length xs → (v : ℕ) → Holds (domain_at ds (get_or xs k no_entry).slot) v → counted (get_or xs k no_entry) v ≤ℤ (c.args.slack.now +ℤ least_counted ds (get_or xs k no_entry))) c.requires.entries near)

pub returns-clause-keeps : goal.returns-clause-keeps
returns-clause-keeps c = HasCut-keeps c.args.program.now.rows c.args.area.now c.loop-entry.area c.args.cuts.now.items c.loop-entry.cuts.items c.loop-entry.invariant.cut

pub returns-clause-slots : goal.returns-clause-slots
returns-clause-slots c = HasCut-slots c.args.program.now.rows c.args.area.now c.loop-entry.area c.args.cuts.now.items c.loop-entry.cuts.items c.loop-entry.invariant.cut
