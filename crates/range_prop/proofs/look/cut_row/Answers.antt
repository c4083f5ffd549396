-- Where the least entries leave slack, each entry is looked at; else one cut leaves nothing.
use Rattle.std.proofs.Common.{◌≡◌, ◌∙◌, ℤ, List, length, take, ap, inl, arith, ◌<ℤ◌}
use Rattle.std.proofs.lemmas.Int.{ints}
use Rattle.std.proofs.lemmas.List.{get_or_read}
use Rattle.std.specs.List.{Any}
use Rattle.row_kit.specs.Row.{no_row, row_at}
use Rattle.row_kit.specs.Domain.{IsBare}
use Rattle.range_prop.specs.Cuts.{HasCut}
use Rattle.row_kit.specs.declared.row.Entry.{Entry}
use Rattle.row_kit.specs.declared.row.Row.{Row}
use Rattle.row_kit.specs.Area.{present}
use Rattle.row_kit.proofs.Ascending.{few_entries}
use Rattle.row_kit.proofs.Marks.{take-with_domain}
use Rattle.range_prop.specs.Cut.{cut_domain}
use Rattle.range_prop.specs.laws.Sums.{least_sum}
use Rattle.range_prop.proofs.Looks.{look_none}
use Rattle.range_prop.proofs.look.cut_row.Goals as goal

pub least_sum-requires-clause-few : goal.least_sum-requires-clause-few
least_sum-requires-clause-few c =
    let program = c.args.program.now in
    let row = row_at program.rows c.args.row in
    let same : c.get-cutter.result.now ≡ row = get_or_read program.rows c.args.row c.get-cutter.result.now c.requires.row c.get-cutter.ensures no_row in
    let entries : c.as_slice-entries.result.now ≡ row.entries = c.as_slice-entries.ensures ∙ ap (λ (r : Row). r.entries) same in
    omega (arith, ap length entries, few_entries (length program.root) 10000000 row.entries (program.rows_bounded c.args.row no_row c.requires.row).entries, program.few_slots)

pub returns-in_err-push-clause-keeps : goal.returns-in_err-push-clause-keeps
returns-in_err-push-clause-keeps c = ap (take (length c.args.area.now)) c.cut.ensures.marks ∙ take-with_domain c.args.area.now 0 (cut_domain (row_at c.args.program.now.rows c.args.row) 0 (present c.args.area.now))

pub returns-clause-keeps : goal.returns-clause-keeps
returns-clause-keeps c = ap (take (length c.args.area.now)) c.cut.ensures.marks ∙ take-with_domain c.args.area.now 0 (cut_domain (row_at c.args.program.now.rows c.args.row) 0 (present c.args.area.now))

-- the one cut
only_cut : (c : goal.In_ok-push) → HasCut c.args.program.now.rows c.args.area.now c.cut.new.area c.args.cuts.now.items c.push.new.self.items × Any IsBare (present c.cut.new.area)
only_cut c =
    let program = c.args.program.now in
    let row = row_at program.rows c.args.row in
    let ds = present c.args.area.now in
    let same : c.get-cutter.result.now ≡ row = get_or_read program.rows c.args.row c.get-cutter.result.now c.requires.row c.get-cutter.ensures no_row in
    let entries : c.as_slice-entries.result.now ≡ row.entries = c.as_slice-entries.ensures ∙ ap (λ (r : Row). r.entries) same in
    let sum : c.least_sum.result ≡ least_sum row.entries ds = c.least_sum.ensures.value ∙ ap (λ (es : List Entry). least_sum es ds) entries in
    let limit : c.get-cutter.result.now.limit ≡ row.limit = ap (λ (r : Row). r.limit) same in
    let small = c.get-cutter.result.now.limit in
    let less : c.get-cutter.result.now.limit <ℤ c.least_sum.result = grind (arith, ints, c.least_sum.ensures.small, (program.rows_bounded c.args.row no_row c.requires.row).limit, limit) in
    let more : row.limit <ℤ least_sum row.entries ds = along c.get-cutter.result.now.limit row.limit c.least_sum.result (least_sum row.entries ds) less limit sum in
    look_none program.rows c.args.row c.args.area.now c.cut.new.area c.args.cuts.now.items c.push.new.self.items c.requires.row (omega arith) c.requires.open_ c.slot_count.ensures.normal more c.cut.ensures.marks c.in_ok-push.ensures.items
  where
    along : (a b x y : ℤ) → a <ℤ x → a ≡ b → x ≡ y → b <ℤ y
    along a b x y h e f = omega (arith, ints)

pub returns-clause-cut : goal.returns-clause-cut
returns-clause-cut c = (only_cut c).0

pub returns-clause-done : goal.returns-clause-done
returns-clause-done c = inl (only_cut c).1
