-- The rows of the head, or what is not shown of it.
use Rattle.std.proofs.Common.{◌≡◌, ℕ, List, length, inl, inr, sym, ◌∙◌, subst, arith}
use Rattle.std.specs.List.{All}
use Rattle.std.proofs.lemmas.Bool.Decides.{nat_tests}
use Rattle.row_kit.specs.Domain.{IsNormal}
use Rattle.row_kit.specs.declared.domain.Domain.{Domain}
use Rattle.row_kit.specs.declared.program.Program.{Program}
use Rattle.sum_slots.specs.declared.sum.Sum.{Sum}
use Rattle.sum_slots.specs.Larger.{IsWithSums}
use Rattle.sum_slots.specs.Shown.{IsShown}
use Rattle.sum_lines.specs.Head.{IsHeadVersion}
use Rattle.setup_slots.specs.Several.{AreSetUp, HaveRoom, choices_before}
use Rattle.plant_check.proofs.HeadJudged.{begins_held, domains_are, judged_by, part_begins, room_held, rows_fit, slots_there, wide_ranges, with_sums_alone}
use Rattle.plant_check.proofs.head.judge_head.Goals as goal

-- a head that is not of version 3 is of version 4
in_four : (version : ℕ) → IsHeadVersion version → (version ≡ 3 → ⊥) → version ≡ 4
in_four version (inl three) other = absurd (other three)
in_four version (inr four) other = four

pub set_up_all-requires-clause-slots : goal.set_up_all-requires-clause-slots
set_up_all-requires-clause-slots c =
    let setups = c.args.setups.now in
    let between = c.in_ok-between.between in
    let with' = subst (λ (sums : List Sum). IsWithSums c.args.program c.args.judged.now sums between) c.as_slice-sums.ensures c.in_ok-between.ensures.made in
    begins_held c.args.plant.now c.args.program between c.args.judged.now setups.head.sums (part_begins c.args.plant.now c.args.program c.requires.part) with'

pub set_up_all-requires-clause-room : goal.set_up_all-requires-clause-room
set_up_all-requires-clause-room c =
    let setups = c.args.setups.now in
    let between = c.in_ok-between.between in
    let with' = subst (λ (sums : List Sum). IsWithSums c.args.program c.args.judged.now sums between) c.as_slice-sums.ensures c.in_ok-between.ensures.made in
    subst (λ (us : List ℕ). HaveRoom c.args.plant.now us between) (sym c.as_slice-2.ensures) (room_held c.args.plant.now c.args.program between c.args.judged.now c.args.depth setups c.requires.held with')

pub returns-then-head-eq3 : goal.returns-then-head-eq3
returns-then-head-eq3 c =
    let plant = c.args.plant.now in
    let setups = c.args.setups.now in
    let between = c.in_ok-between.between in
    let three = c.if-head-eq3.true in
    let shown = subst (All (IsShown c.args.program c.args.judged.now)) c.as_slice-sums.ensures c.in_default.ensures in
    let with' = subst (λ (sums : List Sum). IsWithSums c.args.program c.args.judged.now sums between) c.as_slice-sums.ensures c.in_ok-between.ensures.made in
    let set = subst (λ (us : List ℕ). AreSetUp plant us between c.in_ok-wide.wide.program) c.as_slice-2.ensures c.in_ok-wide.ensures.made in
    let before = subst (λ (us : List ℕ). c.in_ok-wide.wide.choices ≡ choices_before us between) c.as_slice-2.ensures c.in_ok-wide.ensures.choices in
    with_sums_alone plant setups.head.version c.args.program between c.args.judged.now setups.head.sums setups.units c.args.tail.now.derivations c.rows_with.result three (c.requires.held.none three) (c.requires.tailed.none three) shown with'
    (subst (λ (p : Program). AreSetUp plant setups.units between p) (sym c.rows_with.ensures.program) set) (c.rows_with.ensures.choices ∙ before)

pub slice_bounds-joined-count : goal.slice_bounds-joined-count
slice_bounds-joined-count c =
    let plant = c.args.plant.now in
    let setups = c.args.setups.now in
    let between = c.in_ok-between.between in
    let wide = c.in_ok-wide.wide.program in
    let judged = c.args.judged.now in
    let with' = subst (λ (sums : List Sum). IsWithSums c.args.program judged sums between) c.as_slice-sums.ensures c.in_ok-between.ensures.made in
    let set = subst (λ (us : List ℕ). AreSetUp plant us between wide) c.as_slice-2.ensures c.in_ok-wide.ensures.made in
    omega (arith, slots_there plant c.args.program between wide judged setups.head.sums setups.units c.len-slots.result c.as_slice-3.result.now c.len-slots.ensures c.as_slice-3.ensures with' set)

pub slice_bounds-joined-start : goal.slice_bounds-joined-start
slice_bounds-joined-start c =
    let plant = c.args.plant.now in
    let setups = c.args.setups.now in
    let between = c.in_ok-between.between in
    let wide = c.in_ok-wide.wide.program in
    let judged = c.args.judged.now in
    let with' = subst (λ (sums : List Sum). IsWithSums c.args.program judged sums between) c.as_slice-sums.ensures c.in_ok-between.ensures.made in
    let set = subst (λ (us : List ℕ). AreSetUp plant us between wide) c.as_slice-2.ensures c.in_ok-wide.ensures.made in
    omega (arith, slots_there plant c.args.program between wide judged setups.head.sums setups.units c.len-slots.result c.as_slice-3.result.now c.len-slots.ensures c.as_slice-3.ensures with' set)

pub judge_derivations-requires-clause-same_slots : goal.judge_derivations-requires-clause-same_slots
judge_derivations-requires-clause-same_slots c =
    let plant = c.args.plant.now in
    let setups = c.args.setups.now in
    let between = c.in_ok-between.between in
    let wide = c.in_ok-wide.wide.program in
    let judged = c.args.judged.now in
    let with' = subst (λ (sums : List Sum). IsWithSums c.args.program judged sums between) c.as_slice-sums.ensures c.in_ok-between.ensures.made in
    let set = subst (λ (us : List ℕ). AreSetUp plant us between wide) c.as_slice-2.ensures c.in_ok-wide.ensures.made in
    let same = c.as_slice-4.ensures ∙ domains_are plant c.args.program between wide judged setups.head.sums setups.units c.len-slots.result c.as_slice-3.result.now c.in_ok-domains.domains c.len-slots.ensures c.as_slice-3.ensures with' set c.in_ok-domains.ensures in
    subst (λ (ds : List Domain). length ds ≡ length wide.root) (sym same) (wide_ranges plant c.args.program between wide judged setups.head.sums setups.units c.requires.ranges with' set).same_length

pub judge_derivations-requires-clause-normal : goal.judge_derivations-requires-clause-normal
judge_derivations-requires-clause-normal c =
    let plant = c.args.plant.now in
    let setups = c.args.setups.now in
    let between = c.in_ok-between.between in
    let wide = c.in_ok-wide.wide.program in
    let judged = c.args.judged.now in
    let with' = subst (λ (sums : List Sum). IsWithSums c.args.program judged sums between) c.as_slice-sums.ensures c.in_ok-between.ensures.made in
    let set = subst (λ (us : List ℕ). AreSetUp plant us between wide) c.as_slice-2.ensures c.in_ok-wide.ensures.made in
    let same = c.as_slice-4.ensures ∙ domains_are plant c.args.program between wide judged setups.head.sums setups.units c.len-slots.result c.as_slice-3.result.now c.in_ok-domains.domains c.len-slots.ensures c.as_slice-3.ensures with' set c.in_ok-domains.ensures in
    subst (All IsNormal) (sym same) (wide_ranges plant c.args.program between wide judged setups.head.sums setups.units c.requires.ranges with' set).normal

pub judge_derivations-requires-clause-few_rows : goal.judge_derivations-requires-clause-few_rows
judge_derivations-requires-clause-few_rows c =
    let plant = c.args.plant.now in
    let between = c.in_ok-between.between in
    let wide = c.in_ok-wide.wide.program in
    let judged = c.args.judged.now in
    let with' = subst (λ (sums : List Sum). IsWithSums c.args.program judged sums between) c.as_slice-sums.ensures c.in_ok-between.ensures.made in
    let set = subst (λ (us : List ℕ). AreSetUp plant us between wide) c.as_slice-2.ensures c.in_ok-wide.ensures.made in
    rows_fit plant c.args.program between wide judged c.args.depth c.args.setups.now c.args.tail.now c.requires.held c.requires.tailed with' set

pub judge_derivations-requires-clause-lines : goal.judge_derivations-requires-clause-lines
judge_derivations-requires-clause-lines c = c.requires.tailed.kept.lines

pub returns : goal.returns
returns c =
    let plant = c.args.plant.now in
    let setups = c.args.setups.now in
    let between = c.in_ok-between.between in
    let wide = c.in_ok-wide.wide in
    let judged = c.args.judged.now in
    let other : setups.head.version ≡ 3 → ⊥ = λ (e : setups.head.version ≡ 3). grind (arith, nat_tests) in
    let shown = subst (All (IsShown c.args.program c.args.judged.now)) c.as_slice-sums.ensures c.in_default.ensures in
    let with' = subst (λ (sums : List Sum). IsWithSums c.args.program judged sums between) c.as_slice-sums.ensures c.in_ok-between.ensures.made in
    let set = subst (λ (us : List ℕ). AreSetUp plant us between wide.program) c.as_slice-2.ensures c.in_ok-wide.ensures.made in
    let before = subst (λ (us : List ℕ). wide.choices ≡ choices_before us between) c.as_slice-2.ensures c.in_ok-wide.ensures.choices in
    let same = c.as_slice-4.ensures ∙ domains_are plant c.args.program between wide.program judged setups.head.sums setups.units c.len-slots.result c.as_slice-3.result.now c.in_ok-domains.domains c.len-slots.ensures c.as_slice-3.ensures with' set c.in_ok-domains.ensures in
    judged_by plant c.args.program between wide.program wide.choices judged c.as_slice-4.result.now setups c.args.tail.now c.judge_derivations.result (in_four setups.head.version c.requires.held.version other) shown with' set before same
    c.judge_derivations.ensures
