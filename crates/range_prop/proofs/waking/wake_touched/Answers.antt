-- The rows of one slot more wait, and those of the slots before still do.
use Rattle.std.proofs.Common.{◌∙◌, ◌<◌, ℕ, length, take, get_or, sym, subst, arith}
use Rattle.std.specs.List.{All}
use Rattle.std.proofs.lemmas.List.{take_all}
use Rattle.std.proofs.lemmas.List.Elements.{All-more, All-weaker, Contains-get_or}
use Rattle.range_prop.specs.declared.row_cut.RowCut.{RowCut}
use Rattle.range_prop.specs.Index.{list_of}
use Rattle.range_prop.specs.laws.Queue.{AreAwake}
use Rattle.range_prop.proofs.Rounds.{AreAwake-kept}
use Rattle.range_prop.proofs.waking.wake_touched.Goals as goal

-- a cut for a place where there is none
abbrev no_cut : RowCut
no_cut = record { row = 0; slot = 0 }

pub wake_rows-requires : goal.wake_rows-requires
wake_rows-requires c =
    let slot = (get_or c.args.cuts.now c.loop-cut.cut-index no_cut).slot in
    let rows = list_of c.args.index.now slot in
    let all = λ (k d : ℕ) (lt : k < length rows). subst (λ (n : ℕ). get_or rows k d < n) (sym c.loop-cut.invariant.count) (c.requires.rows slot (get_or rows k d) (Contains-get_or rows k d lt)) in
    subst (All (λ (row : ℕ). row < length c.loop-cut.queue.waiting.items)) (sym c.rows_of.ensures) all

pub loop-cut-preserved : goal.loop-cut-preserved
loop-cut-preserved c =
    let old = c.loop-cut.queue.waiting.items in
    let new' = c.wake_rows.new.queue.waiting.items in
    let cuts = c.args.cuts.now in
    let i = c.loop-cut.cut-index in
    let cutter = c.args.cutter in
    let index = c.args.index.now in
    let still = λ (x : RowCut) (h : AreAwake old cutter (list_of index x.slot)). AreAwake-kept old new' cutter (list_of index x.slot) c.wake_rows.ensures.kept h in
    record {
      count = c.wake_rows.ensures.count ∙ c.loop-cut.invariant.count;
      kept = λ row h. c.wake_rows.ensures.kept row (c.loop-cut.invariant.kept row h);
      woken = All-more (λ (x : RowCut). AreAwake new' cutter (list_of index x.slot)) cuts i no_cut c.loop-cut-test.true
          (All-weaker (λ (x : RowCut). AreAwake old cutter (list_of index x.slot)) (λ (x : RowCut). AreAwake new' cutter (list_of index x.slot)) still (take i cuts) c.loop-cut.invariant.woken)
          (subst (AreAwake new' cutter) c.rows_of.ensures c.in_ok-wake_rows.ensures.woken);
    }

pub returns-clause-woken : goal.returns-clause-woken
returns-clause-woken c =
    subst (All (λ (x : RowCut). AreAwake c.loop-cut.queue.waiting.items c.args.cutter (list_of c.args.index.now x.slot))) (take_all c.loop-cut.cut-index c.args.cuts.now (omega (arith, c.loop-cut-test.false))) c.loop-cut.invariant.woken
