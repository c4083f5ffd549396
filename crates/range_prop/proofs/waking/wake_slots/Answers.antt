-- The rows of one slot more wait, and those of the slots before still do.
use Rattle.std.proofs.Common.{◌∙◌, ◌<◌, ℕ, length, take, get_or, sym, subst, arith}
use Rattle.std.specs.List.{All}
use Rattle.std.proofs.lemmas.List.{take_all}
use Rattle.std.proofs.lemmas.List.Elements.{All-more, All-weaker, Contains-get_or}
use Rattle.range_prop.specs.Index.{list_of}
use Rattle.range_prop.specs.laws.Queue.{AreAwake}
use Rattle.range_prop.proofs.Rounds.{AreAwake-kept}
use Rattle.range_prop.proofs.waking.wake_slots.Goals as goal

pub wake_rows-requires : goal.wake_rows-requires
wake_rows-requires c =
    let slot = get_or c.args.slots.now c.loop-slot.slot-index 0 in
    let rows = list_of c.args.index.now slot in
    let all = λ (k d : ℕ) (lt : k < length rows). subst (λ (n : ℕ). get_or rows k d < n) (sym c.loop-slot.invariant.count) (c.requires.rows slot (get_or rows k d) (Contains-get_or rows k d lt)) in
    subst (All (λ (row : ℕ). row < length c.loop-slot.queue.waiting.items)) (sym c.rows_of.ensures) all

pub loop-slot-preserved : goal.loop-slot-preserved
loop-slot-preserved c =
    let old = c.loop-slot.queue.waiting.items in
    let new' = c.wake_rows.new.queue.waiting.items in
    let slots = c.args.slots.now in
    let i = c.loop-slot.slot-index in
    let but = c.args.but in
    let index = c.args.index.now in
    record {
      count = c.wake_rows.ensures.count ∙ c.loop-slot.invariant.count;
      woken = All-more (λ (slot : ℕ). AreAwake new' but (list_of index slot)) slots i 0 c.loop-slot-test.true
          (All-weaker (λ (slot : ℕ). AreAwake old but (list_of index slot)) (λ (slot : ℕ). AreAwake new' but (list_of index slot)) (λ slot h. AreAwake-kept old new' but (list_of index slot) c.wake_rows.ensures.kept h) (take i slots) c.loop-slot.invariant.woken)
          (subst (AreAwake new' but) c.rows_of.ensures c.in_ok-wake_rows.ensures.woken);
    }

pub returns-clause-woken : goal.returns-clause-woken
returns-clause-woken c =
    subst (All (λ (slot : ℕ). AreAwake c.loop-slot.queue.waiting.items c.args.but (list_of c.args.index.now slot))) (take_all c.loop-slot.slot-index c.args.slots.now (omega (arith, c.loop-slot-test.false))) c.loop-slot.invariant.woken
