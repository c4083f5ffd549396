-- The first item that is not the same, or one head is a first part of the other.
use Rattle.std.proofs.Common.{◌≡◌, ◌<◌, ◌∙◌, ℕ, List, slice_index_or, length, sym, ap, arith}
use Rattle.std.proofs.lemmas.Bool.{false≢true}
use Rattle.log_parts.specs.Heads.{items_of, lines_on}
use Rattle.log_parts.proofs.HeadsDiffer.{all_same, first_other, lines_long, more_given, more_own, same_more}
use Rattle.log_parts.proofs.fronts.other_line.Goals as goal
use Rattle.log_parts.proofs.fronts.other_line.Goals.{then-all-own_all, else-all-own_all}

pub line_at-requires : goal.line_at-requires
line_at-requires c =
    let long : length c.args.lines.now ≡ length (items_of c.args.own.now) = ap length c.requires ∙ lines_long c.args.own.now in
    elim c.if-all-own_all.branch [
      | then-all-own_all w ↦ omega (arith, long, c.loop-place-test.true, w.few-is, w.if-all-own_all.true, c.count_of-own_all.ensures)
      | else-all-own_all w ↦ omega (arith, long, c.loop-place-test.true, w.few-is, c.count_of-own_all.ensures)
    ]

pub returns-then-not-is_same_at : goal.returns-then-not-is_same_at
returns-then-not-is_same_at c =
    let both : (c.loop-place.place < length (items_of c.args.given.now)) × (c.loop-place.place < length (items_of c.args.own.now)) =
    elim c.if-all-own_all.branch [
      | then-all-own_all w ↦ (omega (arith, c.loop-place-test.true, w.few-is, c.count_of-all.ensures), omega (arith, c.loop-place-test.true, w.few-is, w.if-all-own_all.true, c.count_of-own_all.ensures))
      | else-all-own_all w ↦ (omega (arith, c.loop-place-test.true, w.few-is, w.if-all-own_all.false, c.count_of-all.ensures), omega (arith, c.loop-place-test.true, w.few-is, c.count_of-own_all.ensures))
    ] in
    first_other (items_of c.args.given.now) (items_of c.args.own.now) (lines_on c.args.own.now) c.loop-place.place _ both.0 both.1 c.loop-place.invariant
    (λ is. false≢true (sym c.if-not-is_same_at.true ∙ c.is_same_at.ensures.1 is)) (c.line_at.ensures ∙ ap (λ (ls : List ℕ). slice_index_or ls c.loop-place.place 0) c.requires)

pub loop-place-preserved : goal.loop-place-preserved
loop-place-preserved c =
    let both : (c.loop-place.place < length (items_of c.args.given.now)) × (c.loop-place.place < length (items_of c.args.own.now)) =
    elim c.if-all-own_all.branch [
      | then-all-own_all w ↦ (omega (arith, c.loop-place-test.true, w.few-is, c.count_of-all.ensures), omega (arith, c.loop-place-test.true, w.few-is, w.if-all-own_all.true, c.count_of-own_all.ensures))
      | else-all-own_all w ↦ (omega (arith, c.loop-place-test.true, w.few-is, w.if-all-own_all.false, c.count_of-all.ensures), omega (arith, c.loop-place-test.true, w.few-is, c.count_of-own_all.ensures))
    ] in
    same_more (items_of c.args.given.now) (items_of c.args.own.now) c.loop-place.place both.0 both.1 c.loop-place.invariant (c.is_same_at.ensures.0 c.if-not-is_same_at.false)

pub returns-then-all-own_all-2 : goal.returns-then-all-own_all-2
returns-then-all-own_all-2 c =
    let same = c.if-all-own_all-2.true in
    let few : (c.loop-place.place ≡ c.count_of-all.result) × (c.loop-place.place ≡ c.count_of-own_all.result) =
    elim c.if-all-own_all.branch [
      | then-all-own_all w ↦ (omega (arith, c.loop-place-test.false, w.few-is, same), omega (arith, c.loop-place-test.false, w.few-is, same))
      | else-all-own_all w ↦ (omega (arith, c.loop-place-test.false, w.few-is, same), omega (arith, c.loop-place-test.false, w.few-is, same))
    ] in
    all_same c.args.given.now c.args.own.now c.loop-place.place (few.0 ∙ c.count_of-all.ensures) (few.1 ∙ c.count_of-own_all.ensures) c.loop-place.invariant

pub returns-else-all-own_all-2 : goal.returns-else-all-own_all-2
returns-else-all-own_all-2 c =
    let apart = c.if-all-own_all-2.false in
    let given = items_of c.args.given.now in
    let own = items_of c.args.own.now in
    let lines = lines_on c.args.own.now in
    elim c.if-all-own_all.branch [
      | then-all-own_all w ↦
          more_own given own lines c.loop-place.place (omega (arith, c.loop-place-test.false, w.few-is, c.count_of-all.ensures)) (omega (arith, w.if-all-own_all.true, c.count_of-all.ensures, c.count_of-own_all.ensures)) c.loop-place.invariant
      | else-all-own_all w ↦
          more_given given own lines c.loop-place.place (omega (arith, c.loop-place-test.false, w.few-is, c.count_of-own_all.ensures)) (omega (arith, w.if-all-own_all.false, apart, c.count_of-all.ensures, c.count_of-own_all.ensures)) c.loop-place.invariant
    ]
