-- A box is its first items, its found point and its end; an end that is a split has both its parts.
use Rattle.std.proofs.Common.{◌≡◌, Bool, length, ◌+◌, ◌≤◌, List, [], ◌∷◌, ◌++◌, map, Some, None, option_to_list, refl, sym, ap, ◌∙◌, subst, arith, rules, true, false}
use Rattle.std.specs.Prelude.{IfSome}
use Rattle.std.proofs.lemmas.Result.{IfOk-weaker, on_err_weaker, on_ok_weaker}
use Rattle.row_kit.specs.declared.domain.Domain.{Domain}
use Rattle.row_kit.specs.declared.found.Found.{Found}
use Rattle.proof_tree.specs.Cap.{floor_cap, greater}
use Rattle.row_relax.specs.Steps.{row_steps}
use Rattle.row_relax.specs.View.{domains_of, points_in, view_of}
use Rattle.row_relax.proofs.Marks.{domains-views, fits_slots}
use Rattle.range_prop.specs.Cuts.{HaveRoom}
use Rattle.row_relax.specs.Choices.{steps_of}
use Rattle.branch_tree.specs.Searched.{IsBest, IsFitItem}
use Rattle.branch_tree.specs.laws.Ends.{ItemEnds, view_splits}
use Rattle.branch_tree.specs.laws.Grounds.{GoesOn, IsSplitAt, StandsIn, program_of, seen, slot_alone, rows_of}
use Rattle.branch_tree.specs.laws.Handed.{Grows, PartsHanded, TailHanded}
use Rattle.branch_tree.proofs.Best.{IsBest-itself}
use Rattle.branch_tree.proofs.Caps.{total-fit}
use Rattle.branch_tree.proofs.Depths.{cuts_leave, splits-left, splits-right}
use Rattle.branch_tree.proofs.Forgotten.{IsLeftTo, left_to, parted_there, room_left}
use Rattle.branch_tree.proofs.Handing.{both_ok, box_handed, open_handed, parts_handed, split_handed, tail_dual, tail_empty, tail_point, tail_split}
use Rattle.branch_tree.proofs.Standing.{back_at, kept_length, left_is, left_moved, left_stands, own_later, part_each_open, parts_fewer, parts_moved, right_is, right_stands, right_there, stands_after, stands_on}
use Rattle.branch_tree.proofs.Stopping.{at_err, box_before, box_in_head, box_in_look, box_in_tail, open_stopped, parts_in_first, parts_in_second, parts_of_rest, tail_at_item, tail_in_parts}
use Rattle.branch_tree.proofs.Trees.{tree-depth}
use Rattle.branch_tree.proofs.Verdicts.{ends-only, ends-room, ends-same, pending-fit}
use Rattle.branch_tree.proofs.boxes.+search.Goals as goal
use Rattle.branch_tree.proofs.boxes.+search.Goals.{search_part-then-reached-ground-via-then-reached-ground, search_part-then-reached-ground-via-else-reached-ground+then-is_left}

may_not : (b : Bool) → b ≡ false → b ≡ true → ⊥
may_not b is_false is_true = cc

pub search_box-returns-in_err-open_box-clause-err : goal.search_box-returns-in_err-open_box-clause-err
search_box-returns-in_err-open_box-clause-err g t c = at_err _ _ (box_in_head g.T.NodeTaker.took g.T.NodeTaker.broke (rows_of c.args.ground.now) c.args.ground.now.floors (seen c.args.area.now) _ _ _ _ c.in_err-open_box.ensures.err)

pub search_box-look-requires-clause-stands : goal.search_box-look-requires-clause-stands
search_box-look-requires-clause-stands g t c =
    let head = c.in_ok-open_box.ensures.handed in
    stands_after c.args.ground.now (seen c.args.area.now) (seen c.open_box.new.area) c.args.reached.now _ c.requires.stands
    (cuts_leave (rows_of c.args.ground.now) head.cuts (seen c.args.area.now) (seen c.open_box.new.area) c.requires.stands.fits head.moved) refl c.take.ensures.after refl refl

pub search_box-returns-in_err-item-clause-err : goal.search_box-returns-in_err-item-clause-err
search_box-returns-in_err-item-clause-err g t c =
    let head = c.in_ok-open_box.ensures.handed in
    at_err _ _ (box_in_look g.T.NodeTaker.took g.T.NodeTaker.broke (rows_of c.args.ground.now) c.args.ground.now.floors (seen c.args.area.now) head.cuts _ _ _ _ _ _ head.fit head.handed c.in_err-item.ensures.err)

pub search_box-search_end-requires : goal.search_box-search_end-requires
search_box-search_end-requires g t c =
    let rows = rows_of c.args.ground.now in
    let head = c.in_ok-open_box.ensures.handed in
    let look = c.in_ok-item.ensures.handed in
    let old = c.args.reached.now.best in
    let leave = cuts_leave rows head.cuts (seen c.args.area.now) (seen c.open_box.new.area) c.requires.stands.fits head.moved in
    let fewer : points_in (seen c.look.new.area) ≤ points_in (seen c.args.area.now) = subst (λ (ms : List (List Domain)). points_in (seen ms) ≤ points_in (seen c.args.area.now)) (sym c.look.ensures.same) leave.points in
    let there : StandsIn c.args.ground.now (seen c.open_box.new.area) c.look.new.reached =
    stands_on c.args.ground.now (seen c.args.area.now) (seen c.open_box.new.area) c.args.reached.now c.look.new.reached c.requires.stands leave.fits leave.splits c.look.ensures.places (c.look.ensures.changed ∙ c.take.ensures.after) c.in_ok-item.ensures.none c.look.ensures.depth in
    let back : c.open_box.new.area ≡ c.look.new.area = sym c.look.ensures.same in
    let stands : StandsIn c.args.ground.now (seen c.look.new.area) c.look.new.reached = subst (λ (ms : List (List Domain)). StandsIn c.args.ground.now (seen ms) c.look.new.reached) back there in
    let can : GoesOn (g.T.NodeTaker.ready c.look.new.taker c.look.new.out) c.args.ground.now (seen c.look.new.area) c.look.new.reached =
    record { ready = c.in_ok-item.ensures.ready; stands = stands; within = omega (arith, c.look.ensures.spent, c.requires.room); none = c.in_ok-item.ensures.none } in
    let room : HaveRoom rows.program.rows (domains_of (seen c.look.new.area)) = subst (λ (ms : List (List Domain)). HaveRoom rows.program.rows (domains_of (seen ms))) back (subst (HaveRoom rows.program.rows) (sym (domains-views c.open_box.new.area)) c.in_ok-open_box.ensures.room) in
    let here = IsBest-itself old in
    let ends : (fs : List Found) → IsBest c.look.new.reached.best fs → ItemEnds rows c.args.ground.now.given (seen c.look.new.area) fs c.in_ok-item.item =
    λ fs best. subst (λ (ms : List (List Domain)). ItemEnds rows c.args.ground.now.given (seen ms) fs c.in_ok-item.item) back
    (ends-same rows c.args.ground.now.given (seen c.open_box.new.area) c.in_ok-item.item c.look.new.reached.best (option_to_list old ++ option_to_list look.found) fs (look.best (option_to_list old) here) best (look.ends (option_to_list old) here)) in
    let fit : IsFitItem rows c.args.ground.now.floors c.in_ok-item.item = look.fit in
    search rules

pub search_box-returns-in_err-cap-clause-err : goal.search_box-returns-in_err-cap-clause-err
search_box-returns-in_err-cap-clause-err g t c =
    let head = c.in_ok-open_box.ensures.handed in
    let look = c.in_ok-item.ensures.handed in
    let leave = cuts_leave (rows_of c.args.ground.now) head.cuts (seen c.args.area.now) (seen c.open_box.new.area) c.requires.stands.fits head.moved in
    let fewer = subst (λ (ms : List (List Domain)). view_splits (seen ms) ≤ view_splits (seen c.args.area.now)) (sym c.look.ensures.same) leave.splits in
    at_err _ _ (box_in_tail g.T.NodeTaker.took g.T.NodeTaker.broke (rows_of c.args.ground.now) c.args.ground.now.floors (seen c.args.area.now) head.cuts look.found _ _ _ _ _ _ _ _ (seen c.look.new.area) fewer head.fit look.group head.handed look.handed c.in_err-cap.ensures.err)

pub search_box-returns-clause-own : goal.search_box-returns-clause-own
search_box-returns-clause-own g t c =
    let tail = c.in_ok-cap.ensures.handed in
    own_later c.args.reached.now.own c.look.new.reached.best c.search_end.new.reached.best _ c.in_ok-item.ensures.own (tail.best (option_to_list c.look.new.reached.best) (IsBest-itself c.look.new.reached.best))

pub search_box-back-requires-clause-within : goal.search_box-back-requires-clause-within
search_box-back-requires-clause-within g t c =
    omega (arith, c.mark-start.ensures, kept_length (map view_of c.args.area.now) (map view_of c.open_box.new.area) c.in_ok-open_box.ensures.keeps, ap length (c.in_ok-cap.ensures.left.as_before ∙ ap (map view_of) c.look.ensures.same))

pub search_box-returns-clause-left : goal.search_box-returns-clause-left
search_box-returns-clause-left g t c = record {
  ready = c.in_ok-cap.ensures.left.ready;
  as_before = back_at (map view_of c.args.area.now) (map view_of c.open_box.new.area) (map view_of c.search_end.new.area) (map view_of c.back.new.area) c.mark-start.result c.mark-start.ensures c.in_ok-open_box.ensures.keeps (c.in_ok-cap.ensures.left.as_before ∙ ap (map view_of) c.look.ensures.same) c.back.ensures.views;
  within = c.in_ok-cap.ensures.left.within;
  none = c.in_ok-cap.ensures.left.none;
}

pub search_box-returns-clause-handed : goal.search_box-returns-clause-handed
search_box-returns-clause-handed g t c =
    let tail = subst (λ (ms : List (List Domain)). TailHanded g.T.NodeTaker.took (rows_of c.args.ground.now) c.args.ground.now.floors c.args.ground.now.given c.args.ground.now.budget c.args.ground.now.may_leave (seen ms) c.in_ok-cap.cap
    c.look.new.reached c.look.new.taker c.look.new.out c.search_end.new.reached c.search_end.new.taker c.search_end.new.out) c.look.ensures.same c.in_ok-cap.ensures.handed in
    box_handed g.T.NodeTaker.took (rows_of c.args.ground.now) c.args.ground.now.floors c.args.ground.now.given c.args.ground.now.budget c.args.ground.now.may_leave (seen c.args.area.now) (seen c.open_box.new.area) c.in_ok-cap.cap c.in_ok-item.item
    c.args.reached.now _ c.look.new.reached c.search_end.new.reached _ _ _ _ _ _ _ _ c.in_ok-open_box.ensures.fits refl c.look.ensures.spent c.in_ok-open_box.ensures.handed c.in_ok-item.ensures.handed tail

pub search_end-returns-in_err-put-clause-err : goal.search_end-returns-in_err-put-clause-err
search_end-returns-in_err-put-clause-err g t c =
    let rows = rows_of c.args.ground.now in
    let fs = option_to_list c.args.reached.now.best in
    let ends = c.requires.ends fs (IsBest-itself c.args.reached.now.best) in
    at_err _ _ (tail_at_item g.T.NodeTaker.took g.T.NodeTaker.broke rows c.args.ground.now.floors c.args.ground.now.given (seen c.args.area.now) c.args.item fs _ _ _ _ ends c.requires.fit (ends-room rows c.args.ground.now.given (seen c.args.area.now) fs c.args.item c.requires.can.stands.fits ends) c.in_err-put.ensures.broke)

pub search_end-returns-in-Empty-clause-handed : goal.search_end-returns-in-Empty-clause-handed
search_end-returns-in-Empty-clause-handed g t c =
    let rows = rows_of c.args.ground.now in
    let ends = subst (λ item. (fs : List Found) → IsBest c.args.reached.now.best fs → ItemEnds rows c.args.ground.now.given (seen c.args.area.now) fs item) c.in-Empty.is c.requires.ends in
    let taken = subst (λ item. Grows g.T.NodeTaker.took g.T.NodeTaker.took c.args.taker.now c.args.out.now (item ∷ []) c.put.new.self c.put.new.out) c.in-Empty.is c.in_ok-put.ensures.took in
    tail_empty g.T.NodeTaker.took rows c.args.ground.now.floors c.args.ground.now.given c.args.ground.now.budget c.args.ground.now.may_leave (seen c.args.area.now) c.args.reached.now _ _ _ _ ends taken

pub search_end-returns-in-Dual-clause-handed : goal.search_end-returns-in-Dual-clause-handed
search_end-returns-in-Dual-clause-handed g t c =
    let rows = rows_of c.args.ground.now in
    let ends = subst (λ item. (fs : List Found) → IsBest c.args.reached.now.best fs → ItemEnds rows c.args.ground.now.given (seen c.args.area.now) fs item) c.in-Dual.is c.requires.ends in
    let fit = subst (IsFitItem rows c.args.ground.now.floors) c.in-Dual.is c.requires.fit in
    let taken = subst (λ item. Grows g.T.NodeTaker.took g.T.NodeTaker.took c.args.taker.now c.args.out.now (item ∷ []) c.put.new.self c.put.new.out) c.in-Dual.is c.in_ok-put.ensures.took in
    tail_dual g.T.NodeTaker.took rows c.args.ground.now.floors c.args.ground.now.given c.args.ground.now.budget c.args.ground.now.may_leave (seen c.args.area.now) c.in-Dual.cert c.cap.result c.args.reached.now _ _ _ _ ends c.cap.ensures fit taken

pub search_end-returns-in-Point-clause-handed : goal.search_end-returns-in-Point-clause-handed
search_end-returns-in-Point-clause-handed g t c =
    let rows = rows_of c.args.ground.now in
    let ends = subst (λ item. (fs : List Found) → IsBest c.args.reached.now.best fs → ItemEnds rows c.args.ground.now.given (seen c.args.area.now) fs item) c.in-Point.is c.requires.ends in
    let taken = subst (λ item. Grows g.T.NodeTaker.took g.T.NodeTaker.took c.args.taker.now c.args.out.now (item ∷ []) c.put.new.self c.put.new.out) c.in-Point.is c.in_ok-put.ensures.took in
    tail_point g.T.NodeTaker.took rows c.args.ground.now.floors c.args.ground.now.given c.args.ground.now.budget c.args.ground.now.may_leave (seen c.args.area.now) c.settle.result c.args.reached.now _ _ _ _ ends c.settle.ensures taken

pub search_end-search_split-requires : goal.search_end-search_split-requires
search_end-search_split-requires g t c =
    let rows = rows_of c.args.ground.now in
    let view = seen c.args.area.now in
    let ends = subst (λ item. ItemEnds rows c.args.ground.now.given view (option_to_list c.args.reached.now.best) item) c.in-Split.is (c.requires.ends (option_to_list c.args.reached.now.best) (IsBest-itself c.args.reached.now.best)) in
    let split : IsSplitAt rows.program c.args.ground.now.given ((steps_of rows).trim view c.in-Split.pick c.in-Split.cert) c.in-Split.pick c.in-Split.cert = record {
      fit = total-fit rows.program (domains_of view) c.in-Split.cert ends.polished.total;
      scale = ends.polished.scale;
      parted = parted_there rows.program view c.in-Split.pick c.in-Split.cert ends;
    } in
    let can : GoesOn (g.T.NodeTaker.ready c.put.new.self c.put.new.out) c.args.ground.now view c.args.reached.now =
    record { ready = c.in_ok-put.ensures.ready; stands = c.requires.can.stands; within = c.requires.can.within; none = c.requires.can.none } in
    search rules

pub search_end-returns-in-Split-clause-handed : goal.search_end-returns-in-Split-clause-handed
search_end-returns-in-Split-clause-handed g t c =
    let rows = rows_of c.args.ground.now in
    let ends = subst (λ item. (fs : List Found) → IsBest c.args.reached.now.best fs → ItemEnds rows c.args.ground.now.given (seen c.args.area.now) fs item) c.in-Split.is c.requires.ends in
    let fit = subst (IsFitItem rows c.args.ground.now.floors) c.in-Split.is c.requires.fit in
    let taken = subst (λ item. Grows g.T.NodeTaker.took g.T.NodeTaker.took c.args.taker.now c.args.out.now (item ∷ []) c.put.new.self c.put.new.out) c.in-Split.is c.in_ok-put.ensures.took in
    IfOk-weaker c.search_split.result _ _
    (λ cap parts. tail_split g.T.NodeTaker.took rows c.args.ground.now.floors c.args.ground.now.given c.args.ground.now.budget c.args.ground.now.may_leave (seen c.args.area.now) c.in-Split.pick c.in-Split.cert cap c.args.reached.now c.search_split.new.reached _ _ _ _ _ _ ends fit taken parts)
    c.search_split.ensures.handed

pub search_end-returns-in-Split-clause-err : goal.search_end-returns-in-Split-clause-err
search_end-returns-in-Split-clause-err g t c =
    let rows = rows_of c.args.ground.now in
    let fit = subst (IsFitItem rows c.args.ground.now.floors) c.in-Split.is c.requires.fit in
    let taken = subst (λ item. Grows g.T.NodeTaker.took g.T.NodeTaker.took c.args.taker.now c.args.out.now (item ∷ []) c.put.new.self c.put.new.out) c.in-Split.is c.in_ok-put.ensures.took in
    on_err_weaker c.search_split.result
    (λ stopped. tail_in_parts g.T.NodeTaker.took g.T.NodeTaker.broke rows c.args.ground.now.floors (seen c.args.area.now) c.in-Split.pick c.in-Split.cert _ _ _ _ _ _ fit taken stopped)
    c.search_split.ensures.err

pub search_end-unreachable-requires : goal.search_end-unreachable-requires
search_end-unreachable-requires g t c =
    ends-only (rows_of c.args.ground.now) c.args.ground.now.given (seen c.args.area.now) (option_to_list c.args.reached.now.best) c.args.item (c.requires.ends (option_to_list c.args.reached.now.best) (IsBest-itself c.args.reached.now.best))
    c.in_default.not-Empty c.in_default.not-Dual c.in_default.not-Point c.in_default.not-Split

pub search_part-is_left-requires-clause-slots : goal.search_part-is_left-requires-clause-slots
search_part-is_left-requires-clause-slots g t c = fits_slots (program_of c.args.ground.now) c.args.area.now c.requires.can.stands.fits

pub search_part-is_left-requires-clause-each_open : goal.search_part-is_left-requires-clause-each_open
search_part-is_left-requires-clause-each_open g t c = part_each_open (program_of c.args.ground.now) c.args.area.now c.requires.part.some

pub search_part-returns-then-reached-ground-clause-handed : goal.search_part-returns-then-reached-ground-clause-handed
search_part-returns-then-reached-ground-clause-handed g t c =
    let rows = rows_of c.args.ground.now in
    let view = seen c.args.area.now in
    let full : c.args.ground.now.may_leave ≡ false → c.args.reached.now.spent ≡ c.args.ground.now.budget =
    λ never. elim c.then-reached-ground.branch [
      | search_part-then-reached-ground-via-then-reached-ground w ↦ w.if-reached-ground.true
      | search_part-then-reached-ground-via-else-reached-ground+then-is_left w ↦ absurd (may_not c.args.ground.now.may_leave never (w.is_left.ensures w.if-is_left.true))
    ] in
    both_ok c.leave_open.result _ _ c.leave_open.ensures.cap c.leave_open.ensures.handed
    (λ cap is taken. open_handed g.T.NodeTaker.took rows c.args.ground.now.floors c.args.ground.now.given c.args.ground.now.budget c.args.ground.now.may_leave view c.args.cert.now cap c.args.reached.now _ _ _ _ c.requires.can.stands.fits c.requires.part.some c.requires.part.capped is full (pending-fit rows c.args.ground.now.floors view c.args.cert.now c.requires.part.capped) taken)

pub search_part-returns-then-reached-ground-clause-left : goal.search_part-returns-then-reached-ground-clause-left
search_part-returns-then-reached-ground-clause-left g t c =
    on_ok_weaker c.leave_open.result (λ is_ready. record { ready = is_ready; as_before = refl; within = c.requires.can.within; none = c.requires.can.none }) c.leave_open.ensures.ready

pub search_part-returns-then-reached-ground-clause-err : goal.search_part-returns-then-reached-ground-clause-err
search_part-returns-then-reached-ground-clause-err g t c =
    let rows = rows_of c.args.ground.now in
    let view = seen c.args.area.now in
    on_err_weaker c.leave_open.result
    (λ stopped. open_stopped g.T.NodeTaker.took g.T.NodeTaker.broke rows c.args.ground.now.floors view c.args.cert.now _ _ _ _ (pending-fit rows c.args.ground.now.floors view c.args.cert.now c.requires.part.capped) stopped)
    c.leave_open.ensures.err

pub search_part-returns-in_err-copied_cert-clause-err : goal.search_part-returns-in_err-copied_cert-clause-err
search_part-returns-in_err-copied_cert-clause-err g t c = at_err _ _ (box_before g.T.NodeTaker.took g.T.NodeTaker.broke (rows_of c.args.ground.now) c.args.ground.now.floors (seen c.args.area.now) c.args.taker.now c.args.out.now)

pub search_split-search_parts-requires : goal.search_split-search_parts-requires
search_split-search_parts-requires g t c =
    let program = program_of c.args.ground.now in
    let view = seen c.args.area.now in
    let pick = c.args.split.pick.now in
    let rest : (row_steps program).trim view pick c.args.split.cert.now ≡ seen c.trim-floor.new.area = sym c.trim-floor.ensures.trimmed in
    let less : IsLeftTo program view (seen c.trim-floor.new.area) = subst (IsLeftTo program view) rest (left_to program view pick c.args.split.cert.now c.requires.can.stands.fits) in
    let fewer : points_in (seen c.trim-floor.new.area) ≤ points_in view = less.points in
    let stands = stands_on c.args.ground.now view (seen c.trim-floor.new.area) c.args.reached.now (record c.args.reached.now { changed = None }) c.requires.can.stands less.fits less.splits refl refl c.requires.can.none refl in
    let can : GoesOn (g.T.NodeTaker.ready c.args.taker.now c.args.out.now) c.args.ground.now (seen c.trim-floor.new.area) (record c.args.reached.now { changed = None }) =
    record { ready = c.requires.can.ready; stands = stands; within = c.requires.can.within; none = c.requires.can.none } in
    let room = subst (λ v. IfSome (slot_alone pick.floor pick.slot) (λ slot. HaveRoom program.rows (domains_of v))) rest (room_left program view pick c.args.split.cert.now c.requires.room) in
    let split = subst (λ v. IsSplitAt program c.args.ground.now.given v pick c.args.split.cert.now) rest c.requires.split in
    search rules

pub search_split-returns-in_err-cap-clause-err : goal.search_split-returns-in_err-cap-clause-err
search_split-returns-in_err-cap-clause-err g t c =
    let rows = rows_of c.args.ground.now in
    let view = seen c.args.area.now in
    let less = subst (IsLeftTo rows.program view) (sym c.trim-floor.ensures.trimmed) (left_to rows.program view c.args.split.pick.now c.args.split.cert.now c.requires.can.stands.fits) in
    at_err _ _ (parts_of_rest g.T.NodeTaker.took g.T.NodeTaker.broke rows c.args.ground.now.floors view (seen c.trim-floor.new.area) _ _ _ _ less.splits c.in_err-cap.ensures.err)

pub search_split-back-requires-clause-within : goal.search_split-back-requires-clause-within
search_split-back-requires-clause-within g t c =
    omega (arith, c.mark-start.ensures, kept_length (map view_of c.args.area.now) (map view_of c.trim-floor.new.area) c.trim-floor.ensures.keeps, ap length c.in_ok-cap.ensures.left.as_before)

pub search_split-returns-clause-left : goal.search_split-returns-clause-left
search_split-returns-clause-left g t c = record {
  ready = c.in_ok-cap.ensures.left.ready;
  as_before = back_at (map view_of c.args.area.now) (map view_of c.trim-floor.new.area) (map view_of c.search_parts.new.area) (map view_of c.back.new.area) c.mark-start.result c.mark-start.ensures c.trim-floor.ensures.keeps c.in_ok-cap.ensures.left.as_before c.back.ensures.views;
  within = c.in_ok-cap.ensures.left.within;
  none = c.in_ok-cap.ensures.left.none;
}

pub search_split-returns-clause-handed : goal.search_split-returns-clause-handed
search_split-returns-clause-handed g t c =
    let rows = rows_of c.args.ground.now in
    let view = seen c.args.area.now in
    let cap = c.greater_cap.ensures ∙ ap (λ floor. greater floor c.in_ok-cap.cap) (c.floor_cap.ensures ∙ ap floor_cap c.trim-floor.ensures.floor) in
    split_handed g.T.NodeTaker.took rows c.args.ground.now.floors c.args.ground.now.given c.args.ground.now.budget c.args.ground.now.may_leave view (seen c.trim-floor.new.area) c.args.split.pick.now c.args.split.cert.now c.greater_cap.result c.in_ok-cap.cap
    c.args.reached.now (record c.args.reached.now { changed = None }) c.search_parts.new.reached _ _ _ _ c.trim-floor.ensures.trimmed cap refl refl c.in_ok-cap.ensures.handed

pub search_parts-search_part-requires : goal.search_parts-search_part-requires
search_parts-search_part-requires g t c =
    let program = program_of c.args.ground.now in
    let view = seen c.args.area.now in
    let pick = c.args.split.pick.now in
    let parts = c.requires.split.parted in
    let left = left_moved program c.args.area.now c.left.new.area pick c.left.result c.requires.split.parted c.left.ensures.moves in
    let other = right_there program view pick parts in
    let fewer = (parts_fewer program view (seen c.left.new.area) other.0 pick c.requires.can.stands.fits parts left.0 other.1).0 in
    let stands = left_stands c.args.ground.now view (seen c.left.new.area) pick c.args.split.cert.now c.args.reached.now (record c.args.reached.now { depth = c.args.reached.now.depth + 1; changed = c.slot_alone-reached.result }) c.requires.can.stands c.requires.room c.requires.split left.0 refl c.slot_alone-reached.ensures c.requires.can.none refl in
    let can : GoesOn (g.T.NodeTaker.ready c.args.taker.now c.args.out.now) c.args.ground.now (seen c.left.new.area) (record c.args.reached.now { depth = c.args.reached.now.depth + 1; changed = c.slot_alone-reached.result }) =
    record { ready = c.requires.can.ready; stands = stands; within = c.requires.can.within; none = c.requires.can.none } in
    let is_part = left_is program view (seen c.left.new.area) pick c.args.split.cert.now c.requires.split left.0 in
    search rules

pub search_parts-returns-in_err-first-clause-err : goal.search_parts-returns-in_err-first-clause-err
search_parts-returns-in_err-first-clause-err g t c =
    let rows = rows_of c.args.ground.now in
    let view = seen c.args.area.now in
    let pick = c.args.split.pick.now in
    let parts = c.requires.split.parted in
    let left = left_moved rows.program c.args.area.now c.left.new.area pick c.left.result c.requires.split.parted c.left.ensures.moves in
    at_err _ _ (parts_in_first g.T.NodeTaker.took g.T.NodeTaker.broke rows c.args.ground.now.floors view (seen c.left.new.area) _ _ _ _ (splits-left rows.program view (seen c.left.new.area) pick parts left.0) c.in_err-first.ensures.err)

pub search_parts-back-requires-clause-within : goal.search_parts-back-requires-clause-within
search_parts-back-requires-clause-within g t c =
    let program = program_of c.args.ground.now in
    let pick = c.args.split.pick.now in
    let left = left_moved program c.args.area.now c.left.new.area pick c.left.result c.requires.split.parted c.left.ensures.moves in
    omega (arith, c.mark-mark.ensures, kept_length (map view_of c.args.area.now) (map view_of c.left.new.area) left.1, ap length c.in_ok-first.ensures.left.as_before)

pub search_parts-search_part-requires-2 : goal.search_parts-search_part-requires-2
search_parts-search_part-requires-2 g t c =
    let program = program_of c.args.ground.now in
    let view = seen c.args.area.now in
    let pick = c.args.split.pick.now in
    let parts = c.requires.split.parted in
    let both = parts_moved program c.args.area.now c.left.new.area c.search_part.new.area c.back.new.area c.right.new.area pick c.left.result c.right.result c.mark-mark.result c.requires.split.parted c.left.ensures.moves c.mark-mark.ensures c.in_ok-first.ensures.left.as_before c.back.ensures.views c.right.ensures.moves in
    let fewer = (parts_fewer program view (seen c.left.new.area) (seen c.right.new.area) pick c.requires.can.stands.fits parts both.left.0 both.right.0).1 in
    let places : length c.search_part.new.reached.point.items ≡ length c.args.reached.now.point.items = c.search_part.ensures.places in
    let stands = right_stands c.args.ground.now view (seen c.right.new.area) pick c.args.split.cert.now c.args.reached.now (record c.search_part.new.reached { depth = c.args.reached.now.depth + 1; changed = c.slot_alone-reached-2.result }) c.requires.can.stands c.requires.room c.requires.split both.right.0 places c.slot_alone-reached-2.ensures c.in_ok-first.ensures.left.none refl in
    let can : GoesOn (g.T.NodeTaker.ready c.search_part.new.taker c.search_part.new.out) c.args.ground.now (seen c.right.new.area) (record c.search_part.new.reached { depth = c.args.reached.now.depth + 1; changed = c.slot_alone-reached-2.result }) =
    record { ready = c.in_ok-first.ensures.left.ready; stands = stands; within = c.in_ok-first.ensures.left.within; none = c.in_ok-first.ensures.left.none } in
    let is_part = right_is program view (seen c.right.new.area) pick c.args.split.cert.now c.requires.split both.right.0 in
    search rules

pub search_parts-returns-in_err-second-clause-err : goal.search_parts-returns-in_err-second-clause-err
search_parts-returns-in_err-second-clause-err g t c =
    let rows = rows_of c.args.ground.now in
    let view = seen c.args.area.now in
    let pick = c.args.split.pick.now in
    let parts = c.requires.split.parted in
    let both = parts_moved rows.program c.args.area.now c.left.new.area c.search_part.new.area c.back.new.area c.right.new.area pick c.left.result c.right.result c.mark-mark.result c.requires.split.parted c.left.ensures.moves c.mark-mark.ensures c.in_ok-first.ensures.left.as_before c.back.ensures.views c.right.ensures.moves in
    let first = c.in_ok-first.ensures.handed in
    let done = first.done (Some c.args.split.cert.now) (option_to_list c.args.reached.now.best) refl (IsBest-itself c.args.reached.now.best) in
    let deep = tree-depth rows c.args.ground.now.given first.tree (Some c.args.split.cert.now) (option_to_list c.args.reached.now.best) (seen c.left.new.area) c.left.ensures.fits done in
    let less = splits-left rows.program view (seen c.left.new.area) pick parts both.left.0 in
    at_err _ _ (parts_in_second g.T.NodeTaker.took g.T.NodeTaker.broke rows c.args.ground.now.floors view (seen c.right.new.area) first.tree _ _ _ _ _ _ (omega (arith, deep, less)) (splits-right rows.program view (seen c.right.new.area) pick parts both.right.0) first.fit first.handed c.in_err-second.ensures.err)

pub search_parts-back-requires-2-clause-within : goal.search_parts-back-requires-2-clause-within
search_parts-back-requires-2-clause-within g t c =
    let program = program_of c.args.ground.now in
    let pick = c.args.split.pick.now in
    let both = parts_moved program c.args.area.now c.left.new.area c.search_part.new.area c.back.new.area c.right.new.area pick c.left.result c.right.result c.mark-mark.result c.requires.split.parted c.left.ensures.moves c.mark-mark.ensures c.in_ok-first.ensures.left.as_before c.back.ensures.views c.right.ensures.moves in
    omega (arith, c.mark-mark.ensures, kept_length (map view_of c.args.area.now) (map view_of c.right.new.area) both.right.1, ap length c.in_ok-second.ensures.left.as_before)

pub search_parts-returns-clause-left : goal.search_parts-returns-clause-left
search_parts-returns-clause-left g t c =
    let program = program_of c.args.ground.now in
    let pick = c.args.split.pick.now in
    let both = parts_moved program c.args.area.now c.left.new.area c.search_part.new.area c.back.new.area c.right.new.area pick c.left.result c.right.result c.mark-mark.result c.requires.split.parted c.left.ensures.moves c.mark-mark.ensures c.in_ok-first.ensures.left.as_before c.back.ensures.views c.right.ensures.moves in
    record {
      ready = c.in_ok-second.ensures.left.ready;
      as_before = back_at (map view_of c.args.area.now) (map view_of c.right.new.area) (map view_of c.search_part-2.new.area) (map view_of c.back-2.new.area) c.mark-mark.result c.mark-mark.ensures both.right.1 c.in_ok-second.ensures.left.as_before c.back-2.ensures.views;
      within = c.in_ok-second.ensures.left.within;
      none = c.in_ok-second.ensures.left.none;
    }

pub search_parts-returns-clause-handed : goal.search_parts-returns-clause-handed
search_parts-returns-clause-handed g t c =
    let rows = rows_of c.args.ground.now in
    let view = seen c.args.area.now in
    let pick = c.args.split.pick.now in
    let both = parts_moved rows.program c.args.area.now c.left.new.area c.search_part.new.area c.back.new.area c.right.new.area pick c.left.result c.right.result c.mark-mark.result c.requires.split.parted c.left.ensures.moves c.mark-mark.ensures c.in_ok-first.ensures.left.as_before c.back.ensures.views c.right.ensures.moves in
    let all = parts_handed g.T.NodeTaker.took rows c.args.ground.now.floors c.args.ground.now.given c.args.ground.now.budget c.args.ground.now.may_leave view (seen c.left.new.area) (seen c.right.new.area) pick c.args.split.cert.now c.in_ok-first.first c.in_ok-second.second
    c.args.reached.now (record c.args.reached.now { depth = c.args.reached.now.depth + 1; changed = c.slot_alone-reached.result }) c.search_part.new.reached (record c.search_part.new.reached { depth = c.args.reached.now.depth + 1; changed = c.slot_alone-reached-2.result }) c.search_part-2.new.reached _ _ _ _ _ _
    refl refl refl refl c.in_ok-second.ensures.left.within both.left.0 both.right.0 c.in_ok-first.ensures.handed c.in_ok-second.ensures.handed in
    subst (λ cap. PartsHanded g.T.NodeTaker.took rows c.args.ground.now.floors c.args.ground.now.given c.args.ground.now.budget c.args.ground.now.may_leave view pick c.args.split.cert.now cap c.args.reached.now c.args.taker.now c.args.out.now c.search_part-2.new.reached c.search_part-2.new.taker c.search_part-2.new.out) (sym c.greater_cap.ensures) all
