-- The end that is judged ends the box, with the found points up to it.
use Rattle.std.proofs.Common.{◌≡◌, List, ◌++◌, None, option_to_list, sym, ap, ◌∙◌, subst, append-nil}
use Rattle.std.specs.Prelude.{IfSome, ◌≤ℤ◌}
use Rattle.std.specs.Option.{IsSomeAnd, option_map}
use Rattle.row_kit.specs.Area.{present}
use Rattle.row_kit.specs.declared.found.Found.{Found}
use Rattle.row_relax.proofs.Marks.{fits_normal, fits_slots}
use Rattle.branch_tree.specs.Searched.{IsBest}
use Rattle.branch_tree.specs.Compared.{better_of}
use Rattle.branch_tree.specs.laws.Ends.{IsBoxVerdict}
use Rattle.branch_tree.specs.laws.Grounds.{IsOwnBest, program_of, seen, rows_of}
use Rattle.branch_tree.proofs.Best.{IsBest-more, own-best}
use Rattle.branch_tree.proofs.Growing.{Grows-none}
use Rattle.branch_tree.proofs.Stopping.{at_err, look_before, look_in_found, look_after}
use Rattle.branch_tree.proofs.Verdicts.{empty_is, open_of, own_empty, verdict-ends, verdict-fit}
use Rattle.branch_tree.proofs.boxes.look.Goals as goal

pub returns-then-has_empty-clause-handed : goal.returns-then-has_empty-clause-handed
returns-then-has_empty-clause-handed g c = record {
  found = None;
  group = tt;
  best = λ before best. subst (IsBest c.args.reached.now.best) (sym (append-nil before)) best;
  ends = λ before best. empty_is (program_of c.args.ground.now) c.args.area.now (c.has_empty.ensures.bare.0 c.if-has_empty.true);
  fit = tt;
  handed = Grows-none g.T.NodeTaker.took c.args.taker.now c.args.out.now;
}

pub returns-then-has_empty-clause-own : goal.returns-then-has_empty-clause-own
returns-then-has_empty-clause-own g c =
    own_empty (rows_of c.args.ground.now) (seen c.args.area.now) c.args.reached.now.own c.args.reached.now.best c.requires.stands.fits
    (empty_is (program_of c.args.ground.now) c.args.area.now (c.has_empty.ensures.bare.0 c.if-has_empty.true)) c.requires.stands.own

pub advised-requires-clause-slots : goal.advised-requires-clause-slots
advised-requires-clause-slots g c = fits_slots (program_of c.args.ground.now) c.args.area.now c.requires.stands.fits

pub found_at-requires-clause-slots : goal.found_at-requires-clause-slots
found_at-requires-clause-slots g c = fits_slots (program_of c.args.ground.now) c.args.area.now c.requires.stands.fits

pub judge-requires-clause-slots : goal.judge-requires-clause-slots
judge-requires-clause-slots g c = fits_slots (program_of c.args.ground.now) c.args.area.now c.requires.stands.fits

pub returns-in_err-advice-clause-err : goal.returns-in_err-advice-clause-err
returns-in_err-advice-clause-err g c = at_err _ _ (look_before g.T.NodeTaker.took g.T.NodeTaker.broke (rows_of c.args.ground.now) c.args.ground.now.floors c.args.taker.now c.args.out.now)

pub returns-in_err-found-clause-err : goal.returns-in_err-found-clause-err
returns-in_err-found-clause-err g c = at_err _ _ (look_before g.T.NodeTaker.took g.T.NodeTaker.broke (rows_of c.args.ground.now) c.args.ground.now.floors c.args.taker.now c.args.out.now)

pub returns-in_err-put_found-clause-err : goal.returns-in_err-put_found-clause-err
returns-in_err-put_found-clause-err g c = at_err _ _ (look_in_found g.T.NodeTaker.took g.T.NodeTaker.broke (rows_of c.args.ground.now) c.args.ground.now.floors c.in_ok-found.found _ _ _ _ c.in_ok-found.ensures.group c.in_err-put_found.ensures.err)

pub returns-in_err-judge-clause-err : goal.returns-in_err-judge-clause-err
returns-in_err-judge-clause-err g c = at_err _ _ (look_after g.T.NodeTaker.took g.T.NodeTaker.broke (rows_of c.args.ground.now) c.args.ground.now.floors c.in_ok-found.found _ _ _ _ c.in_ok-found.ensures.group c.in_ok-put_found.ensures.handed)

pub returns-clause-handed : goal.returns-clause-handed
returns-clause-handed g c =
    let rows = rows_of c.args.ground.now in
    let marks = c.args.area.now in
    let old = c.args.reached.now.best in
    let found = c.in_ok-found.found in
    let same : c.advised.new.reached.best ≡ old = ap (λ r. r.best) c.advised.ensures.same in
    let new : c.put_found.new.best ≡ better_of old found = c.in_ok-put_found.ensures.best ∙ ap (λ b. better_of b found) same in
    let worth : c.worth_of-best.result ≡ option_map (λ f. f.value) c.put_found.new.best = c.worth_of-best.ensures in
    let verdict = subst (λ best. IsBoxVerdict rows c.args.ground.now.floors c.args.ground.now.given (present marks) best c.in_ok-judge.field-0) worth c.in_ok-judge.ensures.verdict in
    let best = λ (before : List Found) (is : IsBest old before). subst (λ b. IsBest b (before ++ option_to_list found)) (sym new) (IsBest-more old found before is) in
    record {
      found = found;
      group = c.in_ok-found.ensures.group;
      best = best;
      ends = λ before is. verdict-ends rows c.args.ground.now.floors c.args.ground.now.given marks c.in_ok-judge.field-0 found c.put_found.new.best before c.requires.done (open_of (present marks) c.has_empty.result c.if-has_empty.false c.has_empty.ensures.bare.1) c.in_ok-found.ensures.only (best before is) verdict;
      fit = verdict-fit rows c.args.ground.now.floors c.args.ground.now.given (present marks) (option_map (λ f. f.value) c.put_found.new.best) c.in_ok-judge.field-0 (fits_normal rows.program marks c.requires.stands.fits) (fits_slots rows.program marks c.requires.stands.fits) verdict;
      handed = c.in_ok-put_found.ensures.handed;
    }

pub returns-clause-own : goal.returns-clause-own
returns-clause-own g c =
    let own = c.args.reached.now.own in
    let old = c.args.reached.now.best in
    let found = c.in_ok-found.found in
    let same : c.advised.new.reached.best ≡ old = ap (λ r. r.best) c.advised.ensures.same in
    let new : c.put_found.new.best ≡ better_of old found = c.in_ok-put_found.ensures.best ∙ ap (λ b. better_of b found) same in
    let low = subst (λ o. IfSome o (λ f. IsSomeAnd found (λ b. f.value ≤ℤ b.value))) c.take-own.ensures.value c.in_ok-found.ensures.own in
    subst (IsOwnBest own) (sym new) (own-best own found old low)
