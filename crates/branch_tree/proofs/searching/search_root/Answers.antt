-- What the search of the root comes to is told by what was handed.
use Rattle.std.proofs.Common.{List, subst, rules}
use Rattle.row_kit.specs.declared.domain.Domain.{Domain}
use Rattle.branch_tree.specs.laws.Grounds.{seen}
use Rattle.branch_tree.specs.laws.Stops.{BoxStopped}
use Rattle.branch_tree.proofs.Stopping.{at_err}
use Rattle.branch_tree.proofs.Whole.{root-before, root-begun, root-exact, root-full, root-searched, root-stands, root-stopped, root-taken}
use Rattle.branch_tree.proofs.searching.search_root.Goals as goal

pub returns-in_err-new-clause-err : goal.returns-in_err-new-clause-err
returns-in_err-new-clause-err g c =
    at_err _ _ (root-before g.T.NodeTaker.took g.T.NodeTaker.broke c.args.sought.now.rules.most c.args.sought.now.rows.now c.args.sought.now.rules.floors c.args.taker.now c.args.out.now c.requires.can.searchable.program (g.met.T.NodeTaker.took_none c.args.taker.now c.args.out.now))

pub returns-in_err-reached-clause-err : goal.returns-in_err-reached-clause-err
returns-in_err-reached-clause-err g c =
    at_err _ _ (root-before g.T.NodeTaker.took g.T.NodeTaker.broke c.args.sought.now.rules.most c.args.sought.now.rows.now c.args.sought.now.rules.floors c.args.taker.now c.args.out.now c.requires.can.searchable.program (g.met.T.NodeTaker.took_none c.args.taker.now c.args.out.now))

pub returns-in_err-area-clause-err : goal.returns-in_err-area-clause-err
returns-in_err-area-clause-err g c =
    at_err _ _ (root-before g.T.NodeTaker.took g.T.NodeTaker.broke c.args.sought.now.rules.most c.args.sought.now.rows.now c.args.sought.now.rules.floors c.args.taker.now c.args.out.now c.requires.can.searchable.program (g.met.T.NodeTaker.took_none c.args.taker.now c.args.out.now))

pub search_box-requires-clause-stands : goal.search_box-requires-clause-stands
search_box-requires-clause-stands g c =
    root-stands _ c.args.sought.now.start.now c.in_ok-area.area c.in_ok-reached.reached
    (record { searchable = c.requires.can.searchable.program; index = c.in_ok-new.ensures.rows; lists = c.in_ok-new.ensures.slots }) c.requires.can.searchable.images c.in_ok-area.ensures.root c.in_ok-reached.ensures

pub returns-in_err-cap-clause-err : goal.returns-in_err-cap-clause-err
returns-in_err-cap-clause-err g c =
    let sought = c.args.sought.now in
    let stopped = subst (λ (ms : List (List Domain)). BoxStopped g.T.NodeTaker.took g.T.NodeTaker.broke sought.rows.now sought.rules.floors (seen ms) c.args.taker.now c.args.out.now c.search_box.new.taker c.search_box.new.out) c.in_ok-area.ensures.root c.in_err-cap.ensures.err in
    at_err _ _ (root-stopped g.T.NodeTaker.took g.T.NodeTaker.broke sought.rules.most sought.rows.now sought.rules.floors c.args.taker.now c.args.out.now c.search_box.new.taker c.search_box.new.out c.requires.can.searchable.program (g.met.T.NodeTaker.took_none c.args.taker.now c.args.out.now) stopped)

pub returns : goal.returns
returns g c =
    let sought = c.args.sought.now in
    let root = root-searched g.T.NodeTaker.took sought.rules.most sought.rows.now sought.rules.floors sought.start.now sought.rules.given sought.budget c.args.may_leave c.in_ok-cap.cap c.in_ok-reached.reached c.search_box.new.reached c.exceeds-left_open.result
    c.args.taker.now c.args.out.now c.search_box.new.taker c.search_box.new.out c.in_ok-area.area c.worth_of.result
    c.requires.can.searchable c.in_ok-area.ensures.root c.in_ok-cap.ensures.handed c.in_ok-reached.ensures c.in_ok-cap.ensures.own c.in_ok-cap.ensures.left.within c.worth_of.ensures c.exceeds-left_open.ensures in
    record {
      ok = record {
        ready = c.in_ok-cap.ensures.left.ready;
        searched = root-taken _ _ _ _ _ _ _ _ _ _ _ _ _ _ _ _ root (g.met.T.NodeTaker.took_none c.args.taker.now c.args.out.now);
        begun = root-begun _ _ _ _ _ _ _ _ _ _ _ _ _ _ _ _ root;
      };
      exact = λ never. root-exact _ _ _ _ _ _ _ _ _ _ _ _ _ _ _ _ root (root-full _ _ _ _ _ _ _ _ _ _ _ _ _ _ _ _ root never);
      full = λ spent. root-exact _ _ _ _ _ _ _ _ _ _ _ _ _ _ _ _ root (λ over. spent);
      err = search rules;
      faults = record { later = search rules; failed = search rules };
    }
