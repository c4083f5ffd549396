-- A log is begun, and takes the items of the proof of a search.
use Rattle.std.proofs.Common.{◌∙◌, inr, subst, List, ℕ, IfSome, arith}
use Rattle.std.specs.Prelude.{string_bytes}
use Rattle.branch_tree.proofs.Stopping.{at_err}
use Rattle.proof_log.specs.Writer.{writing}
use Rattle.plan_told.specs.Proofs.{bytes_in}
use Rattle.logged_search.specs.Logging.{IsBegun}
use Rattle.logged_search.proofs.BegunLog.{begun-broken, begun-clear}
use Rattle.logged_search.proofs.LogsLeft.{handed-keeps, writes-cleared, writes-handed, writes-may_clear, writes-then}
use Rattle.logged_search.proofs.logging.log_open.Goals as goal

pub returns-in_err-writer-clause-err : goal.returns-in_err-writer-clause-err
returns-in_err-writer-clause-err g c =
    let sought = c.args.sought.now in
    at_err _ _ (begun-clear sought.rules.most sought.rows.now sought.rules.floors c.args.head.now c.args.name.now (g.F.Shelf.files c.args.files.now) (g.F.Shelf.files c.begin_with.new.files) (let splits = c.requires.can.searchable.program.few_splits in omega (arith, splits)) c.in_err-writer.ensures.err)

pub returns-in_err-writer-clause-frame : goal.returns-in_err-writer-clause-frame
returns-in_err-writer-clause-frame g c =
    let is = c.in_err-writer.ensures in
    writes-may_clear g.F.Shelf c.args.name.now c.args.files.now c.begin_with.new.files is.readable is.writable is.no_read is.later is.err

pub returns-in-Ok-clause-logged : goal.returns-in-Ok-clause-logged
returns-in-Ok-clause-logged g c =
    let found = c.in-Ok.ensures.ok.searched in
    record {
      tree = found.tree;
      is = found.search;
      writable = found.search.writable;
      named = found.handed.keeps.name ∙ c.in_ok-writer.ensures.name;
      first = writing g.F.Shelf.files g.F.Shelf.read_faults g.F.Shelf.may_read g.F.Shelf.may_write c.in_ok-writer.writer c.begin_with.new.files;
      header = c.in_ok-writer.ensures.whole;
      took = found.handed;
    }

pub returns-in-Ok-clause-frame : goal.returns-in-Ok-clause-frame
returns-in-Ok-clause-frame g c =
    let is = c.in_ok-writer.ensures in
    writes-then g.F.Shelf c.args.name.now (string_bytes c.in_ok-writer.writer.name) c.args.files.now c.begin_with.new.files c.put_search.new.out is.name
    (writes-cleared g.F.Shelf c.args.name.now c.args.files.now c.begin_with.new.files is.readable is.writable is.no_read is.later is.ok)
    (writes-handed g.F.Shelf c.in_ok-writer.writer c.put_search.new.taker c.begin_with.new.files c.put_search.new.out c.in-Ok.ensures.ok.searched.handed.keeps c.put_search.ensures.faults.later)

pub returns-in-Err-clause-err : goal.returns-in-Err-clause-err
returns-in-Err-clause-err g c =
    let sought = c.args.sought.now in
    let begun = begun-broken g.F.Shelf.files g.F.Shelf.read_faults g.F.Shelf.may_read g.F.Shelf.may_write sought.rules.most sought.rows.now sought.rules.floors c.args.head.now c.in_ok-writer.writer c.put_search.new.taker c.begin_with.new.files c.put_search.new.out c.in_ok-writer.ensures.whole c.in-Err.ensures.err in
    inr (subst (λ (name : List ℕ). IfSome (bytes_in name (g.F.Shelf.files c.put_search.new.out)) (IsBegun sought.rules.most sought.rows.now sought.rules.floors c.args.head.now)) c.in_ok-writer.ensures.name begun)

pub returns-in-Err-clause-frame : goal.returns-in-Err-clause-frame
returns-in-Err-clause-frame g c =
    let is = c.in_ok-writer.ensures in
    writes-then g.F.Shelf c.args.name.now (string_bytes c.in_ok-writer.writer.name) c.args.files.now c.begin_with.new.files c.put_search.new.out is.name
    (writes-cleared g.F.Shelf c.args.name.now c.args.files.now c.begin_with.new.files is.readable is.writable is.no_read is.later is.ok)
    (writes-handed g.F.Shelf c.in_ok-writer.writer c.put_search.new.taker c.begin_with.new.files c.put_search.new.out (handed-keeps _ _ _ c.in-Err.ensures.err.handed) c.put_search.ensures.faults.later)
