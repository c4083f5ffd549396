-- A log is begun with its head and the lines of one empty box.
use Rattle.std.proofs.Common.{ℕ, List, [], ◌∷◌, ◌++◌, ◌∙◌, ap, arith}
use Rattle.log_lines.specs.declared.line.Line.TheVariants as line
use Rattle.log_lines.specs.Line.{line_text}
use Rattle.branch_tree.proofs.Stopping.{at_err}
use Rattle.proof_log.proofs.Writing.{rest_of}
use Rattle.logged_search.proofs.BegunLog.{begun-clear}
use Rattle.logged_search.proofs.EmptyLog.{empty-logged, empty-text}
use Rattle.logged_search.proofs.LogsLeft.{writes-cleared, writes-may_clear}
use Rattle.logged_search.proofs.logging.log_empty.Goals as goal

pub returns-in_err-writer-clause-err : goal.returns-in_err-writer-clause-err
returns-in_err-writer-clause-err g c = λ floors.
    at_err _ _ (begun-clear c.args.most c.args.rows.now floors c.args.head.now c.args.name.now (g.F.Shelf.files c.args.files.now) (g.F.Shelf.files c.begin_with.new.files) (let splits = c.requires.splits in omega (arith, splits)) c.in_err-writer.ensures.err)

pub returns-in_err-writer-clause-frame : goal.returns-in_err-writer-clause-frame
returns-in_err-writer-clause-frame g c =
    let is = c.in_err-writer.ensures in
    writes-may_clear g.F.Shelf c.args.name.now c.args.files.now c.begin_with.new.files is.readable is.writable is.no_read is.later is.err

pub returns-clause-logged : goal.returns-clause-logged
returns-clause-logged g c = λ floors.
    empty-logged c.args.most c.args.rows.now floors c.args.head.now c.args.name.now _ _ (g.F.Shelf.files c.args.files.now) (g.F.Shelf.files c.begin_with.new.files) (rest_of g.F.Shelf.read_faults g.F.Shelf.may_read g.F.Shelf.may_write c.begin_with.new.files)
    c.empty_end-ended.result c.requires.bare c.requires.splits c.in_ok-writer.ensures.name
    (c.in_ok-writer.ensures.header ∙ c.as_slice.ensures.value
    ∙ empty-text c.args.head.now c.put_line.new.into.items c.put_line-2.new.into.items (c.in_ok-put_line.ensures.ok ∙ ap (λ (text : List ℕ). text ++ (line_text line.Node ++ 10 ∷ [])) c.in_ok-text.ensures.items) c.in_ok-put_line-2.ensures.ok)
    c.in_ok-writer.ensures.ok c.empty_end-ended.ensures

pub returns-clause-frame : goal.returns-clause-frame
returns-clause-frame g c =
    let is = c.in_ok-writer.ensures in
    writes-cleared g.F.Shelf c.args.name.now c.args.files.now c.begin_with.new.files is.readable is.writable is.no_read is.later is.ok
