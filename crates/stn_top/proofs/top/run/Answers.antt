use Rattle.std.proofs.Common.{inl, arith, rules}
use Rattle.command_words.specs.Words.{texts, meaning}
use Rattle.stn_top.proofs.AnswerLemmas.{cut_off, none_cut_off, none_failed, said_stopped, says_apart, says_reads_first}
use Rattle.stn_top.proofs.FileLemmas.{kept_all, left_all}
use Rattle.stn_top.proofs.top.run.Goals as goal

pub returns-in-Some-clause-part : goal.returns-in-Some-clause-part
returns-in-Some-clause-part g c = λ more.
    cut_off (texts c.args.words.now) (g.F.Shelf.files c.args.files.now) (g.F.Shelf.files c.answer.new.files) (meaning c.in-Some.command) (g.K.Sink.written c.args.out.now) (g.K.Sink.written c.answer.new.out)
    c.in-Some.ensures (c.answer.ensures.part more)

pub returns-in-None-clause-part : goal.returns-in-None-clause-part
returns-in-None-clause-part g c = λ more.
    none_cut_off (texts c.args.words.now) (g.F.Shelf.files c.args.files.now) c.as_bytes.result.now (g.K.Sink.written c.args.out.now) (g.K.Sink.written c.put.new.out)
    c.in-None.ensures c.as_bytes.ensures.value (c.put.ensures.part more)

pub returns-in-Some-clause-files : goal.returns-in-Some-clause-files
returns-in-Some-clause-files g c =
    kept_all (texts c.args.words.now) (meaning c.in-Some.command) (g.F.Shelf.files c.args.files.now) (g.F.Shelf.files c.answer.new.files)
    c.in-Some.ensures c.answer.ensures.files c.answer.ensures.left

pub returns-in-Some-clause-left : goal.returns-in-Some-clause-left
returns-in-Some-clause-left g c =
    left_all (texts c.args.words.now) (meaning c.in-Some.command) (g.F.Shelf.files c.args.files.now) (g.F.Shelf.files c.answer.new.files)
    c.in-Some.ensures c.answer.ensures.files c.answer.ensures.left

pub answer-requires : goal.answer-requires
answer-requires g c = record {
  may_read = search rules;
  may_write = search rules;
  apart = says_apart (texts c.args.words.now) (meaning c.in-Some.command) c.in-Some.ensures;
}

pub returns-in-Some-clause-unread : goal.returns-in-Some-clause-unread
returns-in-Some-clause-unread g c = λ seven none. c.answer.ensures.unread seven (says_reads_first (texts c.args.words.now) (meaning c.in-Some.command) c.in-Some.ensures none)

pub returns-in-Some-clause-write_fault : goal.returns-in-Some-clause-write_fault
returns-in-Some-clause-write_fault g c = λ eight.
    said_stopped (texts c.args.words.now) (g.F.Shelf.files c.args.files.now) (g.F.Shelf.files c.answer.new.files) (meaning c.in-Some.command) (g.K.Sink.faults c.args.out.now) (g.K.Sink.faults c.answer.new.out)
    (g.F.Shelf.write_faults c.args.files.now) (g.F.Shelf.write_faults c.answer.new.files) (g.K.Sink.written c.args.out.now) (g.K.Sink.written c.answer.new.out)
    c.in-Some.ensures (c.answer.ensures.write_fault eight)

pub returns-in-None-clause-write_fault : goal.returns-in-None-clause-write_fault
returns-in-None-clause-write_fault g c = λ eight.
    inl (none_failed (texts c.args.words.now) (g.F.Shelf.files c.args.files.now) c.as_bytes.result.now (g.K.Sink.faults c.args.out.now) (g.K.Sink.faults c.put.new.out)
    (g.K.Sink.written c.args.out.now) (g.K.Sink.written c.put.new.out)
    c.in-None.ensures c.as_bytes.ensures.value (c.put.ensures.fault eight) (c.put.ensures.part (omega (arith, eight))))
