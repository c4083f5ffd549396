-- What the work on a request comes to.
use Rattle.std.specs.Prelude.{◌≡◌, ◌≤◌, ℕ, Option, Result, Err}
use Rattle.stn_edge.specs.Count.{Rose}
use Rattle.stn_edge.specs.Files.{FileMap}
use Rattle.stn_edge.specs.declared.shelf.Shelf.{Ghosts}
use Rattle.command_words.specs.Words.{Request}
use Rattle.command_replies.specs.declared.reply.Reply.{Reply}
use Rattle.command_replies.specs.declared.stopped.Stopped.{Stopped}
use Rattle.command_replies.specs.declared.stopped.Stopped.TheVariants.{ReadFault, WriteFault}
use Rattle.command_replies.specs.Answers.{IsUnwritten}
use Rattle.command_replies.specs.Sources.{IfReplied}
use Rattle.stn_top.specs.Requests.{IsAnswer, IsLeft, MayRead, MayWrite, ReadsFirst, WritesApart, GetsToWriting, OthersKept}

-- What the work on a request comes to, with the files and the counts of faults of reading and of writing before and after: what is
-- replied is its answer, a fault rose where one stopped it, and the files are what it leaves.
pub record IsDone (request : Request) (old new : Option FileMap) (reads reads_new writes writes_new : ℕ) (result : Result Reply Stopped) : Type 0 where
  pub answer : IfReplied result (λ reply. IsAnswer old new request reply.status reply.text.items)
  pub unwritten : IfReplied result (λ reply. IsUnwritten reply.status → new ≡ old)
  pub fault : result ≡ Err ReadFault → Rose reads reads_new
  pub unread : result ≡ Err ReadFault → ReadsFirst request → new ≡ old
  pub write_fault : result ≡ Err WriteFault → Rose writes writes_new × GetsToWriting old request
  pub files : OthersKept request old new
  pub left : IsLeft request old new
  pub reads_later : reads ≤ reads_new
  pub writes_later : writes ≤ writes_new

-- what the work on a request comes to, from a store before to the one after
abbrev pub HasDone : {F : Type 0} → Ghosts F → Request → F → F → Result Reply Stopped → Type 0
HasDone S request old new result =
    IsDone request (S.files old) (S.files new) (S.read_faults old) (S.read_faults new) (S.write_faults old) (S.write_faults new) result

-- a request may be worked on: the files that it reads and writes may be read and written, and it writes none of the logs that it goes on from
pub record MayBeDone {F : Type 0} (S : Ghosts F) (request : Request) (files : F) : Type 0 where
  pub may_read : MayRead (S.may_read files) request
  pub may_write : MayWrite (S.may_write files) request
  pub apart : WritesApart request

-- what may be read and written is as before
pub record KeepsLeave {F : Type 0} (S : Ghosts F) (old new : F) : Type 0 where
  pub readable : S.may_read new ≡ S.may_read old
  pub writable : S.may_write new ≡ S.may_write old
