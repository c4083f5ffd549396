-- What the work on a request comes to, from what its call promises.
use Rattle.std.proofs.Common.{◌≡◌, ◌≢◌, ◌≤◌, ℕ, [], Option, Some, None, Err, refl, arith}
use Rattle.std.specs.Prelude.{Result, IfSome, map}
use Rattle.stn_edge.specs.Count.{Rose}
use Rattle.stn_edge.specs.Files.{FileMap, file_of}
use Rattle.command_words.specs.Words.{Request, Showing}
use Rattle.command_replies.specs.declared.reply.Reply.{Reply}
use Rattle.command_replies.specs.declared.stopped.Stopped.{Stopped}
use Rattle.command_replies.specs.declared.stopped.Stopped.TheVariants.{ReadFault, WriteFault}
use Rattle.command_replies.specs.Answers.{IsUnwritten}
use Rattle.command_replies.specs.Sources.{IfReplied}
use Rattle.command_replies.proofs.AnswerLemmas.{replied, replied_from}
use Rattle.demo_commands.specs.Demo.{Shown}
use Rattle.stn_top.specs.Requests.{IsAnswer, IsLeft, ReadsFirst, GetsToWriting, OthersKept}
use Rattle.stn_top.specs.Done.{IsDone}
use Rattle.stn_top.proofs.FileLemmas.{kept_same, left_same}

-- a request that only reads
pub only_read : (request : Request) (old new : Option FileMap) (reads reads_new writes writes_new : ℕ) (result : Result Reply Stopped)
    → IfReplied result (λ reply. IsAnswer old new request reply.status reply.text.items) → (result ≡ Err ReadFault → Rose reads reads_new) → result ≢ Err WriteFault → new ≡ old
    → reads ≤ reads_new → writes_new ≡ writes → IsDone request old new reads reads_new writes writes_new result
only_read request old new reads reads_new writes writes_new result answer fault never same later no_write = record {
  answer = answer;
  unwritten = replied result (λ reply. IsUnwritten reply.status → new ≡ old) (λ reply _. same);
  fault = fault;
  unread = λ _ _. same;
  write_fault = λ failed. absurd (never failed);
  files = kept_same request old new same;
  left = left_same request old new same;
  reads_later = later;
  writes_later = omega (arith, no_write);
}

-- a request that writes
pub wrote : (request : Request) (old new : Option FileMap) (reads reads_new writes writes_new : ℕ) (result : Result Reply Stopped)
    → IfReplied result (λ reply. IsAnswer old new request reply.status reply.text.items) → IfReplied result (λ reply. IsUnwritten reply.status → new ≡ old)
    → (result ≡ Err ReadFault → Rose reads reads_new) → (result ≡ Err ReadFault → ReadsFirst request → new ≡ old)
    → (result ≡ Err WriteFault → Rose writes writes_new) → (result ≡ Err WriteFault → GetsToWriting old request)
    → OthersKept request old new → IsLeft request old new → reads ≤ reads_new → writes ≤ writes_new → IsDone request old new reads reads_new writes writes_new result
wrote request old new reads reads_new writes writes_new result answer refused fault unread failed begun others left later more = record {
  answer = answer;
  unwritten = refused;
  fault = fault;
  unread = unread;
  write_fault = λ is. (failed is, begun is);
  files = others;
  left = left;
  reads_later = later;
  writes_later = more;
}

-- no file is read for the demonstration
none_told : (files : Option FileMap) → IfSome files (λ m. [] ≡ map (file_of m) [])
none_told None = tt
none_told (Some m) = refl

-- the demonstration, which touches no file
pub demonstrated : (seed : ℕ) (files : Option FileMap) (reads writes : ℕ) (result : Result Reply Stopped) → IfReplied result (λ reply. Shown seed reply.status reply.text.items)
    → result ≢ Err ReadFault → result ≢ Err WriteFault → IsDone (Showing seed) files files reads reads writes writes result
demonstrated seed files reads writes result shown no_read no_write =
    only_read (Showing seed) files files reads reads writes writes result
    (replied_from result (λ reply. Shown seed reply.status reply.text.items) (λ reply. IsAnswer files files (Showing seed) reply.status reply.text.items)
    (λ reply is. record { contents = []; told = none_told files; answers = is; kept = λ _. refl }) shown)
    (λ is. absurd (no_read is)) no_write refl (omega arith) refl
