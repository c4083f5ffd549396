-- What words say, and what is put of an answer.
use Rattle.std.proofs.Common.{◌≡◌, ℕ, List, take, subst, inl, inr, refl}
use Rattle.std.specs.Prelude.{◌⊎◌, Option}
use Rattle.std.specs.Option.{option_map}
use Rattle.stn_edge.specs.Count.{Rose}
use Rattle.stn_edge.specs.Files.{FileMap}
use Rattle.stn_edge.specs.Text.{extended}
use Rattle.command_words.specs.Words.{Request, Says, HasNoForm}
use Rattle.stn_top.specs.Requests.{IsAnswer, GetsToWriting, ReadsFirst, WritesApart}
use Rattle.stn_top.specs.Replies.{IsReply, IsCutOff, LogFailed, PutFailed, SayReadsFirst, words_text}

-- a first part of an answer that was put is one of a reply to the words that say its request
pub cut_off : (words : List (List ℕ)) (files after : Option FileMap) (request : Request) (old new : Option (List ℕ)) → Says words request
    → IsCutOff (IsAnswer files after request) old new → IsCutOff (IsReply words files after) old new
cut_off words files after request old new says (inl same) = inl same
cut_off words files after request old new says (inr is) =
    inr (record { status = is.status; text = is.text; reply = inr (request, (says, is.reply)); count = is.count; put = is.put })

-- a first part of the line on words of no form
pub none_cut_off : (words : List (List ℕ)) (files : Option FileMap) (text : List ℕ) (old new : Option (List ℕ)) → HasNoForm words → text ≡ words_text
    → (count : ℕ) × (new ≡ option_map (extended (take count text)) old) → IsCutOff (IsReply words files files) old new
none_cut_off words files text old new none is (count, put) =
    inr (record { status = 2; text = text; reply = inl (none, refl, is, refl); count = count; put = put })

-- the sink failed while it put the text of a reply
pub put_failed : (Replies : ℕ → List ℕ → Type 0) (status : ℕ) (text : List ℕ) (faults faults_new : ℕ) (old new : Option (List ℕ)) → Replies status text → Rose faults faults_new
    → (count : ℕ) × (new ≡ option_map (extended (take count text)) old) → PutFailed Replies faults faults_new old new
put_failed Replies status text faults faults_new old new reply rose (count, put) =
    record { rose = rose; reply = record { status = status; text = text; reply = reply; count = count; put = put } }

-- the line on words of no form
pub none_failed : (words : List (List ℕ)) (files : Option FileMap) (text : List ℕ) (faults faults_new : ℕ) (old new : Option (List ℕ)) → HasNoForm words → text ≡ words_text → Rose faults faults_new
    → (count : ℕ) × (new ≡ option_map (extended (take count text)) old) → PutFailed (IsReply words files files) faults faults_new old new
none_failed words files text faults faults_new old new none is rose part = put_failed (IsReply words files files) 2 text faults faults_new old new (inl (none, refl, is, refl)) rose part

-- where an answer to a request stopped, that to the words that say it did
pub said_stopped : (words : List (List ℕ)) (files after : Option FileMap) (request : Request) (faults faults_new writes writes_new : ℕ) (old new : Option (List ℕ)) → Says words request
    → PutFailed (IsAnswer files after request) faults faults_new old new ⊎ (Rose writes writes_new × GetsToWriting files request)
    → PutFailed (IsReply words files after) faults faults_new old new ⊎ LogFailed words files writes writes_new
said_stopped words files after request faults faults_new writes writes_new old new says (inl is) =
    let part = is.reply in
    inl (record { rose = is.rose; reply = record { status = part.status; text = part.text; reply = inr (request, (says, part.reply)); count = part.count; put = part.put } })
said_stopped words files after request faults faults_new writes writes_new old new says (inr (rose, begun)) = inr (rose, (request, (says, begun)))

-- a request that the words say writes none of the logs that it joins, merges or goes on from
pub says_apart : (words : List (List ℕ)) (request : Request) → Says words request → WritesApart request
says_apart words request says = record {
  joining = λ plant levels stem log is. (subst (Says words) is says).1.5;
  resuming = λ plant log budget out share is. (subst (Says words) is says).1.1.3.no_plan;
  merging = λ plant stem count out is. (subst (Says words) is says).1.5;
}

-- and reads all of its files first where the words say so
pub says_reads_first : (words : List (List ℕ)) (request : Request) → Says words request → SayReadsFirst words → ReadsFirst request
says_reads_first words request says none = record {
  joins_none = λ plant levels stem log is. none.join plant stem log levels (subst (Says words) is says);
  resumes_none = λ plant log budget out share is. none.resume plant log out budget share (subst (Says words) is says);
  merges_none = λ plant stem count out is. none.merge plant stem out count (subst (Says words) is says);
}
