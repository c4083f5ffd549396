-- What a run answers: its status, and what it puts.
use Rattle.std.specs.Prelude.{◌≡◌, ◌⊎◌, ℕ, Bool, List, take, codes, Option}
use Rattle.std.specs.Option.{option_map}
use Rattle.stn_edge.specs.Count.{Rose, next_count}
use Rattle.stn_edge.specs.Text.{extended}
use Rattle.stn_edge.specs.Files.{FileMap}
use Rattle.command_words.specs.Words.{Request, Says, Joining, Resuming, Merging, HasNoForm}
use Rattle.stn_top.specs.Requests.{MayRead, MayWrite, IsAnswer, GetsToWriting}

-- the line on words that have the form of no command
abbrev pub words_text : List ℕ
words_text = codes "refused words\n"

-- words of no form are refused with status 2, and the files are as before; else the request that they say is answered
abbrev pub IsReply : List (List ℕ) → Option FileMap → Option FileMap → ℕ → List ℕ → Type 0
IsReply words files after status text =
    (HasNoForm words × (status ≡ 2) × (text ≡ words_text) × (after ≡ files)) ⊎ ((request : Request) × (Says words request × IsAnswer files after request status text))

-- whatever the words say, its files may be read
abbrev pub MayReadAll : (List ℕ → Bool) → List (List ℕ) → Type 0
MayReadAll may_read words = (request : Request) → Says words request → MayRead may_read request

-- whatever the words say, its log may be written
abbrev pub MayWriteAll : (List ℕ → Bool) → List (List ℕ) → Type 0
MayWriteAll may_write words = (request : Request) → Says words request → MayWrite may_write request

-- the text of such a reply was put, with this status
pub record Answered (Replies : ℕ → List ℕ → Type 0) (status : ℕ) (old new : Option (List ℕ)) : Type 0 where
  pub text : List ℕ
  pub reply : Replies status text
  pub put : new ≡ option_map (extended text) old

-- a first part of the text of such a reply was put
pub record PartlyAnswered (Replies : ℕ → List ℕ → Type 0) (old new : Option (List ℕ)) : Type 0 where
  pub status : ℕ
  pub text : List ℕ
  pub reply : Replies status text
  pub count : ℕ
  pub put : new ≡ option_map (extended (take count text)) old

-- nothing was put, or a first part of the text of such a reply
abbrev pub IsCutOff : (ℕ → List ℕ → Type 0) → Option (List ℕ) → Option (List ℕ) → Type 0
IsCutOff Replies old new = (new ≡ old) ⊎ PartlyAnswered Replies old new

-- the sink failed when all work was done: its count of faults rose, and a first part of the text of such a reply was put, which may
-- be empty
pub record PutFailed (Replies : ℕ → List ℕ → Type 0) (faults faults_new : ℕ) (old new : Option (List ℕ)) : Type 0 where
  pub rose : Rose faults faults_new
  pub reply : PartlyAnswered Replies old new

-- something was put once, or nothing was
abbrev pub IsPutOnce : ℕ → ℕ → Type 0
IsPutOnce puts puts_new = (puts_new ≡ puts) ⊎ (puts_new ≡ next_count puts)

-- the words say a request that got to writing a file, and the count of write faults rose
abbrev pub LogFailed : List (List ℕ) → Option FileMap → ℕ → ℕ → Type 0
LogFailed words files old new = Rose old new × ((request : Request) × (Says words request × GetsToWriting files request))

-- the words say neither a joining or merging of logs nor going on from one
pub record SayReadsFirst (words : List (List ℕ)) : Type 0 where
  pub join : (plant stem log : List ℕ) (levels : ℕ) → ¬ Says words (Joining plant levels stem log)
  pub resume : (plant log out : List ℕ) (budget : ℕ) (share : Option (ℕ × ℕ)) → ¬ Says words (Resuming plant log budget out share)
  pub merge : (plant stem out : List ℕ) (count : ℕ) → ¬ Says words (Merging plant stem count out)
