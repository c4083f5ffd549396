-- What stands at the front of a log.
use Rattle.std.specs.Prelude.{◌≡◌, ◌⊎◌, ⊤, ◌+◌, ◌*◌, ◌<◌, ◌≤◌, nat_lt, nat_le, ◌&&◌, Bool, true, if◌then◌else◌, ℕ, ℤ, Option, Some, None, List, ◌∷◌, ◌++◌, length, drop}
use Rattle.log_lines.specs.declared.grammar.Limits.{Limits}
use Rattle.log_lines.specs.Grammar.{follows}
use Rattle.log_lines.specs.Reader.{HasNoFeed}
use Rattle.log_lines.specs.declared.defect.Defect.{Defect}
use Rattle.sum_slots.specs.declared.sum.Sum.{Sum}
use Rattle.sum_lines.specs.declared.head.Front.{Front}
use Rattle.sum_lines.specs.declared.head.Front.TheVariants.{Plain, Headed, Bad}
use Rattle.sum_lines.specs.declared.head.Head.{Head}
use Rattle.sum_lines.specs.declared.line.HeadLine.{HeadLine}
use Rattle.sum_lines.specs.declared.line.HeadLine.TheVariants as line
use Rattle.sum_lines.specs.Head.{AreKept, AreTerms, IsHeadVersion, IsKeptHead, first_line, head_text, last_slot, lines_of, most_rows, most_slots, open_lines, opening_line, text_with}
use Rattle.sum_lines.specs.Line.{IsHeadLine, head_line_text}

-- bytes begin with a text and its line feed (10)
pub record BeginsWith (text bytes : List ℕ) : Type 0 where
  pub after : List ℕ
  pub is : bytes ≡ text ++ 10 ∷ after

-- a line may begin a sum: it is a sum line that may be written, whose count is at most the slots
abbrev pub MayOpen : ℕ → HeadLine → Type 0
MayOpen slots (line.Sum width offset low high count) = IsHeadLine (line.Sum width offset low high count) × (count ≤ slots)
MayOpen slots (line.Term _ _ _) = ⊥

-- a line may be a term's above the last slot: it is a term line that may be written, whose slot follows the last one
abbrev pub MayFollow : Option ℕ → HeadLine → Type 0
MayFollow above (line.Sum _ _ _ _ _) = ⊥
MayFollow above (line.Term slot fixed per) = IsHeadLine (line.Term slot fixed per) × (follows above slot ≡ true)

-- no line of some kind stands first in bytes
abbrev pub NoneFirst : (HeadLine → Type 0) → List ℕ → Type 0
NoneFirst P bytes = (line : HeadLine) → P line → ¬ BeginsWith (head_line_text line) bytes

-- bytes end before the line feed of their first line, after at most 200
abbrev pub EndsEarly : List ℕ → Type 0
EndsEarly bytes = HasNoFeed bytes × (length bytes ≤ 200)

-- a row is there, where one is named
abbrev pub is_there : ℕ → Option ℕ → Bool
is_there rows None = true
is_there rows (Some row) = nat_lt row rows

-- a head of a version has room for so many sums: a slot and two rows for each
abbrev pub has_room : ℕ → Limits → ℕ → Bool
has_room version limits count = nat_le (limits.slots + count) (most_slots version) && nat_le (limits.rows + 2 * count) (most_rows version)

-- the kind of the defect of a sum line that comes after so many sums: 4 where it names a row that is not there, else 21 where there is no room for one sum more
abbrev pub opening_defect : ℕ → Limits → ℕ → HeadLine → Option ℕ
opening_defect version limits before (line.Sum _ _ low high _) =
    if is_there limits.rows low && is_there limits.rows high then (if has_room version limits (before + 1) then None else Some 21) else Some 4
opening_defect version limits before (line.Term _ _ _) = None

-- a sum line that comes after so many sums has a defect of this kind
pub record IsBadOpening (version : ℕ) (limits : Limits) (before : ℕ) (bytes : List ℕ) (kind : ℕ) : Type 0 where
  pub line : HeadLine
  pub opens : MayOpen limits.slots line
  pub first : BeginsWith (head_line_text line) bytes
  pub defect : opening_defect version limits before line ≡ Some kind

-- kind 2: where a term is to come, the file ends before the line feed
abbrev pub IsCutTerm : List ℕ → ℕ → Type 0
IsCutTerm bytes kind = (kind ≡ 2) × EndsEarly bytes

-- kind 1: where a term is to come, there is another line, or one that is too long
abbrev pub IsNoTerm : Option ℕ → List ℕ → ℕ → Type 0
IsNoTerm above bytes kind = (kind ≡ 1) × (¬ EndsEarly bytes) × NoneFirst (MayFollow above) bytes

-- kind 5: the slot of the next term is not there
pub record IsFarTerm (slots : ℕ) (above : Option ℕ) (bytes : List ℕ) (kind : ℕ) : Type 0 where
  pub kind_is : kind ≡ 5
  pub slot : ℕ
  pub fixed : ℤ
  pub per : ℤ
  pub may_follow : MayFollow above (line.Term slot fixed per)
  pub first : BeginsWith (head_line_text (line.Term slot fixed per)) bytes
  pub far : slots ≤ slot

-- where a term is to come above the last slot, the next line has a defect of this kind: 2, 1 or 5
abbrev pub IsBadTerm : ℕ → Option ℕ → List ℕ → ℕ → Type 0
IsBadTerm slots above bytes kind = IsCutTerm bytes kind ⊎ (IsNoTerm above bytes kind ⊎ IsFarTerm slots above bytes kind)

-- after lines of so many sums, the next line is a sum line that has this defect
pub record IsBadAtSum (version : ℕ) (limits : Limits) (before : ℕ) (lines : List HeadLine) (bytes : List ℕ) (defect : Defect) : Type 0 where
  pub rest : List ℕ
  pub is : bytes ≡ text_with version lines ++ rest
  pub line : defect.line ≡ 2 + length lines
  pub bad : IsBadOpening version limits before rest defect.kind

-- after lines of so many sums and an open sum, its line and fewer terms than its count, the next line has this defect
pub record IsBadAtTerm (version : ℕ) (limits : Limits) (before : ℕ) (lines : List HeadLine) (bytes : List ℕ) (defect : Defect) : Type 0 where
  pub sum : Sum
  pub count : ℕ
  pub rest : List ℕ
  pub opens : MayOpen limits.slots (opening_line sum count)
  pub sound : opening_defect version limits before (opening_line sum count) ≡ None
  pub terms : AreTerms limits.slots sum.terms
  pub fewer : length sum.terms < count
  pub is : bytes ≡ text_with version (lines ++ open_lines sum count) ++ rest
  pub line : defect.line ≡ 2 + length (lines ++ open_lines sum count)
  pub bad : IsBadTerm limits.slots (last_slot None sum.terms) rest defect.kind

-- after lines of so many sums, and perhaps an open sum, the next line has this defect
abbrev pub IsBadAt : ℕ → Limits → ℕ → List HeadLine → List ℕ → Defect → Type 0
IsBadAt version limits before lines bytes defect = IsBadAtSum version limits before lines bytes defect ⊎ IsBadAtTerm version limits before lines bytes defect

-- after the first line of a version, whole sums that keep its limits, and perhaps an open sum, the next line has this defect
pub record IsBadHead (limits : Limits) (bytes : List ℕ) (defect : Defect) : Type 0 where
  pub version : ℕ
  pub is_version : IsHeadVersion version
  pub sums : List Sum
  pub kept : AreKept version limits sums
  pub bad : IsBadAt version limits (length sums) (lines_of sums) bytes defect

-- the bytes begin with the text of a head, whose sums keep the limits, and after it no line stands first that may begin a sum
pub record IsHeaded (limits : Limits) (bytes : List ℕ) (head : Head) : Type 0 where
  pub kept : IsKeptHead limits head
  pub is : bytes ≡ head_text head.version head.sums ++ drop head.bytes bytes
  pub ends : NoneFirst (MayOpen limits.slots) (drop head.bytes bytes)

-- the front of bytes: they begin with the first line of no head; or with a head; or with a head's first line, and have this first defect
abbrev pub IsFront : Limits → List ℕ → Front → Type 0
IsFront limits bytes Plain = (¬ BeginsWith (first_line 3) bytes) × (¬ BeginsWith (first_line 4) bytes)
IsFront limits bytes (Headed head) = IsHeaded limits bytes head
IsFront limits bytes (Bad defect) = IsBadHead limits bytes defect

-- the head, where there is one, keeps the limits
abbrev pub KeepsLimits : Limits → Front → Type 0
KeepsLimits limits Plain = ⊤
KeepsLimits limits (Headed head) = IsKeptHead limits head
KeepsLimits limits (Bad _) = ⊤
