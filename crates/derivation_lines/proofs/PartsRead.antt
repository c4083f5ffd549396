-- The parts of a derived row, line by line.
use Rattle.std.proofs.Common.{◌≡◌, ◌⊎◌, inl, inr, ℕ, List, [], ◌∷◌, ◌++◌, drop, Option, Some, None, IfSome, subst}
use Rattle.stn_edge.specs.Files.{FileMap, file_of}
use Rattle.derived_rows.specs.declared.derived.Derived.{Derived}
use Rattle.sum_lines.specs.declared.walk.Walk.{Walk}
use Rattle.sum_lines.proofs.Feeds.{line_late}
use Rattle.derivation_lines.specs.declared.line.TailLine.{TailLine}
use Rattle.derivation_lines.specs.declared.line.TailLine.TheVariants as line
use Rattle.derivation_lines.specs.declared.seen.Seen.{Seen}
use Rattle.derivation_lines.specs.declared.seen.Seen.TheVariants as seen
use Rattle.derivation_lines.specs.declared.tail.Part.{Part}
use Rattle.derivation_lines.specs.declared.tail.Part.TheVariants as part
use Rattle.derivation_lines.specs.Front.{IsBadPart, MayFollow, part_defect}
use Rattle.derivation_lines.specs.Line.{IsTailLine, tail_line_text}
use Rattle.derivation_lines.specs.Tail.{lines_text}
use Rattle.derivation_lines.specs.laws.Parts.{HasBadPart, IsPartKind}
use Rattle.derivation_lines.specs.laws.Walk.{HasPassed, HasSeen, rest_after}
use Rattle.derivation_lines.proofs.NextLines.{first_same, line_first}

-- a line that may follow may be written
may_follow_line : (derived : Derived) (next : Part) (l : TailLine) → MayFollow derived next l → IsTailLine l
may_follow_line derived part.Factor (line.Cut _ _) may = absurd may
may_follow_line derived part.Factor (line.Row _ _ _ _ _ _ _) may = absurd may
may_follow_line derived part.Factor (line.By _ _) may = may.0
may_follow_line derived part.Factor (line.Shift _ _) may = absurd may
may_follow_line derived part.Factor (line.Lift _ _) may = absurd may
may_follow_line derived part.Factor (line.Entry _ _ _) may = absurd may
may_follow_line derived part.Group (line.Cut _ _) may = absurd may
may_follow_line derived part.Group (line.Row _ _ _ _ _ _ _) may = absurd may
may_follow_line derived part.Group (line.By _ _) may = absurd may
may_follow_line derived part.Group (line.Shift _ _) may = may
may_follow_line derived part.Group (line.Lift _ _) may = may
may_follow_line derived part.Group (line.Entry _ _ _) may = absurd may
may_follow_line derived part.Entry (line.Cut _ _) may = absurd may
may_follow_line derived part.Entry (line.Row _ _ _ _ _ _ _) may = absurd may
may_follow_line derived part.Entry (line.By _ _) may = absurd may
may_follow_line derived part.Entry (line.Shift _ _) may = absurd may
may_follow_line derived part.Entry (line.Lift _ _) may = absurd may
may_follow_line derived part.Entry (line.Entry _ _ _) may = may.0

-- the defect of a line that stands where a part is to come
line_bad : (slots rows : ℕ) (derived : Derived) (next : Part) (bytes after : List ℕ) (kind : ℕ) (l : TailLine) → bytes ≡ tail_line_text l ++ 10 ∷ after → IsTailLine l → ((kind ≡ 1) × (¬ MayFollow derived next l)) ⊎ (MayFollow derived next l × (part_defect slots rows l ≡ Some kind))
    → IsBadPart slots rows derived next bytes kind
line_bad slots rows derived next bytes after kind l is may (inl other) =
    inr (inl (
      other.0,
      line_late (tail_line_text l) bytes after is,
      λ l2 may2 first. other.1 (subst (MayFollow derived next) (first_same l2 l bytes after (may_follow_line derived next l2 may2) may is first) may2),
    ))
line_bad slots rows derived next bytes after kind l is may (inr far) =
    inr (inr (record { line = l; may_follow = far.0; first = record { after = after; is = is }; far = far.1 }))

-- the same of what is seen, where the store may not tell the file
bad_told : (files : Option FileMap) (name : List ℕ) (start number : ℕ) (lines : List TailLine) (walk walk2 : Walk) (shown : Seen) (slots rows : ℕ) (derived : Derived) (next : Part) (kind : ℕ) → HasPassed files name start number lines walk → HasSeen files name start number lines walk2 shown
    → IsPartKind slots rows derived next shown kind
    → IfSome files (λ m. (drop start (file_of m name) ≡ lines_text lines ++ rest_after start lines (file_of m name)) × IsBadPart slots rows derived next (rest_after start lines (file_of m name)) kind)
bad_told None name start number lines walk walk2 shown slots rows derived next kind passed has is = tt
bad_told (Some m) name start number lines walk walk2 (seen.Line l) slots rows derived next kind passed has is =
    let file = file_of m name in
    (passed.after.told.0, line_bad slots rows derived next (rest_after start lines file) (rest_after start (lines ++ l ∷ []) file) kind l (line_first m name start number lines l walk2 has.1) has.0 is)
bad_told (Some m) name start number lines walk walk2 seen.Other slots rows derived next kind passed has is =
    (passed.after.told.0, inr (inl (is, has.0, λ l may first. has.1 l (may_follow_line derived next l may) first)))
bad_told (Some m) name start number lines walk walk2 seen.Cut slots rows derived next kind passed has is = (passed.after.told.0, inl (is, has))

-- the defect of what is seen where a part is to come
pub part_bad : (files : Option FileMap) (name : List ℕ) (start number : ℕ) (lines : List TailLine) (walk walk2 : Walk) (shown : Seen) (slots rows : ℕ) (derived : Derived) (next : Part) (kind : ℕ) → HasPassed files name start number lines walk
    → HasSeen files name start number lines walk2 shown → IsPartKind slots rows derived next shown kind → HasBadPart files name start number slots rows derived next lines (record { line = walk.line; kind = kind })
part_bad files name start number lines walk walk2 shown slots rows derived next kind passed has is = record { line = passed.line; told = bad_told files name start number lines walk walk2 shown slots rows derived next kind passed has is }
