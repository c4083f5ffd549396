-- What a line begins that stands where a derivation may.
use Rattle.std.proofs.Common.{◌≡◌, ℕ, ◌+◌, ◌<◌, ◌≤◌, nat_le, true, false, cond, Option, Some, None, subst, sym, ap, ◌∙◌, refl, arith}
use Rattle.log_lines.specs.declared.grammar.Limits.{Limits}
use Rattle.range_prop.specs.declared.row_cut.RowCut.{RowCut}
use Rattle.derived_rows.specs.declared.derived.Derived.{Derived}
use Rattle.derivation_lines.specs.declared.beginning.Begun.TheVariants as begun
use Rattle.derivation_lines.specs.declared.line.TailLine.{TailLine}
use Rattle.derivation_lines.specs.declared.line.TailLine.TheVariants as line
use Rattle.derivation_lines.specs.declared.seen.Seen.{Seen}
use Rattle.derivation_lines.specs.declared.seen.Seen.TheVariants as seen
use Rattle.derivation_lines.specs.declared.tail.Counts.{Counts}
use Rattle.derivation_lines.specs.Front.{MayBegin, beginning_defect}
use Rattle.derivation_lines.specs.Line.{IsTailLine}
use Rattle.derivation_lines.specs.Tail.{cut_line, has_row_room, row_line}
use Rattle.derivation_lines.specs.laws.Parts.{HasNoParts, IsBegun}

-- a cut of a row and a slot that are there
pub cut_begins : (limits : Limits) (before row slot : ℕ) (cut : RowCut) → IsTailLine (line.Cut row slot) → cut.row ≡ row → nat_le (limits.rows + before) row ≡ false → cut.slot ≡ slot → nat_le limits.slots slot ≡ false
    → IsBegun limits before (seen.Line (line.Cut row slot)) (begun.Cut cut)
cut_begins limits before row slot cut is is_row there_row is_slot there_slot =
    let same : line.Cut row slot ≡ cut_line cut = ap (λ r. line.Cut r slot) (sym is_row) ∙ ap (line.Cut cut.row) (sym is_slot) in
    let none : beginning_defect limits before (line.Cut row slot) ≡ None =
    ap (λ b. cond {A = Option ℕ} b (Some 4) (cond {A = Option ℕ} (nat_le limits.slots slot) (Some 5) None)) there_row ∙ ap (λ b. cond {A = Option ℕ} b (Some 5) None) there_slot in
    (ap seen.Line same, subst (MayBegin limits.slots) same is, subst (λ l. beginning_defect limits before l ≡ None) same none)

-- a cut of a row that is not there
pub cut_row_far : (limits : Limits) (before row slot : ℕ) → IsTailLine (line.Cut row slot) → nat_le (limits.rows + before) row ≡ true → IsBegun limits before (seen.Line (line.Cut row slot)) (begun.Bad 4)
cut_row_far limits before row slot is far =
    (line.Cut row slot, refl, is, ap (λ b. cond {A = Option ℕ} b (Some 4) (cond {A = Option ℕ} (nat_le limits.slots slot) (Some 5) None)) far)

-- a cut of a slot that is not there
pub cut_slot_far : (limits : Limits) (before row slot : ℕ) → IsTailLine (line.Cut row slot) → nat_le (limits.rows + before) row ≡ false → nat_le limits.slots slot ≡ true → IsBegun limits before (seen.Line (line.Cut row slot)) (begun.Bad 5)
cut_slot_far limits before row slot is there far =
    (line.Cut row slot, refl, is, ap (λ b. cond {A = Option ℕ} b (Some 4) (cond {A = Option ℕ} (nat_le limits.slots slot) (Some 5) None)) there ∙ ap (λ b. cond {A = Option ℕ} b (Some 5) None) far)

-- the line that is seen
abbrev line_in : Seen → TailLine → TailLine
line_in (seen.Line l) other = l
line_in seen.Other other = other
line_in seen.Cut other = other

-- a line that may begin no derivation
pub nothing_begins : (limits : Limits) (before : ℕ) (l : TailLine) → ¬ MayBegin limits.slots l → IsBegun limits before (seen.Line l) begun.Nothing
nothing_begins limits before l none = λ other is may. none (subst (MayBegin limits.slots) (sym (ap (λ s. line_in s l) is)) may)

-- a row that is to have too many entries
pub row_wide : (limits : Limits) (before : ℕ) (derived : Derived) (counts : Counts) → limits.slots < counts.entries → IsBegun limits before (seen.Line (row_line derived counts)) begun.Nothing
row_wide limits before derived counts wide = nothing_begins limits before (row_line derived counts) (λ may. omega (arith, may.1))

-- a row for which there is room
pub row_begins : (limits : Limits) (before : ℕ) (derived : Derived) (counts : Counts) → IsTailLine (row_line derived counts) → counts.entries ≤ limits.slots → has_row_room limits (before + 1) ≡ true → HasNoParts derived
    → IsBegun limits before (seen.Line (row_line derived counts)) (begun.Row derived counts)
row_begins limits before derived counts is few room none = (refl, (is, few), ap (λ b. cond {A = Option ℕ} b None (Some 21)) room, none)

-- a row for which there is no room
pub row_full : (limits : Limits) (before : ℕ) (derived : Derived) (counts : Counts) → IsTailLine (row_line derived counts) → counts.entries ≤ limits.slots → has_row_room limits (before + 1) ≡ false
    → IsBegun limits before (seen.Line (row_line derived counts)) (begun.Bad 21)
row_full limits before derived counts is few full = (row_line derived counts, refl, (is, few), ap (λ b. cond {A = Option ℕ} b None (Some 21)) full)
