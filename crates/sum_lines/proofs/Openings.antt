-- What a sum line begins.
use Rattle.std.proofs.Common.{◌≡◌, ℕ, ℤ, ◌+◌, ◌≤◌, Bool, true, false, cond, ◌&&◌, [], Option, Some, None, subst, sym, ap, ◌∙◌, refl, arith}
use Rattle.std.proofs.lemmas.Bool.Decides.{nat_tests}
use Rattle.std.proofs.lemmas.Int.{to_z-of_z, fits_signed_from_abs}
use mir.Syntax.{w64, w128}
use mir.Val.{to_z, of_z}
use Rattle.log_lines.specs.declared.grammar.Limits.{Limits}
use Rattle.sum_slots.specs.declared.sum.Sum.{Sum}
use Rattle.sum_lines.specs.declared.line.HeadLine.TheVariants as line
use Rattle.sum_lines.specs.declared.opening.Opened.TheVariants as opened
use Rattle.sum_lines.specs.declared.walk.Seen.{Seen}
use Rattle.sum_lines.specs.declared.walk.Seen.TheVariants as seen
use Rattle.sum_lines.specs.Front.{MayOpen, has_room, is_there, opening_defect}
use Rattle.sum_lines.specs.Head.{IsThere}
use Rattle.sum_lines.specs.Line.{IsOffset}
use Rattle.sum_lines.specs.laws.Walk.{IsOpened}

-- no test has failed
all_passed : (a b r : Bool) → cond {A = Option ℕ} (a && b) (cond {A = Option ℕ} r None (Some 21)) (Some 4) ≡ None → (a ≡ true) × (b ≡ true) × (r ≡ true)
all_passed false false r is = cc
all_passed false true r is = cc
all_passed true false r is = cc
all_passed true true false is = cc
all_passed true true true is = (refl, refl, refl)

-- a row of which a test tells that it is there
there_is : (rows : ℕ) (row : Option ℕ) → is_there rows row ≡ true → IsThere rows row
there_is rows None is = tt
there_is rows (Some row) is = grind (arith, nat_tests)

-- a sum line without a defect: its rows are there, and there is room
pub sound_is : (version : ℕ) (limits : Limits) (before width : ℕ) (offset : ℤ) (low high : Option ℕ) (count : ℕ) → opening_defect version limits before (line.Sum width offset low high count) ≡ None
    → IsThere limits.rows low × IsThere limits.rows high × (has_room version limits (before + 1) ≡ true)
sound_is version limits before width offset low high count is =
    let tests = all_passed (is_there limits.rows low) (is_there limits.rows high) (has_room version limits (before + 1)) is in
    (there_is limits.rows low tests.0, there_is limits.rows high tests.1, tests.2)

-- a row that is there among at most so many
pub there_wide : (rows most : ℕ) (row : Option ℕ) → rows ≤ most → IsThere rows row → IsThere most row
there_wide rows most None few there = tt
there_wide rows most (Some row) few there = omega (arith, there)

-- an offset as it is kept
pub offset_same : (offset : ℤ) → IsOffset offset → to_z w64 (of_z w64 (to_z w128 (of_z w128 offset))) ≡ offset
offset_same offset small =
    let wide : to_z w128 (of_z w128 offset) ≡ offset = to_z-of_z w128 offset (fits_signed_from_abs w128 offset (omega arith)) in
    ap (λ z. to_z w64 (of_z w64 z)) wide ∙ to_z-of_z w64 offset (fits_signed_from_abs w64 offset (omega arith))

-- a sum with the numbers of a line
pub opened_sum : (version : ℕ) (limits : Limits) (before : ℕ) (shown : Seen) (sum : Sum) (width : ℕ) (offset : ℤ) (low high : Option ℕ) (count : ℕ) → shown ≡ seen.Line (line.Sum width offset low high count) → MayOpen limits.slots (line.Sum width offset low high count)
    → opening_defect version limits before (line.Sum width offset low high count) ≡ None → sum.width ≡ width → sum.offset ≡ offset → sum.low ≡ low → sum.high ≡ high → sum.terms ≡ [] → IsOpened version limits before shown (opened.Sum sum count)
opened_sum version limits before shown sum width offset low high count is may none is_width is_offset is_low is_high empty =
    let same : line.Sum width offset low high count ≡ line.Sum sum.width sum.offset sum.low sum.high count = cc in
    (is ∙ ap seen.Line same, subst (MayOpen limits.slots) same may, ap (opening_defect version limits before) (sym same) ∙ none, empty)
