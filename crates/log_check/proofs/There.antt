-- An item that may come after those that a check took may be taken.
use Rattle.std.proofs.Common.{◌≡◌, ◌≢◌, ℕ, ◌<◌, nat_lt, Bool, true, false, ◌&&◌, List, length, None, arith}
use Rattle.std.proofs.lemmas.Bool.Decides.{nat_tests}
use Rattle.row_kit.specs.Row.{row_at}
use Rattle.row_kit.specs.declared.domain.Domain.{Domain}
use Rattle.row_kit.specs.Domain.{up_to}
use Rattle.range_prop.specs.Cut.{cut_domains}
use Rattle.proof_tree.specs.declared.item.Item.TheVariants.{Node, Cut, Found as FoundItem, Empty, Dual, Point, Pending, Split}
use Rattle.proof_tree.specs.Form.{MayComeAfter}
use Rattle.proof_tree.specs.Views.{View, present}
use Rattle.proof_tree.specs.Walk.{stage_of}
use Rattle.proof_tree.proofs.Forms.{going-may, ended-none}
use Rattle.row_relax.specs.declared.rows.Rows.{Rows}
use Rattle.row_relax.specs.Choices.{choices_of, steps_of}
use Rattle.row_relax.specs.Steps.{row_steps, shown_if, kept_at, view_by}
use Rattle.row_relax.specs.View.{Fits, domains_of}
use Rattle.row_relax.specs.laws.Laws.{rows_sound}
use Rattle.proof_log.specs.Gathered.{IsThere}
use Rattle.row_relax.specs.RowProofs.{RowItem}
use Rattle.log_check.specs.declared.course.Course.{Course}
use Rattle.log_check.specs.declared.course.Course.TheVariants.{Going, Ended, Faulty}
use Rattle.log_check.specs.Course.{RowWalk, StandsAt, NamesWhatIsThere, MayTake}
use Rattle.valid_log.specs.Verdict.{limits_of}

test_true : (a b : ℕ) → a < b → nat_lt a b ≡ true
test_true a b below = grind (arith, nat_tests)

both_true : (a b : Bool) → a ≡ true → b ≡ true → (a && b) ≡ true
both_true a b e h = cc

shown : (test : Bool) (domains : List Domain) → test ≡ true → shown_if test domains ≢ None
shown true domains is none = cc
shown false domains is none = cc

-- what the limits allow to be named is there
there_of : (rows : Rows) (depth : ℕ) (v : View) (item : RowItem) → Fits rows.program v → IsThere (limits_of rows depth) item → NamesWhatIsThere (steps_of rows) v item
unfolding row_steps
there_of rows depth v Node fit there = tt
there_of rows depth v (Cut cut) fit there =
    let slot_in : cut.slot < length (domains_of v) = omega (arith, fit.slots, there.1) in
    shown (nat_lt cut.row (length rows.program.rows) && nat_lt cut.slot (length (domains_of v))) (cut_domains (row_at rows.program.rows cut.row) cut.slot (domains_of v))
    (both_true (nat_lt cut.row (length rows.program.rows)) (nat_lt cut.slot (length (domains_of v))) (test_true cut.row (length rows.program.rows) there.0) (test_true cut.slot (length (domains_of v)) slot_in))
there_of rows depth v (FoundItem found) fit there = tt
there_of rows depth v Empty fit there = tt
there_of rows depth v (Dual cert) fit there = tt
there_of rows depth v Point fit there = tt
there_of rows depth v (Pending cert) fit there = tt
there_of rows depth v (Split pick cert) fit there =
    let rest = view_by rows.program v cert pick.floor in
    let fit_rest : Fits rows.program rest = (rows_sound rows.program).trim_fits v pick cert fit in
    let slot_in : pick.slot < length (domains_of rest) = omega (arith, fit_rest.slots, there) in
    shown (nat_lt pick.slot (length (domains_of rest))) (kept_at (domains_of rest) pick.slot (up_to pick.max)) (test_true pick.slot (length (domains_of rest)) slot_in)

pub may_take : (rows : Rows) (depth : ℕ) (root : View) (items : List RowItem) (item : RowItem) (course : Course) (walk : RowWalk) (views : List View)
    → Fits rows.program (present views) → StandsAt (steps_of rows) (choices_of rows) root items course walk views
    → MayComeAfter items item → IsThere (limits_of rows depth) item → MayTake (steps_of rows) course walk (present views) item
may_take rows depth root items item Going walk views fit stand may there =
    (going-may (steps_of rows) root items (stage_of walk views) item stand.1 may, there_of rows depth (present views) item fit there)
may_take rows depth root items item (Ended proof_cap) walk views fit stand may there =
    absurd (ended-none (steps_of rows) root items proof_cap item stand.led may)
may_take rows depth root items item (Faulty defect) walk views fit stand may there = tt
