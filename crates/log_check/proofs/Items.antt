-- What a further item does to a check.
use Rattle.std.proofs.Common.{◌≡◌, ◌≢◌, inr, ⊎_elim, ℕ, ℤ, ◌+◌, Bool, true, false, cond, List, [], ◌∷◌, ◌++◌, map, length, Option, Some, None, IsSome, IsTrue, MatchOption, refl, sym, ◌∙◌, append_assoc}
use Rattle.std.specs.Prelude.{⊤}
use Rattle.row_kit.specs.declared.area.Area.{Area}
use Rattle.row_kit.specs.declared.found.Found.{Found}
use Rattle.row_kit.specs.declared.program.Program.{Program}
use Rattle.proof_tree.specs.declared.capped.Capped.{Capped}
use Rattle.proof_tree.specs.declared.capped.Capped.TheVariants.{AtMost, NoPoint, Bad}
use Rattle.proof_tree.specs.declared.item.Item.TheVariants.{Node, Cut, Found as FoundItem, Empty, Dual, Point, Pending, Split}
use Rattle.proof_tree.specs.declared.walk.Expected.{Expected}
use Rattle.proof_tree.specs.declared.walk.Expected.TheVariants.{Node as ExpectNode, Inside}
use Rattle.proof_tree.specs.Cap.{greater, floor_cap}
use Rattle.dual_bound.specs.declared.cert.Cert.{Cert}
use Rattle.proof_tree.specs.declared.walk.OpenSplit.{OpenSplit}
use Rattle.proof_tree.specs.declared.walk.Took.{Took}
use Rattle.proof_tree.specs.declared.walk.Took.TheVariants.{More, Done, Bad as TookBad}
use Rattle.proof_tree.specs.Tree.{no_point, leaf_cap}
use Rattle.proof_tree.specs.Views.{View, present}
use Rattle.proof_tree.specs.Walk.{Opened, Stage, Outcome, going, ended, undefined, may_come, going_to, close, close_split, part_ended, split_open, come_to, step, after, walked, start, opened, stage_of, StandBelow, Stands, IsAnswer}
use Rattle.proof_tree.proofs.WalkLaw.{walked-next}
use Rattle.row_relax.specs.declared.pick.RowPick.{RowPick}
use Rattle.row_relax.specs.declared.rows.Rows.{Rows}
use Rattle.row_relax.specs.RowProofs.{RowItem}
use Rattle.proof_log.specs.Log.{line_after}
use Rattle.log_lines.specs.declared.defect.Defect.{Defect}
use Rattle.log_check.specs.declared.course.Course.{Course}
use Rattle.log_check.specs.declared.course.Course.TheVariants.{Going, Faulty}
use Rattle.valid_log.specs.Meaning.{RowSteps, IsWorth, PointDefect, CapDefect, ItemDefect, HasDefect, HaveNone, IsItemDefect, IsTested}
use Rattle.valid_log.proofs.Items.{leads_on}
use Rattle.log_check.specs.Course.{RowWalk, StandsAt, IsReady, NamesWhatIsThere, MayTake, end_kind, course_of}

-- the right part of each open split is there
abbrev RightsNamed : RowSteps → List (Opened RowPick) → Type 0
RightsNamed s [] = ⊤
RightsNamed s (split ∷ splits) = IsSome (s.right split.view split.pick) × RightsNamed s splits

rights : (s : RowSteps) (views : List View) (mark first : ℕ) (splits : List (OpenSplit RowPick)) → StandBelow s views mark first splits → RightsNamed s (map (opened views) splits)
rights s views mark first [] stand = tt
rights s views mark first (split ∷ splits) stand = (stand.1, rights s views (split.mark + 1) first splits stand.2)

MatchFirst : RowSteps → RowWalk → List View → Option ℕ → Type 0
MatchFirst s walk views first = MatchOption first (walk.splits ≡ []) (λ mark. StandBelow s views (length views) mark walk.splits)

rights_of : (s : RowSteps) (walk : RowWalk) (views : List View) → Stands s walk views → RightsNamed s (map (opened views) walk.splits)
unfolding MatchFirst
rights_of s walk views stand = at walk.first stand
  where
    at : (first : Option ℕ) → MatchFirst s walk views first → RightsNamed s (map (opened views) walk.splits)
    at None is = rw is tt
    at (Some first) is = rights s views (length views) first walk.splits is

going_to-leads : (expected : Expected) (splits : List (Opened RowPick)) (next : Option View) → IsSome next → going_to expected splits next ≢ undefined
going_to-leads expected splits None some e = cc
going_to-leads expected splits (Some v) some e = cc

-- a part that ends with a cap leads somewhere
close-leads : (s : RowSteps) (splits : List (Opened RowPick)) (proof_cap : Capped) → RightsNamed s splits → close s splits proof_cap ≢ undefined
close-leads s [] proof_cap named = λ e. cc
close-leads s (split ∷ splits) proof_cap named = at split.left (λ c. close-leads s splits c named.1)
  where
    at : (left : Option Capped) → ((c : Capped) → close s splits c ≢ undefined) → close_split s split splits proof_cap left (close s splits) ≢ undefined
    at None rest = going_to-leads ExpectNode (record split { left = Some (greater (floor_cap split.floor) proof_cap) } ∷ splits) (s.right split.view split.pick) named.0
    at (Some first) rest = rest (greater first proof_cap)

-- a part leads nowhere only where it has no cap
part-leads : (s : RowSteps) (splits : List (Opened RowPick)) (proof_cap : Capped) → RightsNamed s splits → part_ended s splits proof_cap ≡ undefined → proof_cap ≡ Bad
part-leads s splits Bad named e = refl
part-leads s splits NoPoint named e = absurd (close-leads s splits NoPoint named e)
part-leads s splits (AtMost n) named e = absurd (close-leads s splits (AtMost n) named e)

empty_cap-Bad : (answer : Bool) → cond answer NoPoint Bad ≡ Bad → answer ≡ false
empty_cap-Bad true e = cc
empty_cap-Bad false e = refl

-- a tested item that leads nowhere has a defect
pub leads_nowhere : (s : RowSteps) (program : Program) (splits : List (Opened RowPick)) (v : View) (item : RowItem) → RightsNamed s splits → NamesWhatIsThere s v item → IsTested s program v item → come_to s splits v item ≡ undefined → ItemDefect s program v item (end_kind item)
leads_nowhere s program splits v Node rights named tested nowhere = cc
leads_nowhere s program splits v (Cut cut) rights named tested nowhere = at (s.cut v cut) named nowhere
  where
    at : (next : Option View) → next ≢ None → going_to Inside splits next ≡ undefined → ⊥
    at None some e = some refl
    at (Some w) some e = cc
leads_nowhere s program splits v (FoundItem found) rights named tested nowhere = cc
leads_nowhere s program splits v Empty rights named tested nowhere = (refl, empty_cap-Bad (s.empty v) (part-leads s splits (leaf_cap s v no_point) rights nowhere))
leads_nowhere s program splits v (Dual cert) rights named tested nowhere = inr (refl, tested, part-leads s splits (s.cap v cert) rights nowhere)
leads_nowhere s program splits v Point rights named tested nowhere = (refl, part-leads s splits (s.settle v) rights nowhere)
leads_nowhere s program splits v (Pending cert) rights named tested nowhere = inr (refl, tested, part-leads s splits (s.cap v cert) rights nowhere)
leads_nowhere s program splits v (Split pick cert) rights named tested nowhere = at (s.left (s.trim v pick cert) pick) named nowhere
  where
    at : (next : Option View) → next ≢ None → going_to ExpectNode (split_open s v pick cert ∷ splits) next ≡ undefined → ⊥
    at None some e = some refl
    at (Some w) some e = cc

-- no item has a defect where one more has none
HaveNone-next : (s : RowSteps) (program : Program) (outcome : Outcome RowPick) (items : List RowItem) (item : RowItem) → HaveNone s program outcome items → ((kind : ℕ) → ¬ HasDefect s program (walked s outcome items) item kind) → HaveNone s program outcome (items ++ item ∷ [])
HaveNone-next s program outcome [] item none one = (one, tt)
HaveNone-next s program outcome (x ∷ xs) item none one = (none.0, HaveNone-next s program (after s outcome x) xs item none.1 one)

-- what has no defect before an item that has one is the first
pub first_defect : (s : RowSteps) (program : Program) (root : View) (items : List RowItem) (item : RowItem) (walk : RowWalk) (views : List View) (line kind : ℕ) → line ≡ line_after items → StandsAt s program root items Going walk views → ItemDefect s program (present views) item kind → IsItemDefect s program root (items ++ item ∷ []) (record { line = line; kind = kind })
first_defect s program root items item walk views line kind at stand has = record {
  before = items;
  item = item;
  later = [];
  listed = refl;
  line = at;
  first = stand.0;
  has = rw stand.1 has;
}

-- a defect stays the first
pub still_defect : (s : RowSteps) (program : Program) (root : View) (items : List RowItem) (item : RowItem) (defect : Defect) → IsItemDefect s program root items defect → IsItemDefect s program root (items ++ item ∷ []) defect
still_defect s program root items item defect is = record {
  before = is.before;
  item = is.item;
  later = is.later ++ item ∷ [];
  listed = rw is.listed (append_assoc is.before (is.item ∷ is.later) (item ∷ []));
  line = is.line;
  first = is.first;
  has = is.has;
}

if_true : (s : RowSteps) (stage : Stage RowPick) (item : RowItem) → IsTrue (may_come stage.expected item) → step s stage item ≡ come_to s stage.splits stage.view item
if_true s stage item may = rw may refl

-- where the walk took the item
pub took_item : (s : RowSteps) (program : Program) (root : View) (items : List RowItem) (item : RowItem) (walk new : RowWalk) (views later : List View) (line : ℕ) (took : Took)
    → Stands s walk views → MayTake s Going walk (present views) item → IsTested s program (present views) item
    → IsAnswer took new later (step s (stage_of walk views) item)
    → line ≡ line_after items → StandsAt s program root items Going walk views
    → StandsAt s program root (items ++ item ∷ []) (course_of took line (end_kind item)) new later
took_item s program root items item walk new views later line More stands may tested answer at stand = (
  HaveNone-next s program (start root) items item stand.0 (rw stand.1 (leads_on s program (map (opened views) walk.splits) (present views) item tested (λ e. let on : going (stage_of new later) ≡ undefined = sym answer ∙ (if_true s (stage_of walk views) item may.0 ∙ e) in cc))),
  walked-next Rows Area Found s (start root) items item (stage_of walk views) stand.1 ∙ answer,
)
took_item s program root items item walk new views later line (Done proof_cap) stands may tested answer at stand = record {
  sound = HaveNone-next s program (start root) items item stand.0 (rw stand.1 (leads_on s program (map (opened views) walk.splits) (present views) item tested (λ e. let on : ended proof_cap ≡ undefined = sym answer.0 ∙ (if_true s (stage_of walk views) item may.0 ∙ e) in cc)));
  led = walked-next Rows Area Found s (start root) items item (stage_of walk views) stand.1 ∙ answer.0;
}
took_item s program root items item walk new views later line TookBad stands may tested answer at stand =
    first_defect s program root items item walk views line (end_kind item) at stand
    (leads_nowhere s program (map (opened views) walk.splits) (present views) item (rights_of s walk views stands) may.1 tested (sym (if_true s (stage_of walk views) item may.0) ∙ answer.0))

-- a walk is ready for more after what it took
pub took_ready : (s : RowSteps) (walk : RowWalk) (views : List View) (took : Took) (line kind : ℕ) → Stands s walk views → IsReady s (course_of took line kind) walk views
took_ready s walk views More line kind stands = stands
took_ready s walk views (Done proof_cap) line kind stands = tt
took_ready s walk views TookBad line kind stands = tt

-- a check that has found a defect stands the same after one more item
pub stays_faulty : (s : RowSteps) (program : Program) (root : View) (items : List RowItem) (item : RowItem) (walk : RowWalk) (views : List View) (course : Course) (defect : Defect) → course ≡ Faulty defect → StandsAt s program root items course walk views → StandsAt s program root (items ++ item ∷ []) course walk views
stays_faulty s program root items item walk views course defect is stand =
    rw is (still_defect s program root items item defect (rw is at stand))
