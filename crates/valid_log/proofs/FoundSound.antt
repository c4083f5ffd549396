-- A proof that leads to a cap has no defect exactly where its found points have none.
use Rattle.std.proofs.Common.{◌≡◌, ◌≢◌, ℕ, ◌<◌, ltb, Bool, true, false, ◌&&◌, List, [], ◌∷◌, length, Some, None, refl, sym, ap, ◌∙◌, subst, arith, if◌then◌else◌, ⊎_elim}
use Rattle.std.specs.Prelude.{⊤, ℤ}
use Rattle.std.specs.List.{All, list_all, list_any}
use Rattle.std.proofs.lemmas.Bool.{ltb-true, eqb-true, false_from_ne_true, false≢true}
use Rattle.std.proofs.lemmas.List.Elements.{All-nil, All-cons, All-head, All-tail}
use Rattle.std.proofs.lemmas.List.Folds.{Any-from_list_any}
use Rattle.std.proofs.lemmas.List.Sums.{AllPass-from_list_all}
use Rattle.row_kit.specs.declared.area.Area.{Area}
use Rattle.row_kit.specs.declared.domain.Domain.{Domain}
use Rattle.row_kit.specs.declared.found.Found.{Found}
use Rattle.row_kit.specs.declared.program.Program.{Program}
use Rattle.row_kit.specs.Domain.{count_of}
use Rattle.range_prop.specs.Cut.{is_bare}
use Rattle.dual_bound.specs.declared.cert.Cert.{Cert}
use Rattle.dual_bound.specs.Cap.{cert_cap, scaled_cap}
use Rattle.dual_bound.specs.Total.{is_fit, total_of}
use Rattle.proof_tree.specs.declared.capped.Capped.{Capped}
use Rattle.proof_tree.specs.declared.capped.Capped.TheVariants.{AtMost, NoPoint, Bad}
use Rattle.proof_tree.specs.declared.item.Item.TheVariants.{Node, Cut, Found as FoundItem, Empty, Dual, Point, Pending, Split}
use Rattle.proof_tree.specs.Views.{View}
use Rattle.proof_tree.specs.Walk.{Opened, Stage, Outcome, going, ended, undefined, misplaced, may_come, outcome_of, part_ended, come_to, after, walked}
use Rattle.proof_tree.proofs.WalkLaw.{walked-undefined, walked-misplaced}
use Rattle.row_relax.specs.declared.pick.RowPick.{RowPick}
use Rattle.row_relax.specs.declared.rows.Rows.{Rows}
use Rattle.row_relax.specs.RowProofs.{RowItem}
use Rattle.row_relax.specs.Choices.{choices_of, steps_of}
use Rattle.row_relax.specs.Steps.{row_steps}
use Rattle.row_relax.specs.View.{domains_of}
use Rattle.proof_log.specs.declared.claim.Claim.{Claim}
use Rattle.proof_log.specs.declared.claim.Claim.TheVariants.{Optimal, Infeasible, Between, Below}
use Rattle.valid_log.specs.Meaning.{RowSteps, PointDefect, CappedDefect, ClaimDefect, ItemDefect, HasDefect, HaveNone, AllowsMore, IsSoundClaim}
use Rattle.valid_log.proofs.Items.{leads_on, worth-sound}

-- a point and its worth have no defect
abbrev pub IsFinePoint : Program → ℤ → List ℕ → Type 0
IsFinePoint program value point = (kind : ℕ) → ¬ PointDefect program value point kind

-- an item is no found point with a defect
abbrev pub IsFine : Program → RowItem → Type 0
IsFine program Node = ⊤
IsFine program (Cut cut) = ⊤
IsFine program (FoundItem found) = IsFinePoint program found.value found.point
IsFine program Empty = ⊤
IsFine program (Dual cert) = ⊤
IsFine program Point = ⊤
IsFine program (Pending cert) = ⊤
IsFine program (Split pick cert) = ⊤

-- what has no cap leads to none
lost : (s : RowSteps) (outcome : Outcome RowPick) (items : List RowItem) (proof_cap : Capped) → walked s outcome items ≡ ended proof_cap → (outcome ≢ undefined) × (outcome ≢ misplaced)
lost s outcome items proof_cap led = (
  λ is.
      let none : walked s outcome items ≡ undefined = ap (λ o. walked s o items) is ∙ walked-undefined Rows Area Found s items in
      let clash : ended proof_cap ≡ undefined = sym led ∙ none in
      cc,
  λ is.
      let none : walked s outcome items ≡ misplaced = ap (λ o. walked s o items) is ∙ walked-misplaced Rows Area Found s items in
      let clash : ended proof_cap ≡ misplaced = sym led ∙ none in
      cc,
)

-- ---- no defect, so fine

going-fine : (s : RowSteps) (program : Program) (stage : Stage RowPick) (item : RowItem) → ((kind : ℕ) → ¬ HasDefect s program (going stage) item kind) → IsFine program item
going-fine s program stage Node none = tt
going-fine s program stage (Cut cut) none = tt
going-fine s program stage (FoundItem found) none = none
going-fine s program stage Empty none = tt
going-fine s program stage (Dual cert) none = tt
going-fine s program stage Point none = tt
going-fine s program stage (Pending cert) none = tt
going-fine s program stage (Split pick cert) none = tt

one-fine : (s : RowSteps) (program : Program) (outcome : Outcome RowPick) (item : RowItem) → ((kind : ℕ) → ¬ HasDefect s program outcome item kind) → after s outcome item ≢ undefined → after s outcome item ≢ misplaced → IsFine program item
one-fine s program (going stage) item none leads placed = going-fine s program stage item none
one-fine s program (ended proof_cap) item none leads placed = absurd (placed refl)
one-fine s program undefined item none leads placed = absurd (leads refl)
one-fine s program misplaced item none leads placed = absurd (placed refl)

-- items without a defect that lead to a cap are fine
pub items-fine : (s : RowSteps) (program : Program) (outcome : Outcome RowPick) (items : List RowItem) (proof_cap : Capped) → HaveNone s program outcome items → walked s outcome items ≡ ended proof_cap → All (IsFine program) items
items-fine s program outcome [] proof_cap none led = All-nil (IsFine program)
items-fine s program outcome (item ∷ items) proof_cap none led =
    let on = lost s (after s outcome item) items proof_cap led in
    All-cons (IsFine program) item items (one-fine s program outcome item none.0 on.0 on.1) (items-fine s program (after s outcome item) items proof_cap none.1 led)

-- ---- fine, so no defect

-- a bare domain has no value
no_value : (domains : List Domain) → list_any is_bare domains ≡ true → list_all (λ (d : Domain). ltb 0 (count_of d)) domains ≡ true → ⊥
no_value domains bare opened =
    let any = Any-from_list_any is_bare domains bare in
    let pass = AllPass-from_list_all (λ (d : Domain). ltb 0 (count_of d)) domains opened any.0 any.1 any.2 in
    let more : 0 < count_of any.1 = ltb-true 0 (count_of any.1) (subst (λ (d : Domain). ltb 0 (count_of d) ≡ true) any.3 pass) in
    let none : count_of any.1 ≡ 0 = eqb-true (count_of any.1) 0 any.4 in
    omega (arith, more, none)

-- a certificate that gives a cap stands over domains of which none is empty
cap_filled : (program : Program) (v : View) (cert : Cert) → (row_steps program).cap v cert ≢ Bad → (row_steps program).empty v ≡ false
unfolding row_steps
cap_filled program v cert real = false_from_ne_true (list_any is_bare (domains_of v)) (λ bare. real (no_cap bare))
  where
    without : (fit opened : Bool) → opened ≡ false → scaled_cap cert.scale (if (fit && opened) then Some (total_of program (domains_of v) cert) else None) ≡ Bad
    without true true is = absurd (false≢true (sym is))
    without true false is = refl
    without false opened is = refl

    no_cap : list_any is_bare (domains_of v) ≡ true → cert_cap program (domains_of v) cert ≡ Bad
    no_cap bare =
        without (is_fit (length program.rows) cert) (list_all (λ (d : Domain). ltb 0 (count_of d)) (domains_of v))
        (false_from_ne_true (list_all (λ (d : Domain). ltb 0 (count_of d)) (domains_of v)) (λ opened. no_value (domains_of v) bare opened))

-- a part without a cap leads nowhere
part_real : (rows : Rows) (splits : List (Opened RowPick)) (proof_cap : Capped) → part_ended (steps_of rows) splits proof_cap ≢ undefined → proof_cap ≢ Bad
part_real rows splits proof_cap leads is = leads (rw is refl)

-- a fine item that leads somewhere has no defect
taken_sound : (rows : Rows) (splits : List (Opened RowPick)) (v : View) (item : RowItem) → IsFine (choices_of rows) item → come_to (steps_of rows) splits v item ≢ undefined → (kind : ℕ) → ¬ ItemDefect (steps_of rows) (choices_of rows) v item kind
taken_sound rows splits v Node fine leads = λ kind has. has
taken_sound rows splits v (Cut cut) fine leads = λ kind has. has
taken_sound rows splits v (FoundItem found) fine leads = fine
taken_sound rows splits v Empty fine leads = leads_on (steps_of rows) (choices_of rows) splits v Empty tt leads
taken_sound rows splits v (Dual cert) fine leads =
    leads_on (steps_of rows) (choices_of rows) splits v (Dual cert) (cap_filled rows.program v cert (part_real rows splits ((steps_of rows).cap v cert) leads)) leads
taken_sound rows splits v Point fine leads = leads_on (steps_of rows) (choices_of rows) splits v Point tt leads
taken_sound rows splits v (Pending cert) fine leads =
    leads_on (steps_of rows) (choices_of rows) splits v (Pending cert) (cap_filled rows.program v cert (part_real rows splits ((steps_of rows).cap v cert) leads)) leads
taken_sound rows splits v (Split pick cert) fine leads = λ kind has. has

step_sound : (rows : Rows) (stage : Stage RowPick) (item : RowItem) (may : Bool) → IsFine (choices_of rows) item
    → (if may then come_to (steps_of rows) stage.splits stage.view item else misplaced) ≢ undefined → (if may then come_to (steps_of rows) stage.splits stage.view item else misplaced) ≢ misplaced
    → (kind : ℕ) → ¬ HasDefect (steps_of rows) (choices_of rows) (going stage) item kind
step_sound rows stage item true fine leads placed = taken_sound rows stage.splits stage.view item fine leads
step_sound rows stage item false fine leads placed = absurd (placed refl)

one_sound : (rows : Rows) (outcome : Outcome RowPick) (item : RowItem) → IsFine (choices_of rows) item → after (steps_of rows) outcome item ≢ undefined → after (steps_of rows) outcome item ≢ misplaced → (kind : ℕ) → ¬ HasDefect (steps_of rows) (choices_of rows) outcome item kind
one_sound rows (going stage) item fine leads placed = step_sound rows stage item (may_come stage.expected item) fine leads placed
one_sound rows (ended proof_cap) item fine leads placed = λ kind has. has
one_sound rows undefined item fine leads placed = λ kind has. has
one_sound rows misplaced item fine leads placed = λ kind has. has

-- fine items that lead to a cap have no defect
pub items_sound : (rows : Rows) (outcome : Outcome RowPick) (items : List RowItem) (proof_cap : Capped) → All (IsFine (choices_of rows)) items → walked (steps_of rows) outcome items ≡ ended proof_cap → HaveNone (steps_of rows) (choices_of rows) outcome items
items_sound rows outcome [] proof_cap fine led = tt
items_sound rows outcome (item ∷ items) proof_cap fine led =
    let on = lost (steps_of rows) (after (steps_of rows) outcome item) items proof_cap led in (
      one_sound rows outcome item (All-head (IsFine (choices_of rows)) item items fine) on.0 on.1,
      items_sound rows (after (steps_of rows) outcome item) items proof_cap (All-tail (IsFine (choices_of rows)) item items fine) led,
    )

-- ---- caps and claims

-- a cap that is defined is what items end with
pub real_outcome : (proof_cap : Capped) → proof_cap ≢ Bad → outcome_of {P = RowPick} proof_cap ≡ ended proof_cap
real_outcome Bad real = absurd (real refl)
real_outcome NoPoint real = refl
real_outcome (AtMost n) real = refl

-- a point without a defect has none under a cap that is not above its most
pub no_capped : (program : Program) (proof_cap : Capped) (value most : ℤ) (point : List ℕ) → IsFinePoint program value point → ¬ AllowsMore proof_cap most → (kind : ℕ) → ¬ CappedDefect program proof_cap value most point kind
no_capped program proof_cap value most point fine not kind = ⊎_elim (fine kind) (λ x. not x.2)

-- a sound claim has no defect
pub claim_sound : (program : Program) (proof_cap : Capped) (claim : Claim) → IsSoundClaim program proof_cap claim → (kind : ℕ) → ¬ ClaimDefect program proof_cap claim kind
claim_sound program proof_cap (Optimal profit point) sound kind = no_capped program proof_cap profit profit point (worth-sound program profit point sound.0) sound.1 kind
claim_sound program proof_cap Infeasible sound kind = λ x. sound x.1
claim_sound program proof_cap (Between profit most point) sound kind = no_capped program proof_cap profit most point (worth-sound program profit point sound.0) sound.1 kind
claim_sound program proof_cap (Below most) sound kind = λ x. sound x.1
