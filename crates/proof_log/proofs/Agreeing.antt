-- Where a line leads agrees with what it makes of a group, and where an item leads with where the walk stands.
use Rattle.std.proofs.Common.{◌≡◌, inl, inr, ⊎_elim, ℕ, ℤ, ◌+◌, ◌-◌, ◌==◌, nat_le, nat_lt, ◌<◌, ◌≤◌, Bool, true, false, List, [], ◌∷◌, ◌++◌, length, Option, Some, None, is_some, IsTrue, if◌then◌else◌, refl, ap, sym, subst, arith}
use Rattle.std.specs.Prelude.{⊤, ◌^◌}
use Rattle.std.proofs.lemmas.Bool.Decides.{nat_tests}
use Rattle.proof_tree.specs.declared.capped.Capped.{Capped}
use Rattle.proof_tree.specs.declared.capped.Capped.TheVariants.{NoPoint}
use Rattle.proof_tree.specs.declared.item.Item.TheVariants.{Node, Cut, Found as FoundItem, Empty, Dual as DualItem, Point, Pending as PendingItem, Split as SplitItem}
use Rattle.proof_tree.specs.declared.walk.Expected.{Expected}
use Rattle.proof_tree.specs.declared.walk.Expected.TheVariants.{Inside as ExpectInside, End as ExpectEnd}
use Rattle.proof_tree.specs.Cap.{greater}
use Rattle.proof_tree.specs.Form.{any_steps}
use Rattle.proof_tree.specs.Views.{View}
use Rattle.proof_tree.specs.Walk.{Opened, may_come, close, close_split, come_to, step}
use Rattle.row_relax.specs.declared.pick.RowPick.{RowPick}
use Rattle.dual_bound.specs.declared.cert.Mult.{Mult}
use Rattle.row_relax.specs.RowProofs.{RowItem}
use Rattle.log_lines.specs.declared.line.Line.{Line}
use Rattle.log_lines.specs.declared.line.Line.TheVariants.{Header, Node as NodeLine, Cut as CutLine, Found as FoundLine, Value as ValueLine, Empty as EmptyLine, Point as PointLine, Dual as DualLine, Pending as PendingLine, Floor as FloorLine, Split as SplitLine, Mult as MultLine, ClaimOptimal, ClaimInfeasible, ClaimBetween, ClaimBelow, End as EndLine}
use Rattle.log_lines.specs.declared.grammar.Limits.{Limits}
use Rattle.log_lines.specs.declared.grammar.Place.{Place}
use Rattle.log_lines.specs.declared.grammar.Place.TheVariants.{Header as AtHeader, Node as AtNode, Inside, Ending, Floored, Values as AtValues, Mults as AtMults, Claim as AtClaim, End, Done}
use Rattle.log_lines.specs.declared.step.Step.{Step}
use Rattle.log_lines.specs.declared.step.Step.TheVariants.{At, Opens, Ends}
use Rattle.log_lines.specs.Line.{IsInRange}
use Rattle.std.proofs.lemmas.Grind.{common_steps}
use Rattle.std.proofs.lemmas.List.{length-replicate}
use Rattle.log_lines.specs.Grammar.{split_step, Standing, after_part, part_place, values_step, mults_step, follows, ending_step, inside_step, claim_step, step_of, after_step, first_kind, over_at}
use Rattle.proof_log.specs.declared.group.ValueHead.{ValueHead}
use Rattle.proof_log.specs.declared.group.ValueHead.TheVariants.{Found, Optimal, Between}
use Rattle.proof_log.specs.declared.group.MultHead.{MultHead}
use Rattle.proof_log.specs.declared.group.MultHead.TheVariants.{Dual, Pending, Split}
use Rattle.proof_log.specs.declared.group.Group.{Group}
use Rattle.proof_log.specs.declared.group.Group.TheVariants.{Nothing, Floor, Values, Mults}
use Rattle.proof_log.specs.declared.group.Grown.TheVariants.{More, Whole}
use Rattle.proof_log.specs.declared.group.Grown.{Grown}
use Rattle.proof_log.specs.declared.group.Piece.TheVariants.{Item, Claim as ClaimPiece}
use Rattle.proof_log.specs.Agree.{is_claim, is_split, IsHeadIn, GroupAgrees, least_after, PlaceExpects, IsPastProof, lefts, FormAgrees, IsBody}
use Rattle.proof_log.specs.Gathered.{IsThere}
use Rattle.proof_log.specs.Gathering.{padded, value_piece, mult_piece, grown_values, grown_mults, begun, floored, followed, MayBegin, MaySplit, MayValue, MayMult, MayFollow}
use Rattle.range_prop.specs.declared.row_cut.RowCut.{RowCut}
use Rattle.dual_bound.specs.declared.cert.Cert.{Cert}

-- after the header, and before a claim is made
abbrev pub IsMiddle : Place → Type 0
IsMiddle AtHeader = ⊥
IsMiddle End = ⊥
IsMiddle Done = ⊥
IsMiddle _ = ⊤

-- an item may be made whole at a place: it may come where the form stands there
pub record ItemAt (place : Place) (item : RowItem) : Type 0 where
  pub middle : IsMiddle place
  pub no_claim : ¬ IsPastProof place
  pub comes : (expected : Expected) → PlaceExpects place expected → IsTrue (may_come expected item)

-- a claim may be made whole at a place: no item is expected there
pub record ClaimAt (place : Place) : Type 0 where
  pub middle : IsMiddle place
  pub no_item : (expected : Expected) → ¬ PlaceExpects place expected

-- the form that stands at a place stands at a later one
pub record StandsAt (place later : Place) : Type 0 where
  pub expects : (expected : Expected) → PlaceExpects place expected → PlaceExpects later expected
  pub past : IsPastProof place → IsPastProof later

-- a group goes on from a place to a later one
pub record StaysAt (place later : Place) : Type 0 where
  pub middle : IsMiddle place
  pub middle_later : IsMiddle later
  pub stands : StandsAt place later

-- where an item leads
abbrev pub item_step : RowItem → Step
item_step Node = At Inside
item_step (Cut cut) = At Inside
item_step (FoundItem found) = At Ending
item_step Empty = Ends
item_step (DualItem cert) = Ends
item_step Point = Ends
item_step (PendingItem cert) = Ends
item_step (SplitItem pick cert) = Opens

-- what a line has made of a group agrees with where it leads from a place
abbrev pub GrownAgrees : Limits → Place → Grown → Step → Type 0
GrownAgrees limits place (More group) (At later) = GroupAgrees limits later group × StaysAt place later
GrownAgrees limits place (More group) _ = ⊥
GrownAgrees limits place (Whole (Item item)) step = ItemAt place item × IsThere limits item × (step ≡ item_step item)
GrownAgrees limits place (Whole (ClaimPiece claim)) step = ClaimAt place × (step ≡ At End)

-- what may be made whole at each place: an item of a node, of its ending, behind a floor, with multipliers or with values, or a claim
inside_item : (item : RowItem) → IsTrue (may_come ExpectInside item) → ItemAt Inside item
inside_item item may = record { middle = tt; no_claim = λ past. past; comes = λ expected is. rw is may }

ending_item : (item : RowItem) → IsTrue (may_come ExpectEnd item) → ItemAt Ending item
ending_item item may = record { middle = tt; no_claim = λ past. past; comes = λ expected is. rw is may }

floored_item : (pick : RowPick) (cert : Cert) → ItemAt Floored (SplitItem pick cert)
floored_item pick cert = record { middle = tt; no_claim = λ past. past; comes = λ expected. ⊎_elim (λ is. rw is refl) (λ is. rw is refl) }

mults_item : (left : ℕ) (above : Option ℕ) (split : Bool) (item : RowItem) → IsTrue (may_come ExpectInside item) → IsTrue (may_come ExpectEnd item) → ItemAt (AtMults left above split) item
mults_item left above split item inside end = record { middle = tt; no_claim = λ past. past; comes = λ expected. ⊎_elim (λ is. rw is inside) (λ is. rw is end) }

values_item : (left : ℕ) (above : Option ℕ) (claim : Bool) (found : _) → claim ≡ false → ItemAt (AtValues left above claim) (FoundItem found)
values_item left above claim found none = record { middle = tt; no_claim = λ past. cc; comes = λ expected is. rw is.1 refl }

values_claim : (left : ℕ) (above : Option ℕ) (claim : Bool) → claim ≡ true → ClaimAt (AtValues left above claim)
values_claim left above claim some = record { middle = tt; no_item = λ expected is. let none = is.0 in cc }

-- the values of a claim
claim_values : (left : ℕ) (above : Option ℕ) → StaysAt AtClaim (AtValues left above true)
claim_values left above = record { middle = tt; middle_later = tt; stands = record { expects = λ expected is. absurd is; past = λ past. refl } }

claim_claim : ClaimAt AtClaim
claim_claim = record { middle = tt; no_item = λ expected is. is }

-- a test that finds nothing has not held
passed : (test : Bool) (kind : ℕ) (tests : List (Bool × ℕ)) → first_kind ((test, kind) ∷ tests) ≡ None → (test ≡ false) × (first_kind tests ≡ None)
passed true kind tests is = cc
passed false kind tests is = (refl, is)

some_same : (a b : Step) → Some a ≡ Some b → a ≡ b
some_same a b is = cc

where_true : (test : Bool) (next step : Step) → ◌≡◌ {A = Option Step} (if test then Some next else None) (Some step) → (test ≡ true) × (next ≡ step)
where_true true next step is = (refl, some_same next step is)
where_true false next step is = cc

not_at_least : (a b : ℕ) → nat_le a b ≡ false → b < a
not_at_least a b is = grind (arith, nat_tests)

not_below : (a b : ℕ) → nat_lt a b ≡ false → b ≤ a
not_below a b is = grind (arith, nat_tests)

below : (a b : ℕ) → nat_lt a b ≡ true → a < b
below a b is = grind (arith, nat_tests)

follows-least : (above : Option ℕ) (number : ℕ) → follows above number ≡ true → least_after above ≤ number
follows-least None number is = omega arith
follows-least (Some last) number is = let h : last < number = below last number is in omega arith

not_zero : (a : ℕ) → (a == 0) ≡ false → 0 < a
not_zero a is = grind (arith, nat_tests)

-- a group of values agrees with what is left of it
values_agree : (limits : Limits) (place : Place) (head : ValueHead) (left : ℕ) (above : Option ℕ) (claim : Bool) (point : List ℕ) → is_claim head ≡ claim → length point ≡ least_after above → ((n : ℕ) (m : Option ℕ) → StaysAt place (AtValues n m claim)) → GrownAgrees limits place (Whole (value_piece head (padded limits.points point))) (At (if claim then End else Ending)) → GrownAgrees limits place (grown_values limits.points head left point) (values_step left above claim)
values_agree limits place head left above claim point is_head long stays whole = at (left == 0) refl
  where
    at : (none : Bool) → (left == 0) ≡ none → GrownAgrees limits place (if none then Whole (value_piece head (padded limits.points point)) else More (Values head left point)) (At (if none then (if claim then End else Ending) else AtValues left above claim))
    at true is = whole
    at false is = ((not_zero left is, refl, long, is_head), stays left above)

-- and so does one of multipliers
mults_agree : (limits : Limits) (place : Place) (head : MultHead) (left : ℕ) (above : Option ℕ) (split : Bool) (mults : List Mult) → is_split head ≡ split → IsHeadIn limits head → ((n : ℕ) (m : Option ℕ) → StaysAt place (AtMults n m split)) → GrownAgrees limits place (Whole (mult_piece head mults)) (if split then Opens else Ends) → GrownAgrees limits place (grown_mults head left mults) (mults_step left above split)
mults_agree limits place head left above split mults is_head inside stays whole = at (left == 0) refl
  where
    at : (none : Bool) → (left == 0) ≡ none → GrownAgrees limits place (if none then Whole (mult_piece head mults) else More (Mults head left mults)) (if none then (if split then Opens else Ends) else At (AtMults left above split))
    at true is = whole
    at false is = ((not_zero left is, refl, is_head, inside), stays left above)

-- a line that may come begins a group or is whole, and agrees with where it leads
abbrev Begins_at : Limits → Place → Line → Step → Type 0
Begins_at limits place line step = MayBegin line × GrownAgrees limits place (begun limits.points line) step

module _ (limits : Limits) (few_rows : limits.rows < 2 ^ 32) (few_slots : limits.slots < 2 ^ 32) where
  -- a certificate keeps its limits, and leads to its multipliers
  cert_agrees : (place : Place) (head : MultHead) (scale count : ℕ) (split : Bool) (step : Step) → is_split head ≡ split → IsHeadIn limits head → ((n : ℕ) (m : Option ℕ) → StaysAt place (AtMults n m split)) → GrownAgrees limits place (Whole (mult_piece head [])) (if split then Opens else Ends) → mults_step count None split ≡ step → first_kind ((nat_lt 1048576 scale, 7) ∷ (nat_lt 50000 count, 8) ∷ []) ≡ None → (scale < 2 ^ 32) × GrownAgrees limits place (grown_mults head count []) step
  cert_agrees place head scale count split step is_head inside stays whole is tests =
      let first = passed (nat_lt 1048576 scale) 7 ((nat_lt 50000 count, 8) ∷ []) tests in
      let small : scale ≤ 1048576 = not_below 1048576 scale first.0 in
      (omega arith, subst (GrownAgrees limits place (grown_mults head count [])) is (mults_agree limits place head count None split [] is_head inside stays whole))

  -- the line of a split
  split_begins : (place : Place) → ((pick : RowPick) (cert : Cert) → ItemAt place (SplitItem pick cert)) → ((n : ℕ) (m : Option ℕ) → StaysAt place (AtMults n m true)) → (opened : ℕ) (floor : Option ℤ) (line : Line) (step : Step) → split_step line ≡ Some step → over_at limits opened line ≡ None → MaySplit line × GrownAgrees limits place (floored floor line) step
  split_begins place comes stays opened floor (SplitLine slot max scale count) step is tests =
      let test = passed (nat_le limits.slots slot) 5 ((nat_lt 1048576 scale, 7) ∷ (nat_lt 50000 count, 8) ∷ []) tests in
      let inside : slot < limits.slots = not_at_least limits.slots slot test.0 in
      let pick : RowPick = record { slot = slot; max = max; floor = floor } in
      let rest = cert_agrees place (Split pick scale) scale count true step refl inside stays (comes pick (record { scale = scale; mults = [] }), inside, refl) (some_same (mults_step count None true) step is) test.1 in
      ((omega arith, rest.0), rest.1)
  split_begins place comes stays opened floor _ step is tests = cc

  module _ (place : Place) (ends : (item : RowItem) → IsTrue (may_come ExpectEnd item) → ItemAt place item) (stays : (n : ℕ) (m : Option ℕ) (split : Bool) → StaysAt place (AtMults n m split)) (stays_floored : StaysAt place Floored) where
    ending_begins : (version opened : ℕ) (line : Line) (step : Step) → ending_step version line ≡ Some step → over_at limits opened line ≡ None → Begins_at limits place line step
    ending_begins version opened EmptyLine step is tests = (tt, (ends Empty refl, tt, sym (some_same Ends step is)))
    ending_begins version opened PointLine step is tests =
        let test = where_true (nat_le 2 version) Ends step is in
        (tt, (ends Point refl, tt, sym test.1))
    ending_begins version opened (DualLine scale count) step is tests = cert_agrees place (Dual scale) scale count false step refl tt (λ n m. stays n m false) (ends (DualItem (record { scale = scale; mults = [] })) refl, tt, refl) (some_same (mults_step count None false) step is) tests
    ending_begins version opened (PendingLine scale count) step is tests = cert_agrees place (Pending scale) scale count false step refl tt (λ n m. stays n m false) (ends (PendingItem (record { scale = scale; mults = [] })) refl, tt, refl) (some_same (mults_step count None false) step is) tests
    ending_begins version opened (FloorLine profit) step is tests =
        let test = where_true (version == 4) (At Floored) step is in
        (tt, subst (GrownAgrees limits place (More (Floor profit))) test.1 (tt, stays_floored))
    ending_begins version opened (SplitLine slot max scale count) step is tests = split_begins place (λ pick cert. ends (SplitItem pick cert) refl) (λ n m. stays n m true) opened None (SplitLine slot max scale count) step is tests
    ending_begins version opened _ step is tests = cc

  inside_begins : (version opened : ℕ) (line : Line) (step : Step) → inside_step version line ≡ Some step → over_at limits opened line ≡ None → Begins_at limits Inside line step
  inside_begins version opened (CutLine row slot) step is tests =
      let first = passed (nat_le limits.rows row) 4 ((nat_le limits.slots slot, 5) ∷ []) tests in
      let second = passed (nat_le limits.slots slot) 5 [] first.1 in
      let row_in : row < limits.rows = not_at_least limits.rows row first.0 in
      let slot_in : slot < limits.slots = not_at_least limits.slots slot second.0 in
      ((omega arith, omega arith), (inside_item (Cut (record { row = row; slot = slot })) refl, (row_in, slot_in), sym (some_same (At Inside) step is)))
  inside_begins version opened (FoundLine value count) step is tests =
      (tt, subst (GrownAgrees limits Inside (grown_values limits.points (Found value) count [])) (some_same (values_step count None false) step is) (values_agree limits Inside (Found value) count None false [] refl refl (λ n m. record { middle = tt; middle_later = tt; stands = record { expects = λ expected is. (refl, is); past = λ past. absurd past } }) (inside_item (FoundItem (record { value = value; point = padded limits.points [] })) refl, tt, refl)))
  inside_begins version opened line step is tests = ending_begins Inside ends stays (record { middle = tt; middle_later = tt; stands = record { expects = λ expected is. inl is; past = λ past. absurd past } }) version opened line step is tests
    where
      ends : (item : RowItem) → IsTrue (may_come ExpectEnd item) → ItemAt Inside item
      ends Node may = inside_item Node may
      ends item may = inside_item item refl

      stays : (n : ℕ) (m : Option ℕ) (split : Bool) → StaysAt Inside (AtMults n m split)
      stays n m split = record { middle = tt; middle_later = tt; stands = record { expects = λ expected is. inl is; past = λ past. absurd past } }

  claim_begins : (line : Line) (step : Step) → claim_step line ≡ Some step → Begins_at limits AtClaim line step
  claim_begins (ClaimOptimal profit count) step is =
      (tt, subst (GrownAgrees limits AtClaim (grown_values limits.points (Optimal profit) count [])) (some_same (values_step count None true) step is) (values_agree limits AtClaim (Optimal profit) count None true [] refl refl claim_values (claim_claim, refl)))
  claim_begins ClaimInfeasible step is = (tt, (claim_claim, sym (some_same (At End) step is)))
  claim_begins (ClaimBetween profit most count) step is =
      (tt, subst (GrownAgrees limits AtClaim (grown_values limits.points (Between profit most) count [])) (some_same (values_step count None true) step is) (values_agree limits AtClaim (Between profit most) count None true [] refl refl claim_values (claim_claim, refl)))
  claim_begins (ClaimBelow most) step is = (tt, (claim_claim, sym (some_same (At End) step is)))
  claim_begins _ step is = cc

  node_begins : (version : ℕ) (line : Line) (step : Step) → step_of version AtNode line ≡ Some step → Begins_at limits AtNode line step
  node_begins version NodeLine step is = (tt, (record { middle = tt; no_claim = λ past. past; comes = λ expected is. rw is refl }, tt, sym (some_same (At Inside) step is)))
  node_begins version _ step is = cc

  values_follow : (left remaining slot quanta opened : ℕ) (above : Option ℕ) (claim : Bool) (head : ValueHead) (point : List ℕ) (step : Step) → 0 < quanta → 0 < left → remaining ≡ left → length point ≡ least_after above → is_claim head ≡ claim
      → ◌≡◌ {A = Option Step} (if follows above slot then Some (values_step (left - 1) (Some slot) claim) else None) (Some step) → over_at limits opened (ValueLine slot quanta) ≡ None
      → MayValue limits.points remaining point (ValueLine slot quanta) × GrownAgrees limits (AtValues left above claim) (grown_values limits.points head (remaining - 1) (padded slot point ++ quanta ∷ [])) step
  values_follow left remaining slot quanta opened above claim head point step some more same long is_head is tests =
      let first = where_true (follows above slot) (values_step (left - 1) (Some slot) claim) step is in
      let second = passed (nat_le limits.points slot) 5 [] tests in
      let least : least_after above ≤ slot = follows-least above slot first.0 in
      let inside : slot < limits.points = not_at_least limits.points slot second.0 in
      let later = padded slot point ++ quanta ∷ [] in
      let grown : length later ≡ slot + 1 = grind (arith, common_steps, length-replicate) in
      let agree = values_agree limits (AtValues left above claim) head (left - 1) (Some slot) claim later is_head grown (λ n m. record { middle = tt; middle_later = tt; stands = record { expects = λ expected is. is; past = λ past. past } }) (whole head is_head) in
      ((omega arith, (omega arith), (omega arith), some), rw same (subst (GrownAgrees limits (AtValues left above claim) (grown_values limits.points head (left - 1) later)) first.1 agree))
    where
      whole : (head : ValueHead) → is_claim head ≡ claim → GrownAgrees limits (AtValues left above claim) (Whole (value_piece head (padded limits.points (padded slot point ++ quanta ∷ [])))) (At (if claim then End else Ending))
      whole (Found value) is = (values_item left above claim (record { value = value; point = padded limits.points (padded slot point ++ quanta ∷ []) }) (sym is), tt, rw (← is) refl)
      whole (Optimal profit) is = (values_claim left above claim (sym is), rw (← is) refl)
      whole (Between profit most) is = (values_claim left above claim (sym is), rw (← is) refl)

  mults_follow : (left remaining row factor opened : ℕ) (above : Option ℕ) (split : Bool) (head : MultHead) (mults : List Mult) (step : Step) → 0 < left → remaining ≡ left → is_split head ≡ split → IsHeadIn limits head
      → ◌≡◌ {A = Option Step} (if follows above row then Some (mults_step (left - 1) (Some row) split) else None) (Some step) → over_at limits opened (MultLine row factor) ≡ None
      → MayMult remaining (MultLine row factor) × GrownAgrees limits (AtMults left above split) (grown_mults head (remaining - 1) (mults ++ (record { row = row; factor = factor }) ∷ [])) step
  mults_follow left remaining row factor opened above split head mults step more same is_head inside is tests =
      let first = where_true (follows above row) (mults_step (left - 1) (Some row) split) step is in
      let second = passed (nat_le limits.rows row) 4 ((nat_lt 1099511627776 factor, 6) ∷ []) tests in
      let third = passed (nat_lt 1099511627776 factor) 6 [] second.1 in
      let row_in : row < limits.rows = not_at_least limits.rows row second.0 in
      let small : factor ≤ 1099511627776 = not_below 1099511627776 factor third.0 in
      let later = mults ++ (record { row = row; factor = factor }) ∷ [] in
      let agree = mults_agree limits (AtMults left above split) head (left - 1) (Some row) split later is_head inside (λ n m. record { middle = tt; middle_later = tt; stands = record { expects = λ expected is. is; past = λ past. past } }) (whole head is_head inside) in
      ((omega arith, (omega arith), (omega arith)), rw same (subst (GrownAgrees limits (AtMults left above split) (grown_mults head (left - 1) later)) first.1 agree))
    where
      whole : (head : MultHead) → is_split head ≡ split → IsHeadIn limits head → GrownAgrees limits (AtMults left above split) (Whole (mult_piece head (mults ++ (record { row = row; factor = factor }) ∷ []))) (if split then Opens else Ends)
      whole (Dual scale) is inside = (mults_item left above split (DualItem (record { scale = scale; mults = mults ++ (record { row = row; factor = factor }) ∷ [] })) refl refl, tt, rw (← is) refl)
      whole (Pending scale) is inside = (mults_item left above split (PendingItem (record { scale = scale; mults = mults ++ (record { row = row; factor = factor }) ∷ [] })) refl refl, tt, rw (← is) refl)
      whole (Split pick scale) is inside = (mults_item left above split (SplitItem pick (record { scale = scale; mults = mults ++ (record { row = row; factor = factor }) ∷ [] })) refl refl, inside, rw (← is) refl)

  -- a line that may come, other than the header and the end, may follow the group, and what it makes of it agrees with where it leads
  Follows : Place → Group → Line → Step → Type 0
  Follows place group line step = MayFollow limits.points group line × GrownAgrees limits place (followed limits.points group line) step

  values_lines : (version left remaining opened : ℕ) (above : Option ℕ) (claim : Bool) (head : ValueHead) (point : List ℕ) (line : Line) (step : Step) → IsInRange line → 0 < left → remaining ≡ left → length point ≡ least_after above → is_claim head ≡ claim → step_of version (AtValues left above claim) line ≡ Some step → over_at limits opened line ≡ None → Follows (AtValues left above claim) (Values head remaining point) line step
  unfolding Follows
  values_lines version left remaining opened above claim head point (ValueLine slot quanta) step range more same long is_head is tests = values_follow left remaining slot quanta opened above claim head point step range.0 more same long is_head is tests
  values_lines version left remaining opened above claim head point _ step range more same long is_head is tests = cc

  mults_lines : (version left remaining opened : ℕ) (above : Option ℕ) (split : Bool) (head : MultHead) (mults : List Mult) (line : Line) (step : Step) → 0 < left → remaining ≡ left → is_split head ≡ split → IsHeadIn limits head → step_of version (AtMults left above split) line ≡ Some step → over_at limits opened line ≡ None → Follows (AtMults left above split) (Mults head remaining mults) line step
  unfolding Follows
  mults_lines version left remaining opened above split head mults (MultLine row factor) step more same is_head inside is tests = mults_follow left remaining row factor opened above split head mults step more same is_head inside is tests
  mults_lines version left remaining opened above split head mults _ step more same is_head inside is tests = cc

  header_only : (version : ℕ) (line : Line) (step : Step) → step_of version AtHeader line ≡ Some step → IsBody line → ⊥
  header_only version (Header own) step is body = body
  header_only version _ step is body = cc

  end_only : (version : ℕ) (line : Line) (step : Step) → step_of version End line ≡ Some step → IsBody line → ⊥
  end_only version EndLine step is body = body
  end_only version _ step is body = cc

  -- by places and groups
  pub line_follows : (version opened : ℕ) (place : Place) (group : Group) (line : Line) (step : Step) → IsInRange line → IsBody line → GroupAgrees limits place group → step_of version place line ≡ Some step → over_at limits opened line ≡ None → MayFollow limits.points group line × GrownAgrees limits place (followed limits.points group line) step
  unfolding Follows
  line_follows version opened AtHeader Nothing line step range body agree is tests = absurd (header_only version line step is body)
  line_follows version opened AtNode Nothing line step range body agree is tests = node_begins version line step is
  line_follows version opened Inside Nothing line step range body agree is tests = inside_begins version opened line step is tests
  line_follows version opened Floored (Floor profit) line step range body agree is tests = split_begins Floored floored_item (λ n m. record { middle = tt; middle_later = tt; stands = record { expects = λ expected is. is; past = λ past. absurd past } }) opened (Some profit) line step is tests
  line_follows version opened Ending Nothing line step range body agree is tests = ending_begins Ending ending_item (λ n m split. record { middle = tt; middle_later = tt; stands = record { expects = λ expected is. inr is; past = λ past. absurd past } }) (record { middle = tt; middle_later = tt; stands = record { expects = λ expected is. inr is; past = λ past. absurd past } }) version opened line step is tests
  line_follows version opened (AtValues left above claim) (Values head remaining point) line step range body agree is tests = values_lines version left remaining opened above claim head point line step range agree.0 agree.1 agree.2 agree.3 is tests
  line_follows version opened (AtMults left above split) (Mults head remaining mults) line step range body agree is tests = mults_lines version left remaining opened above split head mults line step agree.0 agree.1 agree.2 agree.3 is tests
  line_follows version opened AtClaim Nothing line step range body agree is tests = claim_begins line step is
  line_follows version opened End Nothing line step range body agree is tests = absurd (end_only version line step is body)
  line_follows version opened Done Nothing line step range body agree is tests = cc
  line_follows version opened _ _ line step range body agree is tests = absurd agree

-- after a node that has ended
abbrev after_node : ℕ → List Bool → Standing
after_node version sides = record { version = version; place = part_place (after_part sides); sides = after_part sides }

-- where a part ends the form stands where a node's end leads
close_agrees : (version : ℕ) (splits : List (Opened RowPick)) (part_cap : Capped) → FormAgrees (after_node version (lefts splits)) (close (any_steps {U = RowCut} {C = Cert}) splits part_cap)
close_agrees version [] part_cap = tt
close_agrees version (split ∷ splits) part_cap = at split.left (close_agrees version splits)
  where
    at : (left : Option Capped) → ((c : Capped) → FormAgrees (after_node version (lefts splits)) (close (any_steps {U = RowCut} {C = Cert}) splits c))
        → FormAgrees (after_node version (is_some left ∷ lefts splits)) (close_split (any_steps {U = RowCut} {C = Cert}) split splits part_cap left (close (any_steps {U = RowCut} {C = Cert}) splits))
    at None rest = record { expects = refl; splits = refl }
    at (Some first) rest = rest (greater first part_cap)

part_agrees : (standing : Standing) (splits : List (Opened RowPick)) → lefts splits ≡ standing.sides → FormAgrees (after_step standing Ends) (close (any_steps {U = RowCut} {C = Cert}) splits NoPoint)
part_agrees standing splits same = subst (λ l. FormAgrees (after_node standing.version l) (close (any_steps {U = RowCut} {C = Cert}) splits NoPoint)) same (close_agrees standing.version splits NoPoint)

-- where an item leads the form stands where it leads the lines
pub taken_agrees : (standing : Standing) (splits : List (Opened RowPick)) (v : View) (item : RowItem) → lefts splits ≡ standing.sides → FormAgrees (after_step standing (item_step item)) (come_to any_steps splits v item)
taken_agrees standing splits v Node same = record { expects = refl; splits = same }
taken_agrees standing splits v (Cut cut) same = record { expects = refl; splits = same }
taken_agrees standing splits v (FoundItem found) same = record { expects = refl; splits = same }
taken_agrees standing splits v Empty same = part_agrees standing splits same
taken_agrees standing splits v (DualItem cert) same = part_agrees standing splits same
taken_agrees standing splits v Point same = part_agrees standing splits same
taken_agrees standing splits v (PendingItem cert) same = part_agrees standing splits same
taken_agrees standing splits v (SplitItem pick cert) same = record { expects = refl; splits = ap (λ l. false ∷ l) same }
