-- The lines of a part's proof lead through the grammar of a longer log, of a version that has such lines, as they lead through that of their own.
use Rattle.std.proofs.Common.{◌≡◌, ◌≢◌, ℕ, ℤ, ◌+◌, ◌-◌, ◌≤◌, ◌⊎◌, Bool, true, false, eqb, leb, ltb, if◌then◌else◌, List, [], ◌∷◌, ◌++◌, length, map, flat_map, Option, None, Some, option_and_then, refl, sym, ap, ◌∙◌, subst, arith, inl, inr, ⊎_elim, length-append}
use Rattle.std.specs.Prelude.{⊤}
use Rattle.std.specs.List.{All}
use Rattle.std.specs.Option.{option_map, option_map_or}
use Rattle.std.proofs.lemmas.Bool.{eq-eqb, le-leb}
use Rattle.std.proofs.lemmas.Bool.Decides.{nat_tests}
use Rattle.std.proofs.lemmas.List.Elements.{All-nil, All-cons, All-append, All-head, All-tail, All-map}
use Rattle.dual_bound.specs.declared.cert.Mult.{Mult}
use Rattle.proof_tree.specs.declared.item.Item.TheVariants.{Node, Cut, Found as FoundItem, Empty, Dual, Point, Pending, Split}
use Rattle.proof_tree.specs.Items.{tree_items}
use Rattle.row_relax.specs.RowProofs.{RowItem, RowTree}
use Rattle.log_lines.specs.declared.line.Line.{Line}
use Rattle.log_lines.specs.declared.line.Line.TheVariants.{Header, Node as NodeLine, Cut as CutLine, Found as FoundLine, Value as ValueLine, Empty as EmptyLine, Point as PointLine, Dual as DualLine, Pending as PendingLine, Floor as FloorLine, Split as SplitLine, Mult as MultLine, ClaimOptimal, ClaimInfeasible, ClaimBetween, ClaimBelow, End as EndLine}
use Rattle.log_lines.specs.declared.grammar.Limits.{Limits}
use Rattle.log_lines.specs.declared.grammar.Place.{Place}
use Rattle.log_lines.specs.declared.grammar.Place.TheVariants.{Header as AtHeader, Node as AtNode, Inside, Ending, Floored, Values, Mults, Claim as AtClaim, End as AtEnd, Done}
use Rattle.log_lines.specs.declared.step.Step.{Step}
use Rattle.log_lines.specs.declared.step.Step.TheVariants.{Begins, At, Opens, Ends}
use Rattle.log_lines.specs.Grammar.{Standing, new_standing, values_step, mults_step, follows, claim_step, step_of, after_step, next, over_at, over, line_defect}
use Rattle.proof_log.specs.declared.claim.Claim.{Claim}
use Rattle.proof_log.specs.declared.claim.Claim.TheVariants.{Optimal, Infeasible, Between, Below}
use Rattle.proof_log.specs.Log.{floor_lines, started, value_line, value_lines, mult_line, item_lines, tree_lines, claim_lines, log_lines}
use Rattle.proof_log.specs.Accepted.{leads}
use Rattle.proof_log.proofs.GrammarWalk.{at, closed, on, on-step, leads-append, leads-cons}
use Rattle.proof_log.proofs.NoDefect.{leads_on}

-- ---- where lines of a proof lead

-- the places of a proof
abbrev IsInProof : Place → Type 0
IsInProof AtHeader = ⊥
IsInProof AtNode = ⊤
IsInProof Inside = ⊤
IsInProof Ending = ⊤
IsInProof Floored = ⊤
IsInProof (Values left above true) = ⊥
IsInProof (Values left above false) = ⊤
IsInProof (Mults left above splits) = ⊤
IsInProof AtClaim = ⊥
IsInProof AtEnd = ⊥
IsInProof Done = ⊥

-- the steps of a proof
abbrev StaysInProof : Step → Type 0
StaysInProof (Begins version) = ⊥
StaysInProof (At place) = IsInProof place
StaysInProof Opens = ⊤
StaysInProof Ends = ⊤

-- a line is no claim
abbrev IsNoClaim : Line → Type 0
IsNoClaim line = claim_step line ≡ None

-- a log of a newer version may have each line of a proof that one of a version may have: it has points, and floors where the other has
abbrev pub HasLinesOf : ℕ → ℕ → Type 0
HasLinesOf newer version = (newer ≡ 4) ⊎ ((2 ≤ newer) × (version ≢ 4))

has_points : (newer version : ℕ) → HasLinesOf newer version → 2 ≤ newer
has_points newer version (inl four) = omega (arith, four)
has_points newer version (inr both) = both.0

has_floors : (newer version : ℕ) → HasLinesOf newer version → version ≡ 4 → newer ≡ 4
has_floors newer version (inl four) is = four
has_floors newer version (inr both) is = absurd (both.1 is)

four : (version : ℕ) → eqb version 4 ≡ true → version ≡ 4
four version is = grind (arith, nat_tests)

-- a line of a proof leaves the version as it is
step_version : (standing : Standing) (step : Step) → StaysInProof step → (after_step standing step).version ≡ standing.version
step_version standing (Begins version) stays = absurd stays
step_version standing (At place) stays = refl
step_version standing Opens stays = refl
step_version standing Ends stays = refl

same_step : (a b : Step) → Some a ≡ Some b → a ≡ b
same_step a b e = cc

-- what a line that may come steps to
stepped : (standing later : Standing) (line : Line) (found : Option Step) → option_map (after_step standing) found ≡ Some later → (step : Step) × ((found ≡ Some step) × (later ≡ after_step standing step))
stepped standing later line None is = absurd (cc)
stepped standing later line (Some step) is = (step, (refl, (let e : later ≡ after_step standing step = cc in e)))

-- limits under which this many splits more may be open
abbrev pub deeper : Limits → ℕ → Limits
deeper limits more = record { rows = limits.rows; slots = limits.slots; points = limits.points; depth = limits.depth + more }

over_same : (limits : Limits) (more opened : ℕ) (line : Line) → over_at limits opened line ≡ None → over_at (deeper limits more) (opened + more) line ≡ None
over_same limits more opened (Header version) is = is
over_same limits more opened NodeLine is = ap (λ (b : Bool). if b then Some 9 else None) same ∙ is
  where
    same : ltb (limits.depth + more) (opened + more) ≡ ltb limits.depth opened
    same = grind (arith, nat_tests)
over_same limits more opened line is = is

-- no line but a claim comes after a proof
no_more : (own later : Standing) (line : Line) → own.place ≡ AtClaim → IsNoClaim line → next own line ≡ Some later → ⊥
no_more own later line here no_claim moves =
    let none : next own line ≡ None = ap (λ (place : Place). option_map (after_step own) (step_of own.version place line)) here ∙ ap (option_map (after_step own)) no_claim in
    let clash : None ≡ Some later = sym none ∙ moves in
    cc

module _ (wide : ℕ) where
  -- a line of a proof steps on in the proof, the same in a log of the version that is asked
  record IsProofStep (place : Place) (line : Line) (step : Step) : Type 0 where
    stays : StaysInProof step
    newer : step_of wide place line ≡ Some step
    no_claim : IsNoClaim line

  -- a step that is known
  known : (place : Place) (line : Line) (own step : Step) → StaysInProof own → step_of wide place line ≡ Some own → IsNoClaim line → Some own ≡ Some step → IsProofStep place line step
  known place line own step stays newer no_claim is = record {
    stays = subst StaysInProof (same_step own step is) stays;
    newer = newer ∙ is;
    no_claim = no_claim;
  }

  values_stay : (left : ℕ) (above : Option ℕ) → StaysInProof (values_step left above false)
  values_stay left above = by (eqb left 0)
    where
      by : (b : Bool) → StaysInProof (At (if b then Ending else Values left above false))
      by true = tt
      by false = tt

  mults_stay : (left : ℕ) (above : Option ℕ) (splits : Bool) → StaysInProof (mults_step left above splits)
  mults_stay left above splits = by (eqb left 0) splits
    where
      by : (b splits : Bool) → StaysInProof (if b then (if splits then Opens else Ends) else At (Mults left above splits))
      by true true = tt
      by true false = tt
      by false splits = tt

  -- a step behind a test
  tested : (b : Bool) (place : Place) (line : Line) (own step : Step) → StaysInProof own → (b ≡ true → step_of wide place line ≡ Some own) → IsNoClaim line → (if b then Some own else None) ≡ Some step → IsProofStep place line step
  tested true place line own step stays newer no_claim is = known place line own step stays (newer refl) no_claim is
  tested false place line own step stays newer no_claim is = absurd (cc)

  node_step : (version : ℕ) (line : Line) (step : Step) → step_of version AtNode line ≡ Some step → IsProofStep AtNode line step
  node_step version NodeLine step is = known AtNode NodeLine (At Inside) step tt refl refl is
  node_step version line step is = absurd (cc)

  ending_in : (version : ℕ) → HasLinesOf wide version → (line : Line) (step : Step) → step_of version Ending line ≡ Some step → IsProofStep Ending line step
  ending_in version has EmptyLine step is = known Ending EmptyLine Ends step tt refl refl is
  ending_in version has PointLine step is = tested (leb 2 version) Ending PointLine Ends step tt (λ e. ap (λ (b : Bool). if b then Some Ends else None) (le-leb 2 wide (has_points wide version has))) refl is
  ending_in version has (FloorLine profit) step is =
      tested (eqb version 4) Ending (FloorLine profit) (At Floored) step tt (λ e. ap (λ (b : Bool). if b then Some (At Floored) else None) (eq-eqb wide 4 (has_floors wide version has (four version e)))) refl is
  ending_in version has (DualLine scale count) step is = known Ending (DualLine scale count) (mults_step count None false) step (mults_stay count None false) refl refl is
  ending_in version has (PendingLine scale count) step is = known Ending (PendingLine scale count) (mults_step count None false) step (mults_stay count None false) refl refl is
  ending_in version has (SplitLine slot max scale count) step is = known Ending (SplitLine slot max scale count) (mults_step count None true) step (mults_stay count None true) refl refl is
  ending_in version has line step is = absurd (cc)

  inside_in : (version : ℕ) → HasLinesOf wide version → (line : Line) (step : Step) → step_of version Inside line ≡ Some step → IsProofStep Inside line step
  inside_in version has (CutLine row slot) step is = known Inside (CutLine row slot) (At Inside) step tt refl refl is
  inside_in version has (FoundLine value count) step is = known Inside (FoundLine value count) (values_step count None false) step (values_stay count None) refl refl is
  inside_in version has EmptyLine step is = known Inside EmptyLine Ends step tt refl refl is
  inside_in version has PointLine step is = tested (leb 2 version) Inside PointLine Ends step tt (λ e. ap (λ (b : Bool). if b then Some Ends else None) (le-leb 2 wide (has_points wide version has))) refl is
  inside_in version has (FloorLine profit) step is =
      tested (eqb version 4) Inside (FloorLine profit) (At Floored) step tt (λ e. ap (λ (b : Bool). if b then Some (At Floored) else None) (eq-eqb wide 4 (has_floors wide version has (four version e)))) refl is
  inside_in version has (DualLine scale count) step is = known Inside (DualLine scale count) (mults_step count None false) step (mults_stay count None false) refl refl is
  inside_in version has (PendingLine scale count) step is = known Inside (PendingLine scale count) (mults_step count None false) step (mults_stay count None false) refl refl is
  inside_in version has (SplitLine slot max scale count) step is = known Inside (SplitLine slot max scale count) (mults_step count None true) step (mults_stay count None true) refl refl is
  inside_in version has line step is = absurd (cc)

  floored_in : (version : ℕ) (line : Line) (step : Step) → step_of version Floored line ≡ Some step → IsProofStep Floored line step
  floored_in version (SplitLine slot max scale count) step is = known Floored (SplitLine slot max scale count) (mults_step count None true) step (mults_stay count None true) refl refl is
  floored_in version line step is = absurd (cc)

  values_in : (version left : ℕ) (above : Option ℕ) (line : Line) (step : Step) → step_of version (Values left above false) line ≡ Some step → IsProofStep (Values left above false) line step
  values_in version left above (ValueLine slot quanta) step is =
      tested (follows above slot) (Values left above false) (ValueLine slot quanta) (values_step (left - 1) (Some slot) false) step (values_stay (left - 1) (Some slot))
      (λ e. ap (λ (b : Bool). if b then Some (values_step (left - 1) (Some slot) false) else None) e) refl is
  values_in version left above line step is = absurd (cc)

  mults_in : (version left : ℕ) (above : Option ℕ) (splits : Bool) (line : Line) (step : Step) → step_of version (Mults left above splits) line ≡ Some step → IsProofStep (Mults left above splits) line step
  mults_in version left above splits (MultLine row factor) step is =
      tested (follows above row) (Mults left above splits) (MultLine row factor) (mults_step (left - 1) (Some row) splits) step (mults_stay (left - 1) (Some row) splits)
      (λ e. ap (λ (b : Bool). if b then Some (mults_step (left - 1) (Some row) splits) else None) e) refl is
  mults_in version left above splits line step is = absurd (cc)

  proof_step : (version : ℕ) → HasLinesOf wide version → (place : Place) (line : Line) (step : Step) → IsInProof place → step_of version place line ≡ Some step → IsProofStep place line step
  proof_step version has AtHeader line step within is = absurd within
  proof_step version has AtNode line step within is = node_step version line step is
  proof_step version has Inside line step within is = inside_in version has line step is
  proof_step version has Ending line step within is = ending_in version has line step is
  proof_step version has Floored line step within is = floored_in version line step is
  proof_step version has (Values left above true) line step within is = absurd within
  proof_step version has (Values left above false) line step within is = values_in version left above line step is
  proof_step version has (Mults left above splits) line step within is = mults_in version left above splits line step is
  proof_step version has AtClaim line step within is = absurd within
  proof_step version has AtEnd line step within is = absurd within
  proof_step version has Done line step within is = absurd within

  -- ---- one log inside another

  -- where the lines of a part's log stand, and where they stand inside a log in which these splits are open around it: in the part's
  -- proof, or where the part's proof has ended
  abbrev Within : List Bool → Standing → Standing → Type 0
  Within outer own other =
      ((IsInProof own.place) × (other ≡ at wide own.place (own.sides ++ outer))) ⊎ ((own.place ≡ AtClaim) × (other ≡ closed wide outer))

  -- a part that ends inside another
  ends_within : (version : ℕ) (outer sides : List Bool) → Within outer (closed version sides) (closed wide (sides ++ outer))
  ends_within version outer [] = inr (refl, refl)
  ends_within version outer (false ∷ sides) = inl (tt, refl)
  ends_within version outer (true ∷ sides) = ends_within version outer sides

  after_within : (version : ℕ) (place : Place) (outer sides : List Bool) (step : Step) → StaysInProof step → Within outer (after_step (at version place sides) step) (after_step (at wide place (sides ++ outer)) step)
  after_within version place outer sides (Begins v) stays = absurd stays
  after_within version place outer sides (At next) stays = inl (stays, refl)
  after_within version place outer sides Opens stays = inl (tt, refl)
  after_within version place outer sides Ends stays = ends_within version outer sides

  one_within : (limits : Limits) (outer : List Bool) (own other later : Standing) (line : Line) → HasLinesOf wide own.version → IsInProof own.place → other ≡ at wide own.place (own.sides ++ outer)
      → line_defect limits own line ≡ None → next own line ≡ Some later → (there : Standing) × ((on (deeper limits (length outer)) other line ≡ Some there) × Within outer later there)
  one_within limits outer own other later line has within is fine moves =
      let more = length outer in
      let found = stepped own later line (step_of own.version own.place line) moves in
      let step = found.0 in
      let proof = proof_step own.version has own.place line step within found.1.0 in
      let clean : over limits own line ≡ None = sym (ap (λ (o : Option Standing). option_map_or (λ _. over limits own line) o (Some 1)) moves) ∙ fine in
      let long : length own.sides + more ≡ length (own.sides ++ outer) = sym (length-append own.sides outer) in
      let also : over (deeper limits more) (at wide own.place (own.sides ++ outer)) line ≡ None =
      subst (λ (n : ℕ). over_at (deeper limits more) n line ≡ None) long (over_same limits more (length own.sides) line clean) in (
        after_step (at wide own.place (own.sides ++ outer)) step,
        (
          ap (λ (s : Standing). on (deeper limits more) s line) is ∙ on-step (deeper limits more) (at wide own.place (own.sides ++ outer)) line step proof.newer also,
          subst (λ (s : Standing). Within outer s (after_step (at wide own.place (own.sides ++ outer)) step)) (sym found.1.1) (after_within own.version own.place outer own.sides step proof.stays),
        ),
      )

  -- where a line of a proof leads, the log is of the same version
  same_version : (own later : Standing) (line : Line) → HasLinesOf wide own.version → IsInProof own.place → next own line ≡ Some later → later.version ≡ own.version
  same_version own later line has within moves =
      let found = stepped own later line (step_of own.version own.place line) moves in
      ap (λ (s : Standing). s.version) found.1.1 ∙ step_version own found.0 (proof_step own.version has own.place line found.0 within found.1.0).stays

  -- lines of a proof lead on inside another log
  lines_within : (limits : Limits) (outer : List Bool) (lines : List Line) (own other later : Standing) → HasLinesOf wide own.version → All IsNoClaim lines → Within outer own other → leads limits own lines ≡ Some later
      → (there : Standing) × ((leads (deeper limits (length outer)) other lines ≡ Some there) × Within outer later there)
  lines_within limits outer [] own other later has no_claims within leading =
      let same : own ≡ later = cc in
      (other, (refl, subst (λ (s : Standing). Within outer s other) same within))
  lines_within limits outer (line ∷ lines) own other later has no_claims within leading =
      let on = leads_on (line_defect limits own line) (next own line) (λ s. leads limits s lines) later leading in
      ⊎_elim
      (λ (here : IsInProof own.place × (other ≡ at wide own.place (own.sides ++ outer))).
      let one = one_within limits outer own other on.0 line has here.0 here.1 on.1 on.2 in
      let rest = lines_within limits outer lines on.0 one.0 later (subst (HasLinesOf wide) (sym (same_version own on.0 line has here.0 on.2)) has) (All-tail IsNoClaim line lines no_claims) one.1.1 on.3 in
      (rest.0, (leads-cons (deeper limits (length outer)) other one.0 line lines one.1.0 ∙ rest.1.0, rest.1.1)))
      (λ (over : (own.place ≡ AtClaim) × (other ≡ closed wide outer)). absurd (no_more own on.0 line over.0 (All-head IsNoClaim line lines no_claims) on.2))
      within

-- ---- the lines of a tree

value_no_claim : (slot : ℕ) (point : List ℕ) → All IsNoClaim (value_lines slot point)
value_no_claim slot [] = All-nil IsNoClaim
value_no_claim slot (value ∷ point) = All-append IsNoClaim (value_line slot value) (value_lines (slot + 1) point) (one (eqb value 0)) (value_no_claim (slot + 1) point)
  where
    one : (b : Bool) → All IsNoClaim (if b then [] else ValueLine slot value ∷ [])
    one true = All-nil IsNoClaim
    one false = All-cons IsNoClaim (ValueLine slot value) [] refl (All-nil IsNoClaim)

mult_no_claim : (mults : List Mult) → All IsNoClaim (map mult_line mults)
mult_no_claim mults = All-map IsNoClaim mult_line mults (λ k d l. refl)

floor_no_claim : (floor : Option ℤ) → All IsNoClaim (floor_lines floor)
floor_no_claim None = All-nil IsNoClaim
floor_no_claim (Some profit) = All-cons IsNoClaim (FloorLine profit) [] refl (All-nil IsNoClaim)

item_no_claim : (item : RowItem) → All IsNoClaim (item_lines item)
unfolding item_lines
item_no_claim Node = All-cons IsNoClaim NodeLine [] refl (All-nil IsNoClaim)
item_no_claim (Cut cut) = All-cons IsNoClaim (CutLine cut.row cut.slot) [] refl (All-nil IsNoClaim)
item_no_claim (FoundItem found) = All-cons IsNoClaim (FoundLine found.value (started found.point)) (value_lines 0 found.point) refl (value_no_claim 0 found.point)
item_no_claim Empty = All-cons IsNoClaim EmptyLine [] refl (All-nil IsNoClaim)
item_no_claim (Dual cert) = All-cons IsNoClaim (DualLine cert.scale (length cert.mults)) (map mult_line cert.mults) refl (mult_no_claim cert.mults)
item_no_claim Point = All-cons IsNoClaim PointLine [] refl (All-nil IsNoClaim)
item_no_claim (Pending cert) = All-cons IsNoClaim (PendingLine cert.scale (length cert.mults)) (map mult_line cert.mults) refl (mult_no_claim cert.mults)
item_no_claim (Split pick cert) =
    All-append IsNoClaim (floor_lines pick.floor) (SplitLine pick.slot pick.max cert.scale (length cert.mults) ∷ map mult_line cert.mults) (floor_no_claim pick.floor)
    (All-cons IsNoClaim (SplitLine pick.slot pick.max cert.scale (length cert.mults)) (map mult_line cert.mults) refl (mult_no_claim cert.mults))

items_no_claim : (items : List RowItem) → All IsNoClaim (flat_map item_lines items)
items_no_claim [] = All-nil IsNoClaim
items_no_claim (item ∷ items) = All-append IsNoClaim (item_lines item) (flat_map item_lines items) (item_no_claim item) (items_no_claim items)

-- a claim comes only after a proof
not_in_proof : (limits : Limits) (own last : Standing) (line : Line) (lines : List Line) → IsInProof own.place → claim_step line ≢ None → leads limits own (line ∷ lines) ≡ Some last → ⊥
not_in_proof limits own last line lines within claims leading =
    let on = leads_on (line_defect limits own line) (next own line) (λ s. leads limits s lines) last leading in
    let found = stepped own on.0 line (step_of own.version own.place line) on.2 in
    claims (proof_step 4 own.version (inl refl) own.place line found.0 within found.1.0).no_claim

claim_ends : (limits : Limits) (own last : Standing) (claim : Claim) (rest : List Line) → IsInProof own.place → leads limits own (claim_lines claim ++ rest) ≡ Some last → ⊥
unfolding claim_lines
claim_ends limits own last (Optimal profit point) rest within leading = not_in_proof limits own last (ClaimOptimal profit (started point)) (value_lines 0 point ++ rest) within (λ e. cc) leading
claim_ends limits own last Infeasible rest within leading = not_in_proof limits own last ClaimInfeasible rest within (λ e. cc) leading
claim_ends limits own last (Between profit most point) rest within leading = not_in_proof limits own last (ClaimBetween profit most (started point)) (value_lines 0 point ++ rest) within (λ e. cc) leading
claim_ends limits own last (Below most) rest within leading = not_in_proof limits own last (ClaimBelow most) rest within (λ e. cc) leading

-- where some lines and then others lead
both_lead : (limits : Limits) (standing last : Standing) (xs ys : List Line) → leads limits standing (xs ++ ys) ≡ Some last → (mid : Standing) × ((leads limits standing xs ≡ Some mid) × (leads limits mid ys ≡ Some last))
both_lead limits standing last xs ys leading = by (leads limits standing xs) refl (sym (leads-append limits standing xs ys) ∙ leading)
  where
    by : (mid : Option Standing) → leads limits standing xs ≡ mid → option_and_then (λ later. leads limits later ys) mid ≡ Some last → (mid : Standing) × ((leads limits standing xs ≡ Some mid) × (leads limits mid ys ≡ Some last))
    by None is leads_to = absurd (cc)
    by (Some mid) is leads_to = (mid, (is, leads_to))

-- the lines of a tree in a log that has come to its end lead through it, wherever its part stands in another log
pub tree_within : (wide : ℕ) (limits : Limits) (version : ℕ) (tree : RowTree) (claim : Claim) (last : Standing) (outer : List Bool) → HasLinesOf wide version → leads limits new_standing (log_lines version (tree_items tree) claim) ≡ Some last
    → leads (deeper limits (length outer)) (at wide AtNode outer) (tree_lines tree) ≡ Some (closed wide outer)
unfolding log_lines
tree_within wide limits version tree claim last outer has leading =
    let own = at version AtNode [] in
    let parts = both_lead limits own last (tree_lines tree) (claim_lines claim ++ EndLine ∷ []) leading in
    let inner = lines_within wide limits outer (tree_lines tree) own (at wide AtNode outer) parts.0 has (items_no_claim (tree_items tree)) (inl (tt, refl)) parts.1.0 in
    ⊎_elim
    (λ (here : IsInProof parts.0.place × (inner.0 ≡ at wide parts.0.place (parts.0.sides ++ outer))). absurd (claim_ends limits parts.0 last claim (EndLine ∷ []) here.0 parts.1.1))
    (λ (over : (parts.0.place ≡ AtClaim) × (inner.0 ≡ closed wide outer)). inner.1.0 ∙ ap Some over.1)
    inner.1.1
