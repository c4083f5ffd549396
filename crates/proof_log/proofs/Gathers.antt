-- What has been gathered of a log after one more line.
use Rattle.std.proofs.Common.{◌≡◌, ◌≢◌, ℕ, ◌+◌, ◌<◌, ◌^◌, Bool, List, [], ◌∷◌, ◌++◌, length, Option, Some, None, refl, ap, sym, ◌∙◌, subst, append_assoc, arith}
use Rattle.std.specs.Prelude.{flat_map}
use Rattle.std.specs.List.{All, sum_by}
use Rattle.std.specs.Option.{option_map}
use Rattle.std.proofs.lemmas.Grind.{common_steps, flat_map-append}
use Rattle.std.proofs.lemmas.List.Concat.{length-flat_map}
use Rattle.std.proofs.lemmas.List.Elements.{All-append, All-cons}
use Rattle.proof_tree.specs.declared.item.Item.TheVariants.{Node, Cut, Found as FoundItem, Empty, Dual as DualItem, Point, Pending as PendingItem, Split as SplitItem}
use Rattle.proof_tree.specs.Form.{any_steps, form_of, AreWhole}
use Rattle.proof_tree.specs.Walk.{Outcome, going, ended, undefined, misplaced, after, start}
use Rattle.proof_tree.proofs.Forms.{Alike, alike}
use Rattle.proof_tree.proofs.WalkLaw.{walked-append}
use Rattle.row_kit.specs.declared.area.Area.{Area}
use Rattle.row_kit.specs.declared.found.Found.{Found}
use Rattle.row_relax.specs.declared.Rows.{Rows}
use Rattle.row_relax.specs.declared.pick.RowPick.{RowPick}
use Rattle.log_lines.specs.declared.line.Line.{Line}
use Rattle.log_lines.specs.declared.line.Line.TheVariants.{Header as HeaderLine, End as EndLine}
use Rattle.log_lines.specs.declared.grammar.Limits.{Limits}
use Rattle.log_lines.specs.declared.grammar.Place.{Place}
use Rattle.log_lines.specs.declared.grammar.Place.TheVariants.{Header as AtHeader, Node as AtNode, Inside, Ending, Floored, Values as AtValues, Mults as AtMults, Claim as AtClaim, End, Done}
use Rattle.log_lines.specs.declared.step.Step.{Step}
use Rattle.log_lines.specs.declared.step.Step.TheVariants.{Begins, At, Opens, Ends}
use Rattle.log_lines.specs.Line.{IsLine}
use Rattle.log_lines.specs.Grammar.{Standing, after_part, part_place, step_of, after_step, next}
use Rattle.proof_log.specs.declared.claim.Claim.{Claim}
use Rattle.proof_log.specs.declared.gatherer.Gatherer.{Gatherer}
use Rattle.proof_log.specs.declared.gatherer.Gathered.TheVariants.{Item as ItemGathered, Claim as ClaimGathered}
use Rattle.proof_log.specs.declared.group.Group.{Group}
use Rattle.proof_log.specs.declared.group.Group.TheVariants.{Nothing}
use Rattle.proof_log.specs.declared.group.Piece.{Piece}
use Rattle.proof_log.specs.declared.group.Piece.TheVariants.{Item, Claim as ClaimPiece}
use Rattle.proof_log.specs.declared.group.Grown.{Grown}
use Rattle.proof_log.specs.declared.group.Grown.TheVariants.{More, Whole}
use Rattle.proof_log.specs.Agree.{GroupAgrees, ClaimAgrees, FormAgrees, IsBody}
use Rattle.proof_log.specs.Gathered.{lines_at, IsFresh, HasGathered, LineComes, HasMade}
use Rattle.proof_log.specs.Gathering.{group_lines, piece_lines, IsPieceOver, followed, MayFollow, HasLines}
use Rattle.row_relax.specs.RowProofs.{RowItem}
use Rattle.proof_log.specs.Log.{item_lines, claim_lines, line_after}
use Rattle.proof_log.specs.OneText.{IsOver}
use Rattle.proof_log.proofs.Agreeing.{IsMiddle, ItemAt, ClaimAt, StandsAt, StaysAt, item_step, GrownAgrees, line_follows, taken_agrees}
use Rattle.proof_log.proofs.Groups.{followed-lines}

-- a line that may come makes a step
next_steps : (standing later : Standing) (line : Line) → next standing line ≡ Some later → (taken_step : Step) × (step_of standing.version standing.place line ≡ Some taken_step) × (after_step standing taken_step ≡ later)
next_steps standing later line is = at (step_of standing.version standing.place line) refl is
  where
    at : (result : Option Step) → step_of standing.version standing.place line ≡ result → option_map (after_step standing) result ≡ Some later → (taken_step : Step) × (step_of standing.version standing.place line ≡ Some taken_step) × (after_step standing taken_step ≡ later)
    at None from to = cc
    at (Some taken_step) from to = (taken_step, from, cc)

All-next : {A : Type 0} (P : A → Type 0) (xs : List A) (x : A) → All P xs → P x → All P (xs ++ x ∷ [])
All-next P xs x all is = All-append P xs (x ∷ []) all (All-cons P x [] is (λ k d below. absurd (omega arith)))

counted : (lines : List Line) (line : Line) → length lines + 1 ≡ length (lines ++ line ∷ [])
counted lines line = grind (arith, common_steps)

-- between the header and the claim the lines are the header and those of the items and the group, and no claim is made
middle_lines : (version : ℕ) (place : Place) (items : List RowItem) (group : Group) → IsMiddle place → lines_at version place items group None ≡ HeaderLine version ∷ (flat_map item_lines items ++ group_lines group)
middle_lines version AtNode items group middle = refl
middle_lines version Inside items group middle = refl
middle_lines version Ending items group middle = refl
middle_lines version Floored items group middle = refl
middle_lines version (AtValues left above of_claim) items group middle = refl
middle_lines version (AtMults left above splits) items group middle = refl
middle_lines version AtClaim items group middle = refl
middle_lines version _ items group middle = absurd middle

middle_fresh : (place : Place) (items : List RowItem) → IsMiddle place → IsFresh place items
middle_fresh AtHeader items middle = absurd middle
middle_fresh _ items middle = tt

middle_none : (place : Place) → IsMiddle place → ClaimAgrees place None
middle_none End middle = middle
middle_none Done middle = middle
middle_none _ middle = tt

middle_claim : (place : Place) (claim : Option Claim) → IsMiddle place → ClaimAgrees place claim → claim ≡ None
middle_claim place None middle agree = refl
middle_claim End (Some claim) middle agree = absurd middle
middle_claim Done (Some claim) middle agree = absurd middle
middle_claim _ (Some claim) middle agree = absurd agree

-- after an item no group is open, and the version is as before
pub record IsAfterItem (limits : Limits) (standing later : Standing) : Type 0 where
  pub middle : IsMiddle later.place
  pub group : GroupAgrees limits later.place Nothing
  pub version : later.version ≡ standing.version

after_item : (limits : Limits) (standing : Standing) (item : RowItem) → IsAfterItem limits standing (after_step standing (item_step item))
after_item limits standing item = at item
  where
    -- where no split is open the claim comes, and else a node
    parts : (sides : List Bool) → IsMiddle (part_place sides) × GroupAgrees limits (part_place sides) Nothing
    parts [] = (tt, tt)
    parts (side ∷ sides) = (tt, tt)

    ends : IsAfterItem limits standing (after_step standing Ends)
    ends = let part = parts (after_part standing.sides) in record { middle = part.0; group = part.1; version = refl }

    at : (item : RowItem) → IsAfterItem limits standing (after_step standing (item_step item))
    at Node = record { middle = tt; group = tt; version = refl }
    at (Cut cut) = record { middle = tt; group = tt; version = refl }
    at (FoundItem found) = record { middle = tt; group = tt; version = refl }
    at Empty = ends
    at (DualItem cert) = ends
    at Point = ends
    at (PendingItem cert) = ends
    at (SplitItem pick cert) = record { middle = tt; group = tt; version = refl }

-- where the form stands at a later place, it stands where the lines do
stands_form : (version own : ℕ) (place later : Place) (sides : List Bool) (form : Outcome RowPick) → StandsAt place later → FormAgrees (record { version = version; place = place; sides = sides }) form → FormAgrees (record { version = own; place = later; sides = sides }) form
stands_form version own place later sides (going stage) stands agree = record { expects = stands.expects stage.expected agree.expects; splits = agree.splits }
stands_form version own place later sides (ended part_cap) stands agree = stands.past agree
stands_form version own place later sides undefined stands agree = agree
stands_form version own place later sides misplaced stands agree = agree

-- an item that the lines make whole leads the form where it leads the lines
item_form : (standing : Standing) (items : List RowItem) (item : RowItem) → ItemAt standing.place item → FormAgrees standing (form_of items) → FormAgrees (after_step standing (item_step item)) (form_of (items ++ item ∷ []))
item_form standing items item at agree =
    subst (FormAgrees (after_step standing (item_step item))) (sym (walked-append Rows Area Found any_steps (start []) items (item ∷ []))) (leads (form_of items) agree)
  where
    leads : (form : Outcome RowPick) → FormAgrees standing form → FormAgrees (after_step standing (item_step item)) (after any_steps form item)
    leads (going stage) agree = rw (at.comes stage.expected agree.expects) (taken_agrees standing stage.splits stage.view item agree.splits)
    leads (ended part_cap) agree = absurd (at.no_claim agree)
    leads undefined agree = absurd agree
    leads misplaced agree = absurd agree

form_may : (standing : Standing) (form : Outcome RowPick) → FormAgrees standing form → form ≢ misplaced
form_may standing form agree is = subst (FormAgrees standing) is agree

-- where a claim is made the items are whole
claim_whole : (standing : Standing) (items : List RowItem) → ClaimAt standing.place → FormAgrees standing (form_of items) → AreWhole items
claim_whole standing items at agree = by (form_of items) refl agree
  where
    by : (form : Outcome RowPick) → form_of items ≡ form → FormAgrees standing form → AreWhole items
    by (going stage) is agree = absurd (at.no_item stage.expected agree.expects)
    by (ended part_cap) is agree = subst (λ o. Alike o (form_of items)) is (alike any_steps [] items)
    by undefined is agree = absurd agree
    by misplaced is agree = absurd agree

-- where no group is open and no claim is made, the next line is the one after those of the items
next_line : (version : ℕ) (place : Place) (items : List RowItem) (lines : List Line) → IsMiddle place → lines ≡ lines_at version place items Nothing None → length lines + 1 ≡ line_after items
next_line version place items lines middle listed =
    let whole : lines ≡ HeaderLine version ∷ (flat_map item_lines items ++ []) = listed ∙ middle_lines version place items Nothing middle in
    let count : length lines ≡ length (flat_map item_lines items ++ []) + 1 = ap length whole ∙ grind (arith, common_steps) in
    let plain : length (flat_map item_lines items ++ []) ≡ length (flat_map item_lines items) = grind (arith, common_steps) in
    let sums : length (flat_map item_lines items) ≡ sum_by (λ item. length (item_lines item)) items = length-flat_map item_lines items in
    omega arith

-- the lines with one more
one_more : (version : ℕ) (place : Place) (items : List RowItem) (group : Group) (lines : List Line) (line : Line) → IsMiddle place → lines ≡ lines_at version place items group None → lines ++ line ∷ [] ≡ HeaderLine version ∷ (flat_map item_lines items ++ (group_lines group ++ line ∷ []))
one_more version place items group lines line middle listed =
    ap (λ t. t ++ line ∷ []) (listed ∙ middle_lines version place items group middle) ∙ ap (λ t. HeaderLine version ∷ t) (append_assoc (flat_map item_lines items) (group_lines group) (line ∷ []))

lines_of_group : (slots : ℕ) (lines : List Line) (group : Group) (grown : Grown) → More group ≡ grown → HasLines slots lines grown → group_lines group ≡ lines
lines_of_group slots lines group grown is has = subst (HasLines slots lines) (sym is) has

lines_of_piece : (slots : ℕ) (lines : List Line) (piece : Piece) (grown : Grown) → Whole piece ≡ grown → HasLines slots lines grown → (piece_lines piece ≡ lines) × IsPieceOver slots piece
lines_of_piece slots lines piece grown is has = subst (HasLines slots lines) (sym is) has

module _ (before : Standing) (lines : List Line) (items : List RowItem) (claim : Option Claim) (line : Line) (g : Gatherer) where
  -- a line of an item or of the claim comes
  pub record BodyComes : Type 0 where
    pub comes : LineComes before lines items claim line g
    pub body : IsBody line
    pub few_rows : g.limits.rows < 2 ^ 32
    pub few_slots : g.limits.slots < 2 ^ 32

  written : LineComes before lines items claim line g → All IsLine (lines ++ line ∷ [])
  written comes = All-next IsLine lines line comes.gathered.written comes.written

  -- what such a line leads to
  record Leads : Type 0 where
    led : Step
    to : after_step before led ≡ g.grammar
    may : MayFollow g.limits.points g.group line
    agrees : GrownAgrees g.limits before.place (followed g.limits.points g.group line) led

  leads : BodyComes → Leads
  leads comes =
      let to = next_steps before g.grammar line comes.comes.moves in
      let both = line_follows g.limits comes.few_rows comes.few_slots before.version (length before.sides) before.place g.group line to.0 comes.comes.written.in_range comes.body comes.comes.gathered.group to.1 comes.comes.fine in
      record { led = to.0; to = to.2; may = both.0; agrees = both.1 }

  pub may_follow : BodyComes → MayFollow g.limits.points g.group line
  may_follow comes = (leads comes).may

  has_lines : BodyComes → HasLines g.limits.points (group_lines g.group ++ line ∷ []) (followed g.limits.points g.group line)
  has_lines comes = followed-lines g.limits.points g.group line (may_follow comes)

  unclaimed : BodyComes → IsMiddle before.place → claim ≡ None
  unclaimed comes middle = middle_claim before.place claim middle comes.comes.gathered.claimed

  listed : (comes : BodyComes) → IsMiddle before.place → lines ≡ lines_at before.version before.place items g.group None
  listed comes middle = subst (λ c. lines ≡ lines_at before.version before.place items g.group c) (unclaimed comes middle) comes.comes.gathered.listed

  -- where more lines of the group have to come
  more_leads : (group : Group) → BodyComes → More group ≡ followed g.limits.points g.group line → (later : Place) × GroupAgrees g.limits later group × StaysAt before.place later × ((record before { place = later }) ≡ g.grammar)
  more_leads group comes is = at (leads comes).led (subst (λ grown. GrownAgrees g.limits before.place grown (leads comes).led) (sym is) (leads comes).agrees) (leads comes).to
    where
      at : (step : Step) → GrownAgrees g.limits before.place (More group) step → after_step before step ≡ g.grammar → (later : Place) × GroupAgrees g.limits later group × StaysAt before.place later × ((record before { place = later }) ≡ g.grammar)
      at (At later) agree to = (later, agree.0, agree.1, to)
      at (Begins version) agree to = absurd agree
      at Opens agree to = absurd agree
      at Ends agree to = absurd agree

  pub made_more : (group : Group) → BodyComes → More group ≡ followed g.limits.points g.group line → HasGathered (lines ++ line ∷ []) items claim (record g { group = group })
  made_more group comes is =
      let to = more_leads group comes is in
      let stays : StaysAt before.place to.0 = to.2 in
      let more = one_more before.version before.place items g.group lines line stays.middle (listed comes stays.middle) in
      let own = lines_of_group g.limits.points (group_lines g.group ++ line ∷ []) group (followed g.limits.points g.group line) is (has_lines comes) in
      let later : HasGathered (lines ++ line ∷ []) items None (record g { group = group; grammar = record before { place = to.0 } }) = record {
        listed = more ∙ (ap (λ t. HeaderLine before.version ∷ (flat_map item_lines items ++ t)) (sym own) ∙ sym (middle_lines before.version to.0 items group stays.middle_later));
        written = written comes.comes;
        number = comes.comes.number ∙ counted lines line;
        over = comes.comes.gathered.over;
        claim_over = tt;
        fresh = middle_fresh to.0 items stays.middle_later;
        began = comes.comes.gathered.began;
        group = to.1;
        claimed = middle_none to.0 stays.middle_later;
        form = stands_form before.version before.version before.place to.0 before.sides (form_of items) stays.stands comes.comes.gathered.form;
      } in
      subst (λ c. HasGathered (lines ++ line ∷ []) items c (record g { group = group })) (sym (unclaimed comes stays.middle)) (subst (λ st. HasGathered (lines ++ line ∷ []) items None (record g { group = group; grammar = st })) to.3 later)

  -- where the lines are an item
  pub made_item : (item : RowItem) (began : ℕ) → BodyComes → Whole (Item item) ≡ followed g.limits.points g.group line → began ≡ g.number + 1 → HasMade (lines ++ line ∷ []) items claim (record g { group = Nothing; began = began }) (ItemGathered g.began item)
  made_item item began comes is begins =
      let agree = subst (λ grown. GrownAgrees g.limits before.place grown (leads comes).led) (sym is) (leads comes).agrees in
      let to : after_step before (item_step item) ≡ g.grammar = subst (λ st. after_step before st ≡ g.grammar) agree.2 (leads comes).to in
      let at : ItemAt before.place item = agree.0 in
      let later_st = after_step before (item_step item) in
      let next = after_item g.limits before item in
      let form : FormAgrees later_st (form_of (items ++ item ∷ [])) = item_form before items item at comes.comes.gathered.form in
      let more = one_more before.version before.place items g.group lines line at.middle (listed comes at.middle) in
      let own = lines_of_piece g.limits.points (group_lines g.group ++ line ∷ []) (Item item) (followed g.limits.points g.group line) is (has_lines comes) in
      let all : lines ++ line ∷ [] ≡ lines_at later_st.version later_st.place (items ++ item ∷ []) Nothing None =
      more ∙ (ap (λ t. HeaderLine before.version ∷ (flat_map item_lines items ++ t)) (sym own.0) ∙ (ap (λ t. HeaderLine before.version ∷ t) (sym flat)
      ∙ (ap (λ v. HeaderLine v ∷ (flat_map item_lines (items ++ item ∷ []) ++ [])) (sym next.version) ∙ sym (middle_lines later_st.version later_st.place (items ++ item ∷ []) Nothing next.middle)))) in
      let count = comes.comes.number ∙ counted lines line in
      let later : HasGathered (lines ++ line ∷ []) (items ++ item ∷ []) None (record g { group = Nothing; began = began; grammar = later_st }) = record {
        listed = all;
        written = written comes.comes;
        number = count;
        over = All-next (IsOver g.limits.points) items item comes.comes.gathered.over own.1;
        claim_over = tt;
        fresh = middle_fresh later_st.place (items ++ item ∷ []) next.middle;
        began = begins ∙ (ap (λ n. n + 1) count ∙ next_line later_st.version later_st.place (items ++ item ∷ []) (lines ++ line ∷ []) next.middle all);
        group = next.group;
        claimed = middle_none later_st.place next.middle;
        form = form;
      } in (
        unclaimed comes at.middle,
        comes.comes.gathered.began,
        form_may later_st (form_of (items ++ item ∷ [])) form,
        agree.1,
        subst (λ st. HasGathered (lines ++ line ∷ []) (items ++ item ∷ []) None (record g { group = Nothing; began = began; grammar = st })) to later,
      )
    where
      flat : flat_map item_lines (items ++ item ∷ []) ++ [] ≡ flat_map item_lines items ++ item_lines item
      flat = rw (flat_map-append item_lines items (item ∷ [])) (grind (arith, common_steps))

  -- where the lines are the claim
  pub made_claim : (made : Claim) → BodyComes → Whole (ClaimPiece made) ≡ followed g.limits.points g.group line → HasMade (lines ++ line ∷ []) items claim (record g { group = Nothing }) (ClaimGathered g.began made)
  made_claim made comes is =
      let agree = subst (λ grown. GrownAgrees g.limits before.place grown (leads comes).led) (sym is) (leads comes).agrees in
      let to : (record before { place = End }) ≡ g.grammar = subst (λ st. after_step before st ≡ g.grammar) agree.1 (leads comes).to in
      let at : ClaimAt before.place = agree.0 in
      let whole = claim_whole before items at comes.comes.gathered.form in
      let more = one_more before.version before.place items g.group lines line at.middle (listed comes at.middle) in
      let own = lines_of_piece g.limits.points (group_lines g.group ++ line ∷ []) (ClaimPiece made) (followed g.limits.points g.group line) is (has_lines comes) in
      let bare : claim_lines made ++ [] ≡ claim_lines made = grind (arith, common_steps) in
      let later : HasGathered (lines ++ line ∷ []) items (Some made) (record g { group = Nothing; grammar = record before { place = End } }) = record {
        listed = more ∙ ap (λ t. HeaderLine before.version ∷ (flat_map item_lines items ++ t)) (sym (bare ∙ own.0));
        written = written comes.comes;
        number = comes.comes.number ∙ counted lines line;
        over = comes.comes.gathered.over;
        claim_over = own.1;
        fresh = tt;
        began = comes.comes.gathered.began;
        group = tt;
        claimed = tt;
        form = subst (FormAgrees (record before { place = End })) (sym whole) tt;
      } in
      (unclaimed comes at.middle, comes.comes.gathered.began, whole, subst (λ st. HasGathered (lines ++ line ∷ []) items (Some made) (record g { group = Nothing; grammar = st })) to later)

-- at the header and at the end no group is open
no_group : (limits : Limits) (place : Place) (group : Group) → GroupAgrees limits place group → (IsMiddle place → ⊥) → group ≡ Nothing
no_group limits place Nothing agree edge = refl
no_group limits AtHeader _ agree edge = absurd agree
no_group limits End _ agree edge = absurd agree
no_group limits Done _ agree edge = absurd agree
no_group limits _ _ agree edge = absurd (edge tt)

header_claim : (claim : Option Claim) → ClaimAgrees AtHeader claim → claim ≡ None
header_claim None agree = refl
header_claim (Some claim) agree = absurd agree

end_claim : (claim : Option Claim) → ClaimAgrees End claim → (made : Claim) × (claim ≡ Some made)
end_claim None agree = absurd agree
end_claim (Some made) agree = (made, refl)

module _ (lines : List Line) (items : List RowItem) (claim : Option Claim) (g : Gatherer) where
  -- after the header
  header_made : (version own : ℕ) (sides : List Bool) → LineComes (record { version = version; place = AtHeader; sides = sides }) lines items claim (HeaderLine own) g → HasGathered (lines ++ HeaderLine own ∷ []) items claim (record g { grammar = record { version = own; place = AtNode; sides = sides } })
  header_made version own sides comes =
      let had = comes.gathered in
      let none = no_group g.limits AtHeader g.group had.group (λ middle. middle) in
      let unclaimed = header_claim claim had.claimed in
      let empty : lines ≡ [] = had.listed in
      let fresh : items ≡ [] = had.fresh in
      record {
        listed = ap (λ t. t ++ HeaderLine own ∷ []) empty ∙ sym (ap (λ xs. lines_at own AtNode xs g.group claim) fresh ∙ (ap (λ group. lines_at own AtNode [] group claim) none ∙ ap (λ c. lines_at own AtNode [] Nothing c) unclaimed));
        written = All-next IsLine lines (HeaderLine own) had.written comes.written;
        number = comes.number ∙ counted lines (HeaderLine own);
        over = had.over;
        claim_over = had.claim_over;
        fresh = tt;
        began = had.began;
        group = subst (GroupAgrees g.limits AtNode) (sym none) tt;
        claimed = subst (ClaimAgrees AtNode) (sym unclaimed) tt;
        form = stands_form version own AtHeader AtNode sides (form_of items) (record { expects = λ expected is. is; past = λ past. absurd past }) had.form;
      }

  -- after the end line
  end_made : (version : ℕ) (sides : List Bool) → LineComes (record { version = version; place = End; sides = sides }) lines items claim EndLine g → HasGathered (lines ++ EndLine ∷ []) items claim (record g { grammar = record { version = version; place = Done; sides = sides } })
  end_made version sides comes =
      let had = comes.gathered in
      let none = no_group g.limits End g.group had.group (λ middle. middle) in
      let made = end_claim claim had.claimed in
      let was : lines ≡ lines_at version End items g.group (Some made.0) = subst (λ c. lines ≡ lines_at version End items g.group c) made.1 had.listed in
      let all : lines ++ EndLine ∷ [] ≡ lines_at version Done items g.group (Some made.0) = ap (λ t. t ++ EndLine ∷ []) was ∙ ap (λ t. HeaderLine version ∷ t) (flat made.0) in
      record {
        listed = subst (λ c. lines ++ EndLine ∷ [] ≡ lines_at version Done items g.group c) (sym made.1) all;
        written = All-next IsLine lines EndLine had.written comes.written;
        number = comes.number ∙ counted lines EndLine;
        over = had.over;
        claim_over = had.claim_over;
        fresh = tt;
        began = had.began;
        group = subst (GroupAgrees g.limits Done) (sym none) tt;
        claimed = subst (ClaimAgrees Done) (sym made.1) tt;
        form = stands_form version version End Done sides (form_of items) (record { expects = λ expected is. absurd is; past = λ past. tt }) had.form;
      }
    where
      flat : (made : Claim) → (flat_map item_lines items ++ (claim_lines made ++ [])) ++ EndLine ∷ [] ≡ flat_map item_lines items ++ (claim_lines made ++ EndLine ∷ [])
      flat made = grind (arith, common_steps)

  moved : (led : Standing) → Some led ≡ Some g.grammar → led ≡ g.grammar
  moved led is = cc

  -- the header and the end line make nothing
  pub made_edge : (version : ℕ) (place : Place) (sides : List Bool) (line : Line) → ¬ IsBody line → LineComes (record { version = version; place = place; sides = sides }) lines items claim line g → HasGathered (lines ++ line ∷ []) items claim g
  made_edge version AtHeader sides (HeaderLine own) edge comes = subst (λ st. HasGathered (lines ++ HeaderLine own ∷ []) items claim (record g { grammar = st })) (moved (record { version = own; place = AtNode; sides = sides }) comes.moves) (header_made version own sides comes)
  made_edge version End sides EndLine edge comes = subst (λ st. HasGathered (lines ++ EndLine ∷ []) items claim (record g { grammar = st })) (moved (record { version = version; place = Done; sides = sides }) comes.moves) (end_made version sides comes)
  made_edge version _ sides (HeaderLine own) edge comes = let none = comes.moves in cc
  made_edge version _ sides EndLine edge comes = let none = comes.moves in cc
  made_edge version place sides _ edge comes = absurd (edge tt)
