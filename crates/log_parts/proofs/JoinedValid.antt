-- The joined log of the valid logs of all parts is a valid log of the plant.
use Rattle.std.proofs.Common.{◌≡◌, ◌≢◌, ℕ, ◌+◌, ◌-◌, ◌*◌, ◌^◌, ◌<◌, ◌≤◌, zero, suc, Bool, true, false, if◌then◌else◌, List, [], ◌∷◌, ◌++◌, append_assoc, drop, flat_map, length, length-append, map, get_or, Option, Some, None, refl, sym, ap, ◌∙◌, subst, inl, inr, arith, pow_pos}
use Rattle.std.specs.Prelude.{ℤ, IfSome, codes, ◌↔◌}
use Rattle.std.proofs.lemmas.Bool.{cases_eq, eq-eqb, ne_eqb}
use Rattle.std.proofs.lemmas.Fmt.{decimal_digit}
use Rattle.std.specs.List.{All, AllZip}
use Rattle.std.proofs.lemmas.List.{get_or_append_left, get_or_default, length-map}
use Rattle.std.proofs.lemmas.List.Elements.{All-append, All-nil, All-weaker}
use Rattle.stn_model.specs.declared.plant.Plant.{Plant}
use Rattle.stn_model.specs.declared.start.Start.{Start}
use Rattle.stn_model.specs.Points.{depth_limit}
use Rattle.stn_model.specs.Profit.{profit}
use Rattle.stn_model.specs.Sound.{Sound}
use Rattle.time_grid.specs.Slots.{slots}
use Rattle.row_kit.specs.declared.area.Area.{Area}
use Rattle.row_kit.specs.declared.domain.Domain.{Domain}
use Rattle.row_kit.specs.declared.found.Found.{Found}
use Rattle.row_kit.specs.declared.program.Program.{Program}
use Rattle.row_kit.specs.Domain.{IsNormal, no_values}
use Rattle.row_kit.specs.Point.{IsLawful}
use Rattle.row_set.specs.Parts.{IsButRoot, IsWithin, IsPartOf, IsAdmitted, plan_of_values}
use Rattle.row_set.specs.PlantProgram.{plant_root, plant_rows, slot_domain, IsMadeOf}
use Rattle.row_set.proofs.PartPoints.{worth-part}
use Rattle.sum_slots.specs.declared.sum.Sum.{Sum}
use Rattle.sum_slots.specs.Larger.{IsWithSums, completed, given_of, sum_domain}
use Rattle.sum_slots.specs.Shown.{IsShown}
use Rattle.sum_slots.specs.Sum.{IsDeclared}
use Rattle.sum_slots.proofs.Joined.{All-second}
use Rattle.derivations.specs.declared.derivation.Derivation.{Derivation}
use Rattle.setup_slots.specs.Several.{AreSetUp, choices_before}
use Rattle.setup_slots.proofs.ManyUnits.{begins-several}
use Rattle.derivations.specs.Larger.{begun, grown_by, met}
use Rattle.derivations.proofs.Holding.{slots-after_all}
use Rattle.derivations.proofs.Shares.{length-met}
use Rattle.log_lines.specs.declared.grammar.Limits.{Limits}
use Rattle.proof_tree.specs.declared.capped.Capped.{Capped}
use Rattle.proof_tree.specs.declared.capped.Capped.TheVariants.{AtMost, NoPoint, Bad}
use Rattle.proof_tree.specs.Cap.{greater}
use Rattle.proof_tree.specs.Items.{tree_items}
use Rattle.proof_tree.specs.Tree.{tree_cap}
use Rattle.proof_tree.specs.Walk.{ended, outcome_of, walked, start}
use Rattle.proof_tree.proofs.WalkLaw.{walked-whole}
use Rattle.row_relax.specs.declared.pick.RowPick.{RowPick}
use Rattle.row_relax.specs.declared.rows.Rows.{Rows}
use Rattle.row_relax.specs.Choices.{choices_of, plain, steps_of}
use Rattle.row_relax.specs.RowProofs.{RowItem, RowTree}
use Rattle.row_relax.specs.View.{view_of}
use Rattle.log_lines.specs.declared.line.Line.TheVariants.{Header, End}
use Rattle.log_lines.specs.Line.{IsShort, IsVersion, line_text, number_text}
use Rattle.log_lines.specs.TextDefect.{log_text_defect}
use Rattle.proof_log.specs.declared.claim.Claim.{Claim}
use Rattle.proof_log.specs.declared.claim.Claim.TheVariants.{Infeasible}
use Rattle.proof_log.specs.Log.{claim_lines, item_lines, lines_text, log_lines, log_text, tree_lines}
use Rattle.proof_log.specs.Accepted.{leads}
use Rattle.proof_log.specs.Behind.{behind, version_behind}
use Rattle.proof_log.specs.OneText.{IsLogOver, IsOver}
use Rattle.proof_log.proofs.GrammarWalk.{at, closed}
use Rattle.log_lines.specs.declared.grammar.Place.TheVariants.{Node as AtNode}
use Rattle.plan_images.proofs.Imaging.{HaveSamePoints}
use Rattle.plan_images.proofs.Telling.{same-plans}
use Rattle.valid_log.specs.declared.verdict.LogVerdict.TheVariants as verdict
use Rattle.valid_log.specs.Verdict.{IsLog, IsSoundLog, IsVerdict, IsVerdictGiven, limits_of}
use Rattle.valid_log.proofs.FoundSound.{IsFine, IsFinePoint, items-fine, items_sound, real_outcome}
use Rattle.valid_log.specs.Claims.{SaysOf}
use Rattle.valid_log.specs.Heads.{IsWithHead, wide_domains}
use Rattle.valid_log.specs.AnyVersion.{IsAnyVerdict, given_claim}
use Rattle.valid_log.specs.PlantLogs.{IsAnyChecked}
use Rattle.valid_log.proofs.Depths.{depth-within}
use Rattle.valid_log.specs.SumTexts.{larger_claim}
use Rattle.valid_log.proofs.Holding.{head-points, larger-none}
use Rattle.valid_log.proofs.LogFronts.{plain-verdict}
use Rattle.valid_log.proofs.PlantRanges.{part-ranges, plant-ranges}
use Rattle.valid_log.proofs.Saying.{of_plant}
use Rattle.log_parts.specs.declared.joining.ClaimedPlan.{ClaimedPlan}
use Rattle.log_parts.specs.Joining.{plan_of, IsBestPlan, IsBestCap, IsJoined}
use Rattle.log_parts.specs.declared.heads.Declared.{Declared}
use Rattle.log_parts.specs.Heads.{HasNewest, IsNewest, declared_text, joined_version}
use Rattle.log_parts.specs.PartLogs.{IsJoinedLog, IsPartLog, no_tree, tree_over}
use Rattle.plant_parts.specs.PlantParts.{IsOfPart, cut_root}
use Rattle.log_parts.specs.laws.Checked.{MayDeclare, head_limits}
use Rattle.log_parts.specs.laws.Copying.{IsFit, IsPointed}
use Rattle.plant_parts.proofs.Cutting.{AreFirstOfSlots, IsOfSlot, length-cut}
use Rattle.log_parts.proofs.FinePoints.{fine-item, fine-whole}
use Rattle.log_parts.proofs.JoinedClaims.{joined-says}
use Rattle.log_parts.proofs.JoinedSound.{HasNoDefect, IsNotAbove, AllowsNone, IsCappedBy, greater-real, greater-not_above, greater-allows_none, plan-fine, capped-fine, no_cap-none, best-place, with-sound}
use Rattle.log_parts.proofs.JoinedTexts.{IsWrittenItem, IsWrittenClaim, IsWrittenLog, IsWrittenPlan, over-lead, part-lead, log-written, node-written, split-written, plan-written, cap-written, with-written, log-over, text-clean}
use Rattle.plant_parts.proofs.Meaning.{part-exact, plant-slots}
use Rattle.log_parts.proofs.LargerClaims.{claim-at, fine-pointed, given-larger, joined-larger, joined-pointed, own-larger}
use Rattle.log_parts.proofs.CutFronts.{cut-front}
use Rattle.log_parts.proofs.PartCaps.{AreParts, IsPart, cap-same, lawful-part}
use Rattle.log_parts.proofs.HeadTexts.{headed_any, may_deeper, text_plain}
use Rattle.log_parts.proofs.PartHeads.{as-four, cut-stays, derived-of, head-whole, none-enlarged, part-larger, root-larger, shown-same, wide-long}
use Rattle.log_parts.proofs.PartTexts.{HasLinesOf}
use Rattle.log_parts.proofs.PartTrees.{IsPartTree}
use Rattle.log_parts.proofs.RootSplits.{left_root, no-cut, over-cap, over-items, part_cap}

-- ---- the log of a part

-- what the log of a part, whose lines a log of a version may have, says over the plant's own rows, of whose slots' domains cuts have left some
record IsPartProof (target depth : ℕ) (whole : Rows) (base left : List Domain) (levels number : ℕ) (tree : RowTree) (claim : Claim) : Type 0 where
  part : Rows
  bytes : List ℕ
  is : AreParts whole part
  root : part.program.root ≡ left_root base left levels number
  log : IsLog part bytes tree claim
  lines : HasLinesOf target log.version
  clean : log_text_defect (limits_of part (depth - levels)) bytes ≡ None
  sound : IsSoundLog part tree claim

-- a part of the plant is the plant's program but for its root
but-root : (plant : Plant) (whole part : Program) → IsMadeOf plant whole → IsPartOf plant part → IsButRoot whole part
but-root plant whole part made is = record {
  rows = is.but_root.rows ∙ is.made.rows_are ∙ sym made.rows_are;
  profit = is.but_root.profit ∙ is.made.profit_is ∙ sym made.profit_is;
  base = is.but_root.base ∙ is.made.base_is ∙ sym made.base_is;
  tags = is.but_root.tags ∙ is.made.tags_are ∙ sym made.tags_are;
  changes = is.but_root.changes ∙ is.made.changes_are ∙ sym made.changes_are;
}

-- and its root lies within the plant's
within-root : (plant : Plant) (whole part : Program) → IsMadeOf plant whole → IsPartOf plant part → AllZip IsWithin part.root whole.root
within-root plant whole part made is = subst (AllZip IsWithin part.root) (is.made.root_is ∙ sym made.root_is) is.within

-- ---- what follows of each part

-- the cap with which items end is that of their tree
ended-cap : (tree_cap_is proof_cap : Capped) → outcome_of {P = RowPick} tree_cap_is ≡ ended proof_cap → (tree_cap_is ≡ proof_cap) × (proof_cap ≢ Bad)
ended-cap Bad proof_cap is = absurd (cc)
ended-cap NoPoint proof_cap is = (let e : NoPoint ≡ proof_cap = cc in e, λ bad. let e : NoPoint ≡ proof_cap = cc in cc)
ended-cap (AtMost n) proof_cap is = (let e : AtMost n ≡ proof_cap = cc in e, λ bad. let e : AtMost n ≡ proof_cap = cc in cc)

module _ (target depth : ℕ) (whole : Rows) (base left : List Domain) (levels number : ℕ) (tree : RowTree) (claim : Claim) (proof : IsPartProof target depth whole base left levels number tree claim) where
  -- the cap of its proof, over the part's rows
  own-led : (tree_cap (steps_of proof.part) (view_of proof.part.program.root) tree ≡ proof.sound.proof_cap) × (proof.sound.proof_cap ≢ Bad)
  own-led =
      ended-cap (tree_cap (steps_of proof.part) (view_of proof.part.program.root) tree) proof.sound.proof_cap
      (sym (walked-whole Rows Area Found (steps_of proof.part) tree (view_of proof.part.program.root)) ∙ proof.sound.proved.led)

  -- and over the plant's
  cap-is : part_cap whole base left levels number tree ≡ proof.sound.proof_cap
  cap-is =
      ap (λ (ds : List Domain). tree_cap (steps_of whole) (view_of ds) tree) (sym proof.root)
      ∙ sym (cap-same whole proof.part tree proof.is) ∙ own-led.0

  -- what holds of that cap
  of-cap : (Q : Capped → Type 0) → Q proof.sound.proof_cap → Q (part_cap whole base left levels number tree)
  of-cap Q holds = subst Q (sym cap-is) holds

  -- its found points have no defect in the plant's choices
  fine-parts : All (IsFine (choices_of whole)) (tree_items tree)
  fine-parts =
      All-weaker (IsFine (choices_of proof.part)) (IsFine (choices_of whole)) (fine-item (choices_of whole) (choices_of proof.part) proof.is.judged) (tree_items tree)
      (items-fine (steps_of proof.part) (choices_of proof.part) (start (view_of proof.part.program.root)) (tree_items tree) proof.sound.proof_cap proof.sound.proved.sound proof.sound.proved.led)

  -- it is written in lines that may be written
  own-written : IsWrittenLog (length (choices_of whole).root) tree claim
  own-written = subst (λ (n : ℕ). IsWrittenLog n tree claim) proof.is.points (log-written proof.part proof.bytes tree claim proof.log)

  -- its lines lead through it in a log of the plant
  own-lead : levels ≤ depth → (outer : List Bool) → length outer ≡ levels → leads (limits_of whole depth) (at target AtNode outer) (tree_lines tree) ≡ Some (closed target outer)
  own-lead few =
      part-lead target whole proof.part depth levels proof.bytes tree claim (record { rows = ap length proof.is.alike.rows; slots = proof.is.slots; points = proof.is.points }) few proof.log proof.lines proof.clean

-- ---- the joined log

-- the cap of a tree over the root of rows
abbrev root_cap : Rows → RowTree → Capped
root_cap rows tree = tree_cap (steps_of rows) (view_of rows.program.root) tree

module _ (target depth : ℕ) (known : IsVersion target) (whole : Rows) (base left : List Domain) (long : length left ≡ length base) (root_is : whole.program.root ≡ met base left) (levels : ℕ) (trees : List RowTree) (claims : List Claim) (claim : Claim) (are : AreFirstOfSlots levels base)
    (few : levels ≤ 8) (deep : levels ≤ depth) (within : levels ≤ length base) (each : (part : ℕ) → part < 2 ^ levels → IsPartProof target depth whole base left levels part (get_or trees part no_tree) (get_or claims part Infeasible)) (all : length claims ≡ 2 ^ levels) (joined : IsJoined claims claim) where
  -- the root has a domain for each slot
  there : levels ≤ length whole.program.root
  there = omega (arith, within, ap length root_is, length-met base left long)

  -- what holds of each part's cap, and of the greater of two of which it holds, holds of the joined cap
  joined-cap : (Q : Capped → Type 0) → ((a b : Capped) → Q a → Q b → Q (greater a b)) → ((part : ℕ) (l : part < 2 ^ levels) → Q (each part l).sound.proof_cap) → Q (root_cap whole (tree_over 0 levels trees))
  joined-cap Q closed holds =
      subst (λ (ds : List Domain). Q (tree_cap (steps_of whole) (view_of ds) (tree_over 0 levels trees))) (ap (λ (ds : List Domain). met ds left) (no-cut base) ∙ sym root_is)
      (over-cap Q closed whole base left long levels are levels 0 0 trees (omega arith) within
      (λ i l.
      let number : i ≡ 0 * 2 ^ levels + i = omega arith in
      subst (λ (n : ℕ). Q (part_cap whole base left levels n (get_or trees i no_tree))) number
      (of-cap target depth whole base left levels i (get_or trees i no_tree) (get_or claims i Infeasible) (each i l) Q (holds i l))))

  real : root_cap whole (tree_over 0 levels trees) ≢ Bad
  real = joined-cap (λ (c : Capped). c ≢ Bad) greater-real (λ part l. (own-led target depth whole base left levels part (get_or trees part no_tree) (get_or claims part Infeasible) (each part l)).1)

  -- the items lead to the joined cap
  led : walked {R = Rows} {A = Area} {F = Found} (steps_of whole) (start (view_of whole.program.root)) (tree_items (tree_over 0 levels trees)) ≡ ended (root_cap whole (tree_over 0 levels trees))
  led = walked-whole Rows Area Found (steps_of whole) (tree_over 0 levels trees) (view_of whole.program.root) ∙ real_outcome (root_cap whole (tree_over 0 levels trees)) real

  -- no found point has a defect
  all-fine : All (IsFine (choices_of whole)) (tree_items (tree_over 0 levels trees))
  all-fine =
      over-items (IsFine (choices_of whole)) levels levels 0 trees tt (λ k l. tt) (omega arith)
      (λ i l. fine-parts target depth whole base left levels i (get_or trees i no_tree) (get_or claims i Infeasible) (each i l))

  -- what a place of the claims has
  at-place : (place : ℕ) → place < length claims → IsPartProof target depth whole base left levels place (get_or trees place no_tree) (get_or claims place Infeasible)
  at-place place l = each place (omega (arith, l, all))

  written-at : (place : ℕ) → place < length claims → IsWrittenClaim (length (choices_of whole).root) (get_or claims place Infeasible)
  written-at place l = (own-written target depth whole base left levels place (get_or trees place no_tree) (get_or claims place Infeasible) (at-place place l)).claim_written

  -- the best plan has no defect, and may be written
  best-fine : (plan : Option ClaimedPlan) → IsBestPlan claims plan → IfSome plan (λ p. IsFinePoint (choices_of whole) p.profit p.point)
  best-fine None best = tt
  best-fine (Some plan) best =
      let found = best-place claims plan best in
      let proof = at-place found.0 found.1.0 in
      fine-whole (choices_of whole) (choices_of proof.part) plan.profit plan.point proof.is.judged (plan-fine (choices_of proof.part) proof.sound.proof_cap (get_or claims found.0 Infeasible) plan proof.sound.sound found.1.1)

  best-written : (plan : Option ClaimedPlan) → IsBestPlan claims plan → IfSome plan (IsWrittenPlan (length (choices_of whole).root))
  best-written None best = tt
  best-written (Some plan) best =
      let found = best-place claims plan best in
      plan-written (length (choices_of whole).root) (get_or claims found.0 Infeasible) plan (written-at found.0 found.1.0) found.1.1

  -- the joined cap is not above the greatest cap of the claims, which may be written
  best-caps : (cap : Option ℤ) → IsBestCap claims cap → IsCappedBy cap (root_cap whole (tree_over 0 levels trees))
  best-caps None none =
      joined-cap AllowsNone greater-allows_none
      (λ part l. let proof = each part l in no_cap-none (choices_of proof.part) proof.sound.proof_cap (get_or claims part Infeasible) proof.sound.sound (none part Infeasible (omega (arith, l, all))))
  best-caps (Some cap) best =
      joined-cap (IsNotAbove cap) (greater-not_above cap)
      (λ part l. let proof = each part l in capped-fine (choices_of proof.part) proof.sound.proof_cap (get_or claims part Infeasible) cap proof.sound.sound (best.most part Infeasible (omega (arith, l, all))))

  cap-short : (cap : Option ℤ) → IsBestCap claims cap → IfSome cap IsShort
  cap-short None none = tt
  cap-short (Some cap) best = cap-written (length (choices_of whole).root) (get_or claims best.place Infeasible) cap (written-at best.place best.within) best.has

  -- the joined proof and the joined claim have no defect
  joined-sound : IsSoundLog whole (tree_over 0 levels trees) claim
  joined-sound = record {
    proof_cap = root_cap whole (tree_over 0 levels trees);
    proved = record {
      sound = items_sound whole (start (view_of whole.program.root)) (tree_items (tree_over 0 levels trees)) (root_cap whole (tree_over 0 levels trees)) all-fine led;
      led = led;
    };
    sound = subst (HasNoDefect (choices_of whole) (root_cap whole (tree_over 0 levels trees))) (sym joined.is)
        (with-sound (choices_of whole) (root_cap whole (tree_over 0 levels trees)) joined.plan joined.cap (best-fine joined.plan joined.best_plan) (best-caps joined.cap joined.best_cap));
  }

  -- the joined log is one of written lines
  joined-written : IsWrittenLog (length (choices_of whole).root) (tree_over 0 levels trees) claim
  joined-written =
      let few_slots = whole.program.few_slots in
      record {
        items_over = over-items (IsOver (length (choices_of whole).root)) levels levels 0 trees tt (λ k l. tt) (omega arith)
            (λ i l. (own-written target depth whole base left levels i (get_or trees i no_tree) (get_or claims i Infeasible) (each i l)).items_over);
        items = over-items IsWrittenItem levels levels 0 trees node-written (λ k l. split-written k (omega (arith, l, few))) (omega arith)
            (λ i l. (own-written target depth whole base left levels i (get_or trees i no_tree) (get_or claims i Infeasible) (each i l)).items);
        claim_written = subst (IsWrittenClaim (length (choices_of whole).root)) (sym joined.is)
            (with-written (length (choices_of whole).root) joined.plan joined.cap (best-written joined.plan joined.best_plan) (cap-short joined.cap joined.best_cap));
      }

  joined-log : IsLog whole (log_text target (tree_items (tree_over 0 levels trees)) claim) (tree_over 0 levels trees) claim
  joined-log = record { version = target; text = refl; over = log-over target (length (choices_of whole).root) (tree_over 0 levels trees) claim known joined-written }

  -- its text has no text defect
  joined-clean : log_text_defect (limits_of whole depth) (log_text target (tree_items (tree_over 0 levels trees)) claim) ≡ None
  joined-clean =
      text-clean target (limits_of whole depth) (tree_over 0 levels trees) claim (log-over target (length (choices_of whole).root) (tree_over 0 levels trees) claim known joined-written)
      (over-lead target (limits_of whole depth) levels levels 0 trees [] (omega arith) there (omega (arith, deep)) refl
      (λ i l. own-lead target depth whole base left levels i (get_or trees i no_tree) (get_or claims i Infeasible) (each i l) deep))

  -- the verdict on it is yes
  joined-right : IsVerdict whole depth (log_text target (tree_items (tree_over 0 levels trees)) claim) (verdict.Yes claim)
  joined-right =
      let bytes = log_text target (tree_items (tree_over 0 levels trees)) claim in
      subst (λ (found : Option (ℕ × ℕ)). IsVerdictGiven whole bytes found (verdict.Yes claim)) (sym joined-clean)
      (record { tree = tree_over 0 levels trees; is_log = joined-log; sound_log = joined-sound })

-- ---- with what the parts declare

-- what is lawful in one program is so in another
pointed-more : (one other : Program) (claim : Claim) → ((point : List ℕ) → IsLawful one point → IsLawful other point) → IsPointed one claim → IsPointed other claim
pointed-more one other claim more is = by (plan_of claim) is
  where
    by : (plan : Option ClaimedPlan) → IfSome plan (λ own. IsLawful one own.point) → IfSome plan (λ own. IsLawful other own.point)
    by None holds = tt
    by (Some plan) holds = more plan.point holds

-- what the claim of a part's log says of the plans of the part
part-says : (plant : Plant) (levels number : ℕ) (bytes : List ℕ) (declared : Declared) (tree : RowTree) (claim : Claim) → Sound plant → levels ≤ length (slots plant) → IsPartLog plant levels number bytes declared tree claim → SaysOf plant (IsOfPart plant levels number) claim
part-says plant levels number bytes declared tree claim sound within log =
    let exact = λ (plan : List Start). part-exact plant levels number log.program plan sound within log.of_part.root in
    same-plans (IsAdmitted plant log.program) (IsOfPart plant levels number) (profit plant) (plan_of_values plant) claim (λ plan. (exact plan).0) (λ plan. (exact plan).1) log.right.holds

-- the logs of all parts, and a version whose head can declare what they do
pub record AllTrees (plant : Plant) (levels : ℕ) (logs : ℕ → List ℕ) (declared : Declared) (newest : Bool) (heads : List ℕ) (trees : List RowTree) (claims : List Claim) : Type 0 where
  pub sound : Sound plant
  pub some : 1 ≤ levels
  pub few : levels ≤ 8
  pub within : levels ≤ length (slots plant)
  pub may : MayDeclare plant (head_limits plant levels) (joined_version newest declared.sums) declared
  pub known : (newest ≡ true) ↔ HasNewest logs (2 ^ levels)
  pub all_trees : length trees ≡ 2 ^ levels
  pub all_claims : length claims ≡ 2 ^ levels
  pub each : (part : ℕ) → part < 2 ^ levels → IsPartTree plant levels part (logs part) declared (get_or heads part 0) (get_or trees part no_tree) (get_or claims part Infeasible)

-- ---- logs of version 4

-- the version of the log behind a head of version 4, and behind any other
behind-newest : (version : ℕ) → version ≡ 4 → version_behind version ≡ 4
behind-newest version four = ap (λ (b : Bool). if b then 4 else 2) (eq-eqb version 4 four)

behind-other : (version : ℕ) → version ≢ 4 → version_behind version ≡ 2
behind-other version other = ap (λ (b : Bool). if b then 4 else 2) (ne_eqb version 4 other)

-- a joined log that is not of version 4 has no part of that version
not-newest : (newest : Bool) (sums : List Sum) → joined_version newest sums ≢ 4 → newest ≡ false
not-newest true sums other = absurd (other refl)
not-newest false sums other = refl

-- the text of a log of version 4 begins with that line
four-text : (items : List RowItem) (claim : Claim) → log_text 4 items claim ≡ codes "stn-log 4" ++ 10 ∷ lines_text (flat_map item_lines items ++ (claim_lines claim ++ End ∷ []))
unfolding log_text log_lines lines_text line_text number_text
four-text items claim = let e = decimal_digit 4 (omega arith) in rw e refl

-- and no text that begins with the line of version 2 is one
two-first : (rest : List ℕ) → get_or (lines_text (Header 2 ∷ []) ++ rest) 8 0 ≡ 50
unfolding lines_text line_text number_text
two-first rest = let e = decimal_digit 2 (omega arith) in rw e refl

-- a log behind a head is of version 4 only where the whole log is
log-newest : (bytes : List ℕ) (version head : ℕ) (rows : Rows) (tree : RowTree) (claim : Claim) (log : IsLog rows (behind version head bytes) tree claim) → (version ≡ 4 → IsNewest bytes) → log.version ≡ 4 → IsNewest bytes
log-newest bytes version head rows tree claim log newest four = by head (subst (λ (v : ℕ). behind version head bytes ≡ log_text v (tree_items tree) claim) four log.text ∙ four-text (tree_items tree) claim)
  where
    rest : List ℕ
    rest = lines_text (flat_map item_lines (tree_items tree) ++ (claim_lines claim ++ End ∷ []))

    by : (n : ℕ) → behind version n bytes ≡ codes "stn-log 4" ++ 10 ∷ rest → IsNewest bytes
    by zero text = record { after = rest; is = text }
    by (suc n) text =
        elim (cases_eq version 4) [
          | inl is ↦ newest is
          | inr other ↦
              let two : behind version (suc n) bytes ≡ lines_text (Header 2 ∷ []) ++ drop (suc n) bytes = ap (λ (v : ℕ). lines_text (Header v ∷ []) ++ drop (suc n) bytes) (behind-other version other) in
              let apart : 50 ≡ 52 = sym (two-first (drop (suc n) bytes)) ∙ ap (λ (text : List ℕ). get_or text 8 0) (sym two ∙ text) in
              absurd (omega (arith, apart))
        ]

-- the domains of a plant's slots, and more behind them: the first are those of slots
first-slots : (plant : Plant) (levels : ℕ) (more : List Domain) → Sound plant → levels ≤ length (slots plant) → AreFirstOfSlots levels (plant_root plant ++ more)
first-slots plant levels more sound within k l =
    let low : k < length (plant_root plant) = omega (arith, l, within, length-map (slots plant) (slot_domain plant)) in
    subst IsOfSlot (sym (get_or_append_left (plant_root plant) more no_values k low)) (plant-slots plant sound k low)

-- and they are normal
slots-normal : (plant : Plant) → Sound plant → All IsNormal (plant_root plant)
slots-normal plant sound k d l = subst IsNormal (get_or_default (plant_root plant) k no_values d l) (plant-slots plant sound k l).normal

-- the first slots of a part's root with sums are those of a plant, and what a head is judged over holds all of it, where it sets no unit up
pub part-stays : (plant : Plant) (levels number : ℕ) (part between wide : Program) (sums : List Sum) (units : List ℕ) → Sound plant → levels ≤ length (slots plant) → part.root ≡ cut_root levels number (plant_root plant) → IsWithSums part (plant_root plant) sums between
    → AreSetUp plant units between wide → units ≡ [] → met wide.root (wide_domains plant part (plant_root plant) sums units) ≡ wide.root
part-stays plant levels number part between wide sums [] sound within root added set none =
    let base = plant_root plant in
    let own = map (sum_domain part base) sums in
    let all : length base ≡ length (slots plant) = length-map (slots plant) (slot_domain plant) in
    let is : wide.root ≡ cut_root levels number (base ++ own) = ap (λ (p : Program). p.root) set ∙ added.root ∙ ap (λ (ds : List Domain). ds ++ own) root ∙ sym (cut-front levels number base own (omega (arith, within, all))) in
    subst (λ (ds : List Domain). met ds (base ++ own) ≡ ds) (sym is) (cut-stays (base ++ own) (base ++ own) levels number refl (first-slots plant levels own sound within)
    (All-append IsNormal base own (slots-normal plant sound) (All-second IsNormal part.root own (subst (All IsNormal) added.root between.root_normal))))
part-stays plant levels number part between wide sums (unit ∷ units) sound within root added set none = absurd cc

module _ (plant : Plant) (levels : ℕ) (logs : ℕ → List ℕ) (declared : Declared) (newest : Bool) (heads : List ℕ) (trees : List RowTree) (claims : List Claim) (all : AllTrees plant levels logs declared newest heads trees claims) (whole : Program) (made : IsMadeOf plant whole) where
  abbrev sums : List Sum
  sums = declared.sums

  abbrev units : List ℕ
  units = declared.units

  abbrev derivations : List Derivation
  derivations = declared.derivations

  abbrev base : List Domain
  base = plant_root plant

  -- the limits of the heads are those of the plant's program
  slots-same : length whole.root ≡ length (slots plant)
  slots-same = ap length made.root_is ∙ length-map (slots plant) (slot_domain plant)

  declared-here : All (IsDeclared (length whole.root)) sums
  declared-here = subst (λ (n : ℕ). All (IsDeclared n) sums) (sym slots-same) all.may.sums.declared

  levels-there : levels ≤ length whole.root
  levels-there = (let within = all.within in omega (arith, within, slots-same))

  rows-same : (k : ℕ) (l : k < 2 ^ levels) → (all.each k l).program.rows ≡ whole.rows
  rows-same k l = (but-root plant whole (all.each k l).program made (all.each k l).of_part.is_part).rows

  root-cut : (k : ℕ) (l : k < 2 ^ levels) → (all.each k l).program.root ≡ cut_root levels k whole.root
  root-cut k l = (all.each k l).of_part.root ∙ ap (cut_root levels k) (sym made.root_is)

  long-same : (k : ℕ) (l : k < 2 ^ levels) → length (all.each k l).program.root ≡ length whole.root
  long-same k l = ap length (root-cut k l) ∙ length-cut levels k whole.root

  -- each part's program with its head, as with one of version 4
  head-of-part : (k : ℕ) (l : k < 2 ^ levels) → IsWithHead plant 4 (all.each k l).program base sums units derivations (all.each k l).rows
  head-of-part k l =
      let is = all.each k l in
      as-four plant is.version is.program base sums units derivations is.rows is.enlarged is.none
      (part-stays plant levels k is.program is.enlarged.between is.enlarged.wide sums units all.sound all.within is.of_part.root is.enlarged.with_sums is.enlarged.with_setups)

  -- the sums are shown
  pub all-shown : All (IsShown whole base) sums
  all-shown =
      let first = all.each 0 (pow_pos levels) in
      All-weaker (IsShown first.program base) (IsShown whole base) (λ sum is. shown-same first.program whole base sum (rows-same 0 (pow_pos levels)) is) sums (head-of-part 0 (pow_pos levels)).sums_shown

  -- a program with the head has the same points
  same-whole : (wide : Rows) → IsWithHead plant 4 whole base sums units derivations wide → HaveSamePoints whole (choices_of wide) (completed sums) (given_of whole)
  same-whole wide added = head-points plant 4 whole base sums units derivations wide (plant-ranges plant whole made) declared-here added

  same-part : (k : ℕ) (l : k < 2 ^ levels) → HaveSamePoints (all.each k l).program (choices_of (all.each k l).rows) (completed sums) (given_of (all.each k l).program)
  same-part k l =
      let is = all.each k l in
      head-points plant 4 is.program base sums units derivations is.rows (part-ranges plant is.program is.of_part.is_part) (subst (λ (n : ℕ). All (IsDeclared n) sums) (sym (long-same k l)) declared-here) (head-of-part k l)

  -- the claim of a part over the part's program with the head
  own-claim : (k : ℕ) (l : k < 2 ^ levels) → ((all.each k l).own ≡ larger_claim sums (get_or claims k Infeasible)) × IsPointed (all.each k l).program (get_or claims k Infeasible)
  own-claim k l =
      let is = all.each k l in
      let judged = choices_of is.rows in
      let own = own-larger is.program judged sums is.own (same-part k l) (fine-pointed judged is.sound.proof_cap is.own is.sound.sound) in
      subst (λ (claim : Claim). (is.own ≡ larger_claim sums claim) × IsPointed is.program claim) (sym is.claim_is) own

  -- its point is lawful in the plant's program
  pointed : (k : ℕ) (l : k < 2 ^ levels) → IsPointed whole (get_or claims k Infeasible)
  pointed k l =
      let is = all.each k l in
      let but = but-root plant whole is.program made is.of_part.is_part in
      let part : IsPart whole is.program = record { rows = but.rows; profit = but.profit; base = but.base; worth = λ point lawful. worth-part whole is.program point but; within = within-root plant whole is.program made is.of_part.is_part } in
      pointed-more is.program whole (get_or claims k Infeasible) (λ point lawful. lawful-part whole is.program point part lawful) (own-claim k l).1

  -- what a head of the plant's program leaves of its slots' domains
  abbrev left-of : (wide : Rows) → IsWithHead plant 4 whole base sums units derivations wide → List Domain
  left-of wide added = (grown_by added.wide (wide_domains plant whole base sums units) derivations).domains

  -- where none of the logs is of version 4, a log of version 2 may have the lines of each
  lines-two : newest ≡ false → (k : ℕ) (l : k < 2 ^ levels) → HasLinesOf 2 (all.each k l).log.version
  lines-two old k l =
      let is = all.each k l in
      inr (
        omega arith,
        λ four.
            let newest_log = log-newest (logs k) is.version (get_or heads k 0) is.rows (get_or trees k no_tree) is.own is.log is.newest four in
            let yes = all.known.1 (k, (l, newest_log)) in
            let clash : true ≡ false = sym yes ∙ old in
            cc,
      )

  -- the plant's domains are as many as the slots
  judged-long : length base ≡ length whole.root
  judged-long = sym (ap length made.root_is)

  -- what each log says over the plant's rows with the head
  each-proof : (target : ℕ) → ((k : ℕ) (l : k < 2 ^ levels) → HasLinesOf target (all.each k l).log.version) → (wide : Rows) (added : IsWithHead plant 4 whole base sums units derivations wide) → (k : ℕ) → k < 2 ^ levels
      → IsPartProof target (depth_limit plant) wide added.wide.root (left-of wide added) levels k (get_or trees k no_tree) (get_or (map (larger_claim sums) claims) k Infeasible)
  each-proof target has wide added k l =
      let is = all.each k l in
      let but = but-root plant whole is.program made is.of_part.is_part in
      let claim : is.own ≡ get_or (map (larger_claim sums) claims) k Infeasible = (own-claim k l).0 ∙ sym (claim-at sums claims k (let long = all.all_claims in omega (arith, l, long))) in
      record {
        part = is.rows;
        bytes = behind is.version (get_or heads k 0) (logs k);
        is = part-larger plant whole is.program base sums units derivations wide is.rows but (within-root plant whole is.program made is.of_part.is_part) (long-same k l) judged-long added (head-of-part k l) (same-whole wide added) (same-part k l);
        root = root-larger plant whole is.program base sums units derivations is.rows added.between added.wide levels k levels-there but (root-cut k l) added.with_sums added.with_setups (head-of-part k l);
        log = record {
          version = is.log.version;
          text = is.log.text ∙ ap (log_text is.log.version (tree_items (get_or trees k no_tree))) claim;
          over = subst (IsLogOver (length (choices_of is.rows).root) is.log.version (get_or trees k no_tree)) claim is.log.over;
        };
        lines = has k l;
        clean = is.clean;
        sound = subst (IsSoundLog is.rows (get_or trees k no_tree)) claim is.sound;
      }

  -- the plant's program with the sums and the setups has the first slots of the plant
  wide-first : (between wide : Program) → IsWithSums whole base sums between → AreSetUp plant units between wide → (more : List Domain) × (wide.root ≡ base ++ more)
  wide-first between wide added set =
      let own = map (sum_domain whole base) sums in
      let begins = begins-several plant units between wide set in
      (own ++ begins.slots, begins.root ∙ ap (λ (ds : List Domain). ds ++ begins.slots) (added.root ∙ ap (λ (ds : List Domain). ds ++ own) made.root_is) ∙ append_assoc base own begins.slots)

  first-here : (between wide : Program) → IsWithSums whole base sums between → AreSetUp plant units between wide → AreFirstOfSlots levels wide.root
  first-here between wide added set = let of = wide-first between wide added set in subst (AreFirstOfSlots levels) (sym of.1) (first-slots plant levels of.0 all.sound all.within)

  wide-there : (between wide : Program) → IsWithSums whole base sums between → AreSetUp plant units between wide → levels ≤ length wide.root
  wide-there between wide added set = let of = wide-first between wide added set in omega (arith, levels-there, judged-long, ap length of.1, length-append base of.0)

  -- what a head leaves has a domain for each slot
  left-long : (wide : Rows) (added : IsWithHead plant 4 whole base sums units derivations wide) → length (left-of wide added) ≡ length added.wide.root
  left-long wide added =
      slots-after_all (begun added.wide (wide_domains plant whole base sums units)) derivations ∙ wide-long plant whole added.between added.wide base sums units judged-long added.with_sums added.with_setups

  -- what a head is judged over holds all of the plant's root, where it sets no unit up
  whole-stays : (between wide : Program) (own : List Sum) (set : List ℕ) → IsWithSums whole base own between → AreSetUp plant set between wide → set ≡ [] → met wide.root (wide_domains plant whole base own set) ≡ wide.root
  whole-stays between wide own set added is none = part-stays plant 0 0 whole between wide own set all.sound (omega arith) (made.root_is ∙ sym (no-cut base)) added is none

  -- without sums, setups and derivations the plant's program is itself
  plain-head : IsWithHead plant 4 whole base [] [] [] (plain whole)
  plain-head =
      let none = none-enlarged whole base in
      let three : IsWithHead plant 3 whole base [] [] [] (plain whole) = record {
        sums_shown = All-nil (IsShown whole base);
        between = whole;
        with_sums = none;
        wide = whole;
        with_setups = refl;
        derivations_shown = tt;
        grown = inl (refl, refl, refl);
        choices = refl;
      } in
      as-four plant 3 whole base [] [] [] (plain whole) three (λ e. refl) (whole-stays whole whole [] [] none refl)

  module _ (claim : Claim) (joined : IsJoined claims claim) where
    -- the joined log over the plant's rows with the head
    right-over : (target : ℕ) → IsVersion target → ((k : ℕ) (l : k < 2 ^ levels) → HasLinesOf target (all.each k l).log.version) → (wide : Rows) → IsWithHead plant 4 whole base sums units derivations wide
        → IsVerdict wide (depth_limit plant) (log_text target (tree_items (tree_over 0 levels trees)) (larger_claim sums claim)) (verdict.Yes (larger_claim sums claim))
    right-over target known has wide added =
        joined-right target (depth_limit plant) known wide added.wide.root (left-of wide added) (left-long wide added) (derived-of plant whole base sums units derivations wide added).root levels trees (map (larger_claim sums) claims) (larger_claim sums claim)
        (first-here added.between added.wide added.with_sums added.with_setups) all.few (omega (arith, all.few, (depth-within plant).0)) (wide-there added.between added.wide added.with_sums added.with_setups)
        (each-proof target has wide added) (length-map claims (larger_claim sums) ∙ all.all_claims) (joined-larger sums claims claim joined)

    -- its point is lawful
    pub joint-pointed : IsPointed whole claim
    joint-pointed = joined-pointed whole claims claim joined (λ place l. pointed place (let long = all.all_claims in omega (arith, l, long)))

    -- the plant's rows with the head
    wide-some : (wide : Rows) × IsWithHead plant 4 whole base sums units derivations wide
    wide-some =
        let first = all.each 0 (pow_pos levels) in
        head-whole plant whole first.program base sums units derivations first.rows (but-root plant whole first.program made first.of_part.is_part) (long-same 0 (pow_pos levels)) judged-long (head-of-part 0 (pow_pos levels))

    -- and those of a head of version 3, which has neither setups nor derivations
    abbrev three-rows : Rows
    three-rows = plain wide-some.1.wide

    three-of : units ≡ [] → IsWithHead plant 3 whole base sums units derivations three-rows
    three-of none =
        let is = wide-some.1 in
        record {
          sums_shown = is.sums_shown;
          between = is.between;
          with_sums = is.with_sums;
          wide = is.wide;
          with_setups = is.with_setups;
          derivations_shown = is.derivations_shown;
          grown = inl (refl, none, refl);
          choices = sym (ap (λ (us : List ℕ). choices_before us is.between) none);
        }

    three-wide : units ≡ [] → derivations ≡ [] → IsWithHead plant 4 whole base sums units derivations three-rows
    unfolding three-of wide-some
    three-wide none nothing =
        let is = wide-some.1 in
        as-four plant 3 whole base sums units derivations three-rows (three-of none) (λ e. nothing) (whole-stays is.between is.wide sums units is.with_sums is.with_setups)

    abbrev text : ℕ → List ℕ
    text version = declared_text version declared (tree_over 0 levels trees) (larger_claim sums claim)

    may-here : (version : ℕ) → MayDeclare plant (head_limits plant levels) version declared → MayDeclare plant (limits_of (plain whole) (depth_limit plant)) version declared
    may-here version may =
        let deeper = may_deeper plant (head_limits plant levels) (depth_limit plant) version declared may in
        let made' : ℕ → ℕ → Limits = λ r s. record { rows = r; slots = s; points = s; depth = depth_limit plant } in
        let same : made' (length (plant_rows plant)) (length (slots plant)) ≡ limits_of (plain whole) (depth_limit plant) =
        ap (λ (r : ℕ). made' r (length (slots plant))) (sym (ap length made.rows_are)) ∙ ap (made' (length whole.rows)) (sym slots-same) in
        subst (λ (l : Limits). MayDeclare plant l version declared) same deeper

    given-here : (wide : Rows) → IsWithHead plant 4 whole base sums units derivations wide → claim ≡ given_claim (length whole.root) (larger_claim sums claim)
    given-here wide added = given-larger whole (choices_of wide) sums claim (same-whole wide added) joint-pointed

    -- the text of version 2, which declares nothing
    right-plain : newest ≡ false → sums ≡ [] → units ≡ [] → derivations ≡ [] → IsAnyVerdict plant whole base base (depth_limit plant) (text 2) (verdict.Yes claim)
    right-plain old none unset nothing =
        let tree = tree_over 0 levels trees in
        let own : larger_claim sums claim ≡ claim = ap (λ (ss : List Sum). larger_claim ss claim) none ∙ larger-none claim in
        let is = subst (λ (ss : List Sum). IsWithHead plant 4 whole base ss units derivations (plain whole)) (sym none)
        (subst (λ (us : List ℕ). IsWithHead plant 4 whole base [] us derivations (plain whole)) (sym unset)
        (subst (λ (ds : List Derivation). IsWithHead plant 4 whole base [] [] ds (plain whole)) (sym nothing) plain-head)) in
        let larger = larger_claim sums claim in
        let right = subst (λ (c : Claim). IsVerdict (plain whole) (depth_limit plant) (log_text 2 (tree_items tree) larger) (verdict.Yes c)) own (right-over 2 (omega arith, omega arith, omega arith) (lines-two old) (plain whole) is) in
        subst (λ (bytes : List ℕ). IsAnyVerdict plant whole base base (depth_limit plant) bytes (verdict.Yes claim)) (sym (text_plain declared tree larger))
        (plain-verdict plant whole base base (depth_limit plant) (tree_items tree) larger (verdict.Yes claim) right)

    pub right-any : IsAnyVerdict plant whole base base (depth_limit plant) (text (joined_version newest sums)) (verdict.Yes claim)
    right-any = by (joined_version newest sums) refl all.may
      where
        by : (version : ℕ) → joined_version newest sums ≡ version → MayDeclare plant (head_limits plant levels) version declared → IsAnyVerdict plant whole base base (depth_limit plant) (text version) (verdict.Yes claim)
        by version is_version may = elim may.known [
          | inl two ↦
              let old = not-newest newest sums (λ four. omega (arith, is_version, two, four)) in
              let other : version ≢ 4 = λ four. omega (arith, two, four) in
              subst (λ (v : ℕ). IsAnyVerdict plant whole base base (depth_limit plant) (text v) (verdict.Yes claim)) (sym two) (right-plain old (may.plain two) (may.few_units other) (may.few other))
          | inr known ↦ elim known [
            | inl three ↦
                let other : version ≢ 4 = λ four. omega (arith, three, four) in
                let none = may.few other in
                let unset = may.few_units other in
                let old = not-newest newest sums (λ four. omega (arith, is_version, three, four)) in
                let inner : 2 ≡ version_behind version = sym (behind-other version other) in
                let own = subst (λ (v : ℕ). IsWithHead plant v whole base sums units derivations three-rows) (sym three) (three-of unset) in
                headed_any plant whole three-rows base version (depth_limit plant) declared (tree_over 0 levels trees) (larger_claim sums claim) claim (inl three) (may-here version may) own
                (subst (λ (v : ℕ). IsVerdict three-rows (depth_limit plant) (log_text v (tree_items (tree_over 0 levels trees)) (larger_claim sums claim)) (verdict.Yes (larger_claim sums claim))) inner
                (right-over 2 (omega arith, omega arith, omega arith) (lines-two old) three-rows (three-wide unset none)))
                (given-here three-rows (three-wide unset none))
            | inr four ↦
                let wide = wide-some in
                let inner : 4 ≡ version_behind version = sym (behind-newest version four) in
                headed_any plant whole wide.0 base version (depth_limit plant) declared (tree_over 0 levels trees) (larger_claim sums claim) claim (inr four) (may-here version may)
                (subst (λ (v : ℕ). IsWithHead plant v whole base sums units derivations wide.0) (sym four) wide.1)
                (subst (λ (v : ℕ). IsVerdict wide.0 (depth_limit plant) (log_text v (tree_items (tree_over 0 levels trees)) (larger_claim sums claim)) (verdict.Yes (larger_claim sums claim))) inner
                (right-over 4 (omega arith, omega arith, omega arith) (λ k l. inl refl) wide.0 wide.1))
                (given-here wide.0 wide.1)
          ]
        ]

-- where the logs of all parts are valid, the joined log is a valid log of the plant
pub joined_valid : (plant : Plant) (levels : ℕ) (logs : ℕ → List ℕ) (declared : Declared) (newest : Bool) (heads : List ℕ) (trees : List RowTree) (claims : List Claim) (claim : Claim) → AllTrees plant levels logs declared newest heads trees claims
    → IsJoined claims claim → IsAnyChecked plant (declared_text (joined_version newest declared.sums) declared (tree_over 0 levels trees) (larger_claim declared.sums claim)) (verdict.Yes claim)
joined_valid plant levels logs declared newest heads trees claims claim all joined =
    let part = (all.each 0 (pow_pos levels)).of_part.is_part in
    record {
      program = part.whole;
      of_plant = of_plant plant part.whole all.sound part.made part.means;
      right = right-any plant levels logs declared newest heads trees claims all part.whole part.made claim joined;
      holds = joined-says plant levels claims claim joined all.all_claims
          (λ k l. part-says plant levels k (logs k) declared (get_or trees k no_tree) (get_or claims k Infeasible) all.sound all.within (all.each k (let long = all.all_claims in omega (arith, l, long))).is);
    }

-- so the text of the head, of the tree of splits and of the joined claim is the joined log
pub joined_log : (plant : Plant) (levels : ℕ) (logs : ℕ → List ℕ) (declared : Declared) (newest : Bool) (heads : List ℕ) (trees : List RowTree) (claims : List Claim) (claim : Claim) (bytes : List ℕ) → AllTrees plant levels logs declared newest heads trees claims
    → IsJoined claims claim → bytes ≡ declared_text (joined_version newest declared.sums) declared (tree_over 0 levels trees) (larger_claim declared.sums claim) → IsJoinedLog plant levels logs claim bytes
joined_log plant levels logs declared newest heads trees claims claim bytes all joined text = record {
  declared = declared;
  newest = newest;
  trees = trees;
  claims = claims;
  all_trees = all.all_trees;
  all_claims = all.all_claims;
  each = λ part l. (all.each part l).is;
  joined = joined;
  is_newest = all.known;
  text = text;
  valid = subst (λ (b : List ℕ). IsAnyChecked plant b (verdict.Yes claim)) (sym text) (joined_valid plant levels logs declared newest heads trees claims claim all joined);
}

-- the sums suit the joined claim
pub joined_fit : (plant : Plant) (levels : ℕ) (logs : ℕ → List ℕ) (declared : Declared) (newest : Bool) (heads : List ℕ) (trees : List RowTree) (claims : List Claim) (claim : Claim) → AllTrees plant levels logs declared newest heads trees claims
    → IsJoined claims claim → IsFit plant declared.sums claim
joined_fit plant levels logs declared newest heads trees claims claim all joined program made =
    (all-shown plant levels logs declared newest heads trees claims all program made, joint-pointed plant levels logs declared newest heads trees claims all program made claim joined)
