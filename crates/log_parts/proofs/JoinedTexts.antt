-- The text of a joined log has no text defect, and its lines may be written.
use Rattle.std.proofs.Common.{◌≡◌, ℕ, ℤ, pos, zero, suc, ◌+◌, ◌-◌, ◌<◌, ◌≤◌, ◌^◌, Bool, true, false, leb, if◌then◌else◌, List, [], ◌∷◌, ◌++◌, length, get_or, take, drop, flat_map, Option, None, Some, refl, sym, ap, ◌∙◌, subst, arith, append-nil}
use Rattle.std.specs.Prelude.{IsSomeAnd, IfSome}
use Rattle.std.specs.List.{All}
use Rattle.std.proofs.Math.Nat.{pow-suc}
use Rattle.std.proofs.lemmas.Bool.{le-ltb}
use Rattle.std.proofs.lemmas.Bool.Decides.{nat_tests}
use Rattle.std.proofs.lemmas.Grind.{flat_map-append}
use Rattle.std.proofs.lemmas.List.Elements.{All-nil, All-cons, All-append, All-head, All-tail}
use Rattle.proof_tree.specs.declared.item.Item.TheVariants.{Node, Split}
use Rattle.proof_tree.specs.Items.{tree_items}
use Rattle.row_relax.specs.declared.rows.Rows.{Rows}
use Rattle.row_relax.specs.Choices.{choices_of}
use Rattle.row_relax.specs.RowProofs.{RowItem, RowTree}
use Rattle.log_lines.specs.declared.line.Line.TheVariants.{Header, Node as NodeLine, Split as SplitLine, ClaimOptimal, ClaimInfeasible, ClaimBetween, ClaimBelow, End as EndLine}
use Rattle.log_lines.specs.declared.grammar.Limits.{Limits}
use Rattle.log_lines.specs.declared.grammar.Place.TheVariants.{Node as AtNode, Inside, Claim as AtClaim, End as AtEnd, Done}
use Rattle.log_lines.specs.declared.step.Step.TheVariants.{At, Opens}
use Rattle.log_lines.specs.Grammar.{Standing, new_standing}
use Rattle.log_lines.specs.Line.{IsLine, IsShort, IsVersion}
use Rattle.log_lines.specs.TextDefect.{log_text_defect}
use Rattle.proof_log.specs.declared.claim.Claim.{Claim}
use Rattle.proof_log.specs.declared.claim.Claim.TheVariants.{Optimal, Infeasible, Between, Below}
use Rattle.proof_log.specs.Accepted.{leads}
use Rattle.proof_log.specs.CleanTexts.{IsTextOfLog}
use Rattle.proof_log.specs.Log.{started, value_lines, item_lines, tree_lines, claim_lines, log_lines, log_text}
use Rattle.proof_log.specs.OneText.{IsOver, IsClaimOver, IsLogOver, SameLog}
use Rattle.proof_log.proofs.CleanTexts.{clean_texts}
use Rattle.proof_log.proofs.GrammarWalk.{front, back, at, closed, on, on-step, leads-then, leads-cons, claim_lead}
use Rattle.proof_log.proofs.NoDefect.{no_defect}
use Rattle.proof_log.proofs.OneText.{logs_same}
use Rattle.proof_log.proofs.WrittenLines.{none, more, natural, one_line_of, claim_fits}
use Rattle.valid_log.specs.Verdict.{IsLog, limits_of}
use Rattle.log_parts.specs.declared.joining.ClaimedPlan.{ClaimedPlan}
use Rattle.log_parts.specs.Joining.{plan_of, cap_of, claim_with}
use Rattle.log_parts.specs.PartLogs.{no_mults, no_tree, tree_over}
use Rattle.log_parts.proofs.JoinedClaims.{by-less}
use Rattle.log_parts.proofs.PartTexts.{HasLinesOf, deeper, tree_within}
use Rattle.log_parts.proofs.RootSplits.{in-halves}

-- ---- the lines of the tree of splits

module _ (wide : ℕ) (limits : Limits) where
  node-on : (sides : List Bool) → length sides ≤ limits.depth → on limits (at wide AtNode sides) NodeLine ≡ Some (at wide Inside sides)
  node-on sides low = on-step limits (at wide AtNode sides) NodeLine (At Inside) refl (ap (λ (b : Bool). if b then Some 9 else None) (le-ltb limits.depth (length sides) low))

  split-on : (slot : ℕ) (sides : List Bool) → slot < limits.slots → on limits (at wide Inside sides) (SplitLine slot 0 1 0) ≡ Some (at wide AtNode (false ∷ sides))
  split-on slot sides low =
      let test : leb limits.slots slot ≡ false = grind (arith, nat_tests) in
      on-step limits (at wide Inside sides) (SplitLine slot 0 1 0) Opens refl (ap (λ (b : Bool). if b then Some 5 else None) test)

  -- the lines of the tree of splits lead through it, where those of each part's tree do
  pub over-lead : (total levels slot : ℕ) (trees : List RowTree) (sides : List Bool) → slot + levels ≡ total → total ≤ limits.slots → total ≤ limits.depth → length sides ≡ slot
      → ((i : ℕ) → i < 2 ^ levels → (outer : List Bool) → length outer ≡ total → leads limits (at wide AtNode outer) (tree_lines (get_or trees i no_tree)) ≡ Some (closed wide outer))
      → leads limits (at wide AtNode sides) (tree_lines (tree_over slot levels trees)) ≡ Some (closed wide sides)
  unfolding item_lines
  over-lead total zero slot trees sides sum few deep long each = each 0 (omega arith) sides (omega (arith, sum, long))
  over-lead total (suc levels) slot trees sides sum few deep long each =
      let half = 2 ^ levels in
      let a = tree_over (slot + 1) levels (take half trees) in
      let b = tree_over (slot + 1) levels (drop half trees) in
      let lines = flat_map item_lines (tree_items a ++ tree_items b) in
      let further : (slot + 1) + levels ≡ total = omega (arith, sum) in
      let each_half = subst (λ (n : ℕ). (i : ℕ) → i < n → (outer : List Bool) → length outer ≡ total → leads limits (at wide AtNode outer) (tree_lines (get_or trees i no_tree)) ≡ Some (closed wide outer)) (pow-suc 2 levels) each in
      let halves = in-halves (λ (number : ℕ) (tree : RowTree). (outer : List Bool) → length outer ≡ total → leads limits (at wide AtNode outer) (tree_lines tree) ≡ Some (closed wide outer)) 0 half trees each_half in
      leads-cons limits (at wide AtNode sides) (at wide Inside sides) NodeLine (SplitLine slot 0 1 0 ∷ lines) (node-on sides (omega (arith, sum, deep, long)))
      ∙ leads-cons limits (at wide Inside sides) (at wide AtNode (false ∷ sides)) (SplitLine slot 0 1 0) lines (split-on slot sides (omega (arith, sum, few)))
      ∙ ap (leads limits (at wide AtNode (false ∷ sides))) (flat_map-append item_lines (tree_items a) (tree_items b))
      ∙ leads-then limits (at wide AtNode (false ∷ sides)) (at wide AtNode (true ∷ sides)) (tree_lines a) (tree_lines b)
      (over-lead total levels (slot + 1) (take half trees) (false ∷ sides) further few deep (omega (arith, long)) halves.0)
      ∙ over-lead total levels (slot + 1) (drop half trees) (true ∷ sides) further few deep (omega (arith, long)) halves.1

-- ---- a part's log

-- the lines of a log whose text has no defect lead to its end
last-standing : (limits : Limits) (lines : Option Standing) → IsSomeAnd lines (λ last. last.place ≡ Done) → (last : Standing) × (lines ≡ Some last)
last-standing limits None is = absurd is
last-standing limits (Some last) is = (last, refl)

pub log-leads : (rows : Rows) (depth : ℕ) (bytes : List ℕ) (tree : RowTree) (claim : Claim) (is : IsLog rows bytes tree claim) → log_text_defect (limits_of rows depth) bytes ≡ None
    → (last : Standing) × (leads (limits_of rows depth) new_standing (log_lines is.version (tree_items tree) claim) ≡ Some last)
log-leads rows depth bytes tree claim is clean =
    let limits = limits_of rows depth in
    let few_rows = rows.program.few_rows in
    let few_slots = rows.program.few_slots in
    let own : IsTextOfLog limits bytes = clean_texts limits bytes (omega (arith, few_rows)) (omega (arith, few_slots)) clean in
    let same : SameLog own.version is.version own.tree tree own.claim claim [] =
    logs_same (length (choices_of rows).root) own.version is.version own.tree tree own.claim claim [] own.over is.over
    (sym own.text ∙ is.text ∙ sym (append-nil (log_text is.version (tree_items tree) claim))) in
    let found = last-standing limits (leads limits new_standing (log_lines own.version (tree_items own.tree) own.claim)) own.accepted in (
      found.0,
      subst (λ (c : Claim). leads limits new_standing (log_lines is.version (tree_items tree) c) ≡ Some found.0) same.claim_same
          (subst (λ (t : RowTree). leads limits new_standing (log_lines is.version (tree_items t) own.claim) ≡ Some found.0) same.tree_same
          (subst (λ (v : ℕ). leads limits new_standing (log_lines v (tree_items own.tree) own.claim) ≡ Some found.0) same.version_same found.1)),
    )

-- rows have as many rows, slots and slots of points as others
pub record AreAsMany (whole part : Rows) : Type 0 where
  pub rows : length part.program.rows ≡ length whole.program.rows
  pub slots : length part.program.root ≡ length whole.program.root
  pub points : length (choices_of part).root ≡ length (choices_of whole).root

-- a part's limits, with a split more for each level, are the plant's
deeper-same : (whole part : Rows) (depth levels : ℕ) → AreAsMany whole part → levels ≤ depth → deeper (limits_of part (depth - levels)) levels ≡ limits_of whole depth
deeper-same whole part depth levels same few =
    let all : depth - levels + levels ≡ depth = omega arith in
    λ i. record { rows = same.rows i; slots = same.slots i; points = same.points i; depth = all i }

-- the lines of a part's tree lead through it in a log of the plant in which a split is open for each level
pub part-lead : (wide : ℕ) (whole part : Rows) (depth levels : ℕ) (bytes : List ℕ) (tree : RowTree) (claim : Claim) → AreAsMany whole part → levels ≤ depth
    → (is : IsLog part bytes tree claim) → HasLinesOf wide is.version → log_text_defect (limits_of part (depth - levels)) bytes ≡ None
    → (outer : List Bool) → length outer ≡ levels → leads (limits_of whole depth) (at wide AtNode outer) (tree_lines tree) ≡ Some (closed wide outer)
part-lead wide whole part depth levels bytes tree claim counts few is has clean outer same =
    let limits = limits_of part (depth - levels) in
    let found = log-leads part (depth - levels) bytes tree claim is clean in
    let within = tree_within wide limits is.version tree claim found.0 outer has found.1 in
    subst (λ (l : Limits). leads l (at wide AtNode outer) (tree_lines tree) ≡ Some (closed wide outer)) (ap (deeper limits) same ∙ deeper-same whole part depth levels counts few) within

-- ---- lines that may be written

-- the lines of an item may be written
abbrev pub IsWrittenItem : RowItem → Type 0
IsWrittenItem item = All IsLine (item_lines item)

items-written : (items : List RowItem) → All IsLine (flat_map item_lines items) → All IsWrittenItem items
items-written [] all = All-nil IsWrittenItem
items-written (item ∷ items) all =
    All-cons IsWrittenItem item items (front IsLine (item_lines item) (flat_map item_lines items) all) (items-written items (back IsLine (item_lines item) (flat_map item_lines items) all))

written-items : (items : List RowItem) → All IsWrittenItem items → All IsLine (flat_map item_lines items)
written-items [] all = All-nil IsLine
written-items (item ∷ items) all =
    All-append IsLine (item_lines item) (flat_map item_lines items) (All-head IsWrittenItem item items all) (written-items items (All-tail IsWrittenItem item items all))

-- the lines of a claim may be written, and its point has a value for each slot
pub record IsWrittenClaim (slots : ℕ) (claim : Claim) : Type 0 where
  pub over : IsClaimOver slots claim
  pub lines : All IsLine (claim_lines claim)

-- the items and the claim of a log
pub record IsWrittenLog (slots : ℕ) (tree : RowTree) (claim : Claim) : Type 0 where
  pub items_over : All (IsOver slots) (tree_items tree)
  pub items : All IsWrittenItem (tree_items tree)
  pub claim_written : IsWrittenClaim slots claim

pub log-written : (rows : Rows) (bytes : List ℕ) (tree : RowTree) (claim : Claim) → IsLog rows bytes tree claim → IsWrittenLog (length (choices_of rows).root) tree claim
unfolding log_lines
log-written rows bytes tree claim is =
    let lines = flat_map item_lines (tree_items tree) in
    let rest = claim_lines claim ++ EndLine ∷ [] in
    let body = All-tail IsLine (Header is.version) (lines ++ rest) is.over.lines in
    record {
      items_over = is.over.items;
      items = items-written (tree_items tree) (front IsLine lines rest body);
      claim_written = record { over = is.over.claim_over; lines = front IsLine (claim_lines claim) (EndLine ∷ []) (back IsLine lines rest body) };
    }

pub node-written : IsWrittenItem Node
unfolding item_lines
node-written = one_line_of NodeLine (record { short = none; in_range = tt })

pub split-written : (slot : ℕ) → slot < 2 ^ 32 → IsWrittenItem (Split (record { slot = slot; max = 0; floor = None }) no_mults)
unfolding item_lines
split-written slot low =
    one_line_of (SplitLine slot 0 1 0)
    (record {
      short = more (pos slot) (pos 0 ∷ (pos 1 ∷ (pos 0 ∷ []))) (natural slot (omega (arith, low)))
          (more (pos 0) (pos 1 ∷ (pos 0 ∷ [])) (natural 0 (omega arith)) (more (pos 1) (pos 0 ∷ []) (natural 1 (omega arith)) (more (pos 0) [] (natural 0 (omega arith)) none)));
      in_range = omega arith;
    })

-- the numbers of a plan may be written
pub record IsWrittenPlan (slots : ℕ) (plan : ClaimedPlan) : Type 0 where
  pub over : length plan.point ≡ slots
  pub profit : IsShort plan.profit
  pub count : IsShort (pos (started plan.point))
  pub values : All IsLine (value_lines 0 plan.point)

pub plan-written : (slots : ℕ) (claim : Claim) (plan : ClaimedPlan) → IsWrittenClaim slots claim → plan_of claim ≡ Some plan → IsWrittenPlan slots plan
unfolding claim_lines
plan-written slots (Optimal profit point) plan is e =
    let same : record { profit = profit; point = point } ≡ plan = cc in
    let first = All-head IsLine (ClaimOptimal profit (started point)) (value_lines 0 point) is.lines in
    subst (IsWrittenPlan slots) same
    (record {
      over = is.over;
      profit = All-head IsShort profit (pos (started point) ∷ []) first.short;
      count = All-head IsShort (pos (started point)) [] (All-tail IsShort profit (pos (started point) ∷ []) first.short);
      values = All-tail IsLine (ClaimOptimal profit (started point)) (value_lines 0 point) is.lines;
    })
plan-written slots Infeasible plan is e = absurd (cc)
plan-written slots (Between profit most point) plan is e =
    let same : record { profit = profit; point = point } ≡ plan = cc in
    let first = All-head IsLine (ClaimBetween profit most (started point)) (value_lines 0 point) is.lines in
    subst (IsWrittenPlan slots) same
    (record {
      over = is.over;
      profit = All-head IsShort profit (most ∷ (pos (started point) ∷ [])) first.short;
      count = All-head IsShort (pos (started point)) [] (All-tail IsShort most (pos (started point) ∷ []) (All-tail IsShort profit (most ∷ (pos (started point) ∷ [])) first.short));
      values = All-tail IsLine (ClaimBetween profit most (started point)) (value_lines 0 point) is.lines;
    })
plan-written slots (Below most) plan is e = absurd (cc)

pub cap-written : (slots : ℕ) (claim : Claim) (cap : ℤ) → IsWrittenClaim slots claim → cap_of claim ≡ Some cap → IsShort cap
unfolding claim_lines
cap-written slots (Optimal profit point) cap is e =
    let same : profit ≡ cap = cc in
    let first = All-head IsLine (ClaimOptimal profit (started point)) (value_lines 0 point) is.lines in
    subst IsShort same (All-head IsShort profit (pos (started point) ∷ []) first.short)
cap-written slots Infeasible cap is e = absurd (cc)
cap-written slots (Between profit most point) cap is e =
    let same : most ≡ cap = cc in
    let first = All-head IsLine (ClaimBetween profit most (started point)) (value_lines 0 point) is.lines in
    subst IsShort same (All-head IsShort most (pos (started point) ∷ []) (All-tail IsShort profit (most ∷ (pos (started point) ∷ [])) first.short))
cap-written slots (Below most) cap is e =
    let same : most ≡ cap = cc in
    let first = All-head IsLine (ClaimBelow most) [] is.lines in
    subst IsShort same (All-head IsShort most [] first.short)

optimal-written : (slots : ℕ) (plan : ClaimedPlan) → IsWrittenPlan slots plan → IsWrittenClaim slots (Optimal plan.profit plan.point)
unfolding claim_lines
optimal-written slots plan is = record {
  over = is.over;
  lines = All-cons IsLine (ClaimOptimal plan.profit (started plan.point)) (value_lines 0 plan.point)
      (record { short = more plan.profit (pos (started plan.point) ∷ []) is.profit (more (pos (started plan.point)) [] is.count none); in_range = tt }) is.values;
}

between-written : (slots : ℕ) (plan : ClaimedPlan) (cap : ℤ) → IsWrittenPlan slots plan → IsShort cap → IsWrittenClaim slots (Between plan.profit cap plan.point)
unfolding claim_lines
between-written slots plan cap is short = record {
  over = is.over;
  lines = All-cons IsLine (ClaimBetween plan.profit cap (started plan.point)) (value_lines 0 plan.point)
      (record {
        short = more plan.profit (cap ∷ (pos (started plan.point) ∷ [])) is.profit
            (more cap (pos (started plan.point) ∷ []) short (more (pos (started plan.point)) [] is.count none));
        in_range = tt;
      })
      is.values;
}

-- what a plan and a cap claim may be written
pub with-written : (slots : ℕ) (plan : Option ClaimedPlan) (cap : Option ℤ) → IfSome plan (IsWrittenPlan slots) → IfSome cap IsShort → IsWrittenClaim slots (claim_with plan cap)
unfolding claim_lines
with-written slots (Some plan) (Some cap) is short =
    by-less plan.profit cap (IsWrittenClaim slots) (Between plan.profit cap plan.point) (Optimal plan.profit plan.point)
    (λ less. between-written slots plan cap is short)
    (λ least. optimal-written slots plan is)
with-written slots (Some plan) None is short = optimal-written slots plan is
with-written slots None (Some cap) is short =
    record { over = tt; lines = one_line_of (ClaimBelow cap) (record { short = more cap [] short none; in_range = tt }) }
with-written slots None None is short =
    record { over = tt; lines = one_line_of ClaimInfeasible (record { short = none; in_range = tt }) }

-- ---- the joined log

-- a log of a version over the slots
pub log-over : (wide slots : ℕ) (tree : RowTree) (claim : Claim) → IsVersion wide → IsWrittenLog slots tree claim → IsLogOver slots wide tree claim
unfolding log_lines
log-over wide slots tree claim known is = record {
  items = is.items_over;
  claim_over = is.claim_written.over;
  lines = All-cons IsLine (Header wide) (flat_map item_lines (tree_items tree) ++ (claim_lines claim ++ EndLine ∷ []))
      (record { short = more (pos wide) [] (natural wide (let most = known.1 in omega (arith, most))) none; in_range = known })
      (All-append IsLine (flat_map item_lines (tree_items tree)) (claim_lines claim ++ EndLine ∷ []) (written-items (tree_items tree) is.items)
      (All-append IsLine (claim_lines claim) (EndLine ∷ []) is.claim_written.lines (one_line_of EndLine (record { short = none; in_range = tt }))));
}

-- a log whose proof leads through the grammar has no text defect
pub text-clean : (wide : ℕ) (limits : Limits) (tree : RowTree) (claim : Claim) → IsLogOver limits.points wide tree claim → leads limits (at wide AtNode []) (tree_lines tree) ≡ Some (closed wide [])
    → log_text_defect limits (log_text wide (tree_items tree) claim) ≡ None
unfolding log_lines log_text
text-clean wide limits tree claim over leading =
    let done = at wide AtClaim [] in
    let last = at wide AtEnd [] in
    no_defect limits new_standing (at wide Done []) 1 (log_lines wide (tree_items tree) claim) over.lines refl
    (leads-then limits (at wide AtNode []) done (tree_lines tree) (claim_lines claim ++ EndLine ∷ []) leading
    ∙ leads-then limits done last (claim_lines claim) (EndLine ∷ []) (claim_lead limits wide claim [] (claim_fits limits claim over.claim_over)))
