-- The lines of a log are the lines of no other log, and no first part of those of another.
use Rattle.std.proofs.Common.{◌≡◌, ◌≢◌, ℕ, ℤ, Option, None, Some, ◌+◌, ◌≤◌, Bool, true, false, List, [], ◌∷◌, ◌++◌, map, length, flat_map, refl, sym, ap, ◌∙◌, arith, ⊎_elim, append_assoc, append-nil, length-append}
use Rattle.std.proofs.lemmas.List.{append_cancel_left}
use Rattle.std.specs.List.{All}
use Rattle.std.proofs.lemmas.Bool.{cases_eq}
use Rattle.std.proofs.lemmas.List.Elements.{All-head, All-tail}
use Rattle.row_kit.specs.declared.found.Found.{Found}
use Rattle.range_prop.specs.declared.row_cut.RowCut.{RowCut}
use Rattle.dual_bound.specs.declared.cert.Cert.{Cert}
use Rattle.dual_bound.specs.declared.cert.Mult.{Mult}
use Rattle.proof_tree.specs.Items.{tree_items}
use Rattle.proof_tree.specs.declared.item.Item.TheVariants.{Node, Cut, Found as FoundItem, Empty, Dual, Point, Pending, Split}
use Rattle.row_relax.specs.declared.RowPick.{RowPick}
use Rattle.log_lines.specs.declared.line.Line.{Line}
use Rattle.log_lines.specs.declared.line.Line.TheVariants.{Header, Value as ValueLine, Floor as FloorLine, Split as SplitLine, ClaimOptimal, ClaimInfeasible, ClaimBetween, ClaimBelow, End as EndLine}
use Rattle.log_lines.specs.Line.{IsLine, line_text}
use Rattle.log_lines.specs.Reader.{HasNoFeed}
use Rattle.log_lines.proofs.LineBytes.{HasNoFeed-line_text}
use Rattle.log_lines.proofs.SaidLines.{one_line}
use Rattle.proof_log.specs.declared.claim.Claim.{Claim}
use Rattle.proof_log.specs.declared.claim.Claim.TheVariants.{Optimal, Infeasible, Between, Below}
use Rattle.row_relax.specs.RowProofs.{RowItem, RowTree}
use Rattle.proof_log.specs.Log.{floor_lines, started, value_lines, mult_line, item_lines, claim_lines, log_lines, lines_text, log_text}
use Rattle.proof_log.specs.OneText.{IsOver, IsClaimOver, IsLogOver, LogsHaveOneText}
use Rattle.proof_log.proofs.GrammarWalk.{started-zero, started-more, value_lines-zero, value_lines-more}
use Rattle.proof_tree.proofs.OneTree.{tree_same}

-- two lists of one length in front of others
fronts_same : {X : Type 0} (a b c d : List X) → length a ≡ length b → a ++ c ≡ b ++ d → (a ≡ b) × (c ≡ d)
fronts_same [] [] c d long same = (refl, same)
fronts_same [] (y ∷ b) c d long same = absurd (omega (arith, long))
fronts_same (x ∷ a) [] c d long same = absurd (omega (arith, long))
fronts_same (x ∷ a) (y ∷ b) c d long same =
    let first : x ≡ y = cc in
    let rest : a ++ c ≡ b ++ d = cc in
    let others = fronts_same a b c d (omega (arith, long)) rest in
    let tail : a ≡ b = others.0 in
    (cc, others.1)

-- as many lines as slots with a start
length-value_lines : (slot : ℕ) (point : List ℕ) → length (value_lines slot point) ≡ started point
length-value_lines slot [] = refl
length-value_lines slot (value ∷ point) =
    ⊎_elim
    (λ (is : value ≡ 0). ap length (value_lines-zero slot value point is) ∙ length-value_lines (slot + 1) point ∙ sym (started-zero value point is))
    (λ (is : value ≢ 0).
    let one : length (ValueLine slot value ∷ value_lines (slot + 1) point) ≡ length (value_lines (slot + 1) point) + 1 = omega arith in
    ap length (value_lines-more slot value point is) ∙ one ∙ ap (λ (n : ℕ). n + 1) (length-value_lines (slot + 1) point) ∙ sym (started-more value point is))
    (cases_eq value 0)

-- the first of the lines is of no earlier slot
first_slot : (slot : ℕ) (point : List ℕ) (s v : ℕ) (rest : List Line) → value_lines slot point ≡ ValueLine s v ∷ rest → slot ≤ s
first_slot slot [] s v rest is = cc
first_slot slot (value ∷ point) s v rest is =
    ⊎_elim
    (λ (none : value ≡ 0). let later : slot + 1 ≤ s = first_slot (slot + 1) point s v rest (sym (value_lines-zero slot value point none) ∙ is) in omega arith)
    (λ (some : value ≢ 0).
    let first : ValueLine slot value ∷ value_lines (slot + 1) point ≡ ValueLine s v ∷ rest = sym (value_lines-more slot value point some) ∙ is in
    let same : slot ≡ s = cc in
    omega arith)
    (cases_eq value 0)

points_same : (slot : ℕ) (p q : List ℕ) → length p ≡ length q → value_lines slot p ≡ value_lines slot q → p ≡ q
points_same slot [] [] long same = refl
points_same slot [] (y ∷ q) long same = absurd (omega (arith, long))
points_same slot (x ∷ p) [] long same = absurd (omega (arith, long))
points_same slot (x ∷ p) (y ∷ q) long same =
    let less : length p ≡ length q = omega (arith, long) in
    ⊎_elim
    (λ (x_none : x ≡ 0). ⊎_elim
    (λ (y_none : y ≡ 0).
    let tail : p ≡ q = points_same (slot + 1) p q less (sym (value_lines-zero slot x p x_none) ∙ same ∙ value_lines-zero slot y q y_none) in
    cc)
    (λ (y_some : y ≢ 0).
    let late : slot + 1 ≤ slot = first_slot (slot + 1) p slot y (value_lines (slot + 1) q) (sym (value_lines-zero slot x p x_none) ∙ same ∙ value_lines-more slot y q y_some) in
    absurd (omega arith))
    (cases_eq y 0))
    (λ (x_some : x ≢ 0). ⊎_elim
    (λ (y_none : y ≡ 0).
    let late : slot + 1 ≤ slot = first_slot (slot + 1) q slot x (value_lines (slot + 1) p) (sym (value_lines-zero slot y q y_none) ∙ sym same ∙ value_lines-more slot x p x_some) in
    absurd (omega arith))
    (λ (y_some : y ≢ 0).
    let both : ValueLine slot x ∷ value_lines (slot + 1) p ≡ ValueLine slot y ∷ value_lines (slot + 1) q = sym (value_lines-more slot x p x_some) ∙ same ∙ value_lines-more slot y q y_some in
    let first : x ≡ y = cc in
    let tail : p ≡ q = points_same (slot + 1) p q less cc in
    cc)
    (cases_eq y 0))
    (cases_eq x 0)

-- points of one length whose lines stand in front of others
values_same : (p q : List ℕ) (a b : List Line) → length p ≡ length q → started p ≡ started q → value_lines 0 p ++ a ≡ value_lines 0 q ++ b → (p ≡ q) × (a ≡ b)
values_same p q a b long many same =
    let parts = fronts_same (value_lines 0 p) (value_lines 0 q) a b (length-value_lines 0 p ∙ many ∙ sym (length-value_lines 0 q)) same in
    (points_same 0 p q long parts.0, parts.1)

-- records of two fields that are the same
mult_is : (x y : Mult) → x.row ≡ y.row → x.factor ≡ y.factor → x ≡ y
mult_is x y row factor =
    let made : ℕ → ℕ → Mult = λ r f. record { row = r; factor = f } in ap (λ (r : ℕ). made r x.factor) row ∙ ap (made y.row) factor

cut_is : (x y : RowCut) → x.row ≡ y.row → x.slot ≡ y.slot → x ≡ y
cut_is x y row slot =
    let made : ℕ → ℕ → RowCut = λ r s. record { row = r; slot = s } in ap (λ (r : ℕ). made r x.slot) row ∙ ap (made y.row) slot

pick_is : (x y : RowPick) → x.slot ≡ y.slot → x.max ≡ y.max → x.floor ≡ y.floor → x ≡ y
pick_is x y slot most floor =
    let made : ℕ → ℕ → Option ℤ → RowPick = λ s m f. record { slot = s; max = m; floor = f } in
    ap (λ (s : ℕ). made s x.max x.floor) slot ∙ ap (λ (m : ℕ). made y.slot m x.floor) most ∙ ap (made y.slot y.max) floor

cert_is : (x y : Cert) → x.scale ≡ y.scale → x.mults ≡ y.mults → x ≡ y
cert_is x y scale mults =
    let made : ℕ → List Mult → Cert = λ s m. record { scale = s; mults = m } in ap (λ (s : ℕ). made s x.mults) scale ∙ ap (made y.scale) mults

found_is : (x y : Found) → x.value ≡ y.value → x.point ≡ y.point → x ≡ y
found_is x y value point =
    let made : ℤ → List ℕ → Found = λ v p. record { value = v; point = p } in ap (λ (v : ℤ). made v x.point) value ∙ ap (made y.value) point

-- multipliers whose lines stand in front of others
mults_same : (m n : List Mult) (a b : List Line) → length m ≡ length n → map mult_line m ++ a ≡ map mult_line n ++ b → (m ≡ n) × (a ≡ b)
mults_same [] [] a b long same = (refl, same)
mults_same [] (y ∷ n) a b long same = absurd (omega (arith, long))
mults_same (x ∷ m) [] a b long same = absurd (omega (arith, long))
mults_same (x ∷ m) (y ∷ n) a b long same =
    let row : x.row ≡ y.row = cc in
    let factor : x.factor ≡ y.factor = cc in
    let first : x ≡ y = mult_is x y row factor in
    let rest : map mult_line m ++ a ≡ map mult_line n ++ b = cc in
    let others = mults_same m n a b (omega (arith, long)) rest in
    let tail : m ≡ n = others.0 in
    (cc, others.1)

-- certificates whose scales and counts are the same
cert_same : (c d : Cert) (a b : List Line) → c.scale ≡ d.scale → length c.mults ≡ length d.mults → map mult_line c.mults ++ a ≡ map mult_line d.mults ++ b → (c ≡ d) × (a ≡ b)
cert_same c d a b scale long same =
    let parts = mults_same c.mults d.mults a b long same in (cert_is c d scale parts.0, parts.1)

-- floors whose lines stand in front of those of splits
floor_same : (f g : Option ℤ) (slot most scale count slot2 most2 scale2 count2 : ℕ) (a b : List Line) → floor_lines f ++ (SplitLine slot most scale count ∷ a) ≡ floor_lines g ++ (SplitLine slot2 most2 scale2 count2 ∷ b)
    → (f ≡ g) × (SplitLine slot most scale count ∷ a ≡ SplitLine slot2 most2 scale2 count2 ∷ b)
floor_same None None slot most scale count slot2 most2 scale2 count2 a b same = (refl, same)
floor_same (Some m) (Some n) slot most scale count slot2 most2 scale2 count2 a b same =
    let profit : m ≡ n = cc in (ap Some profit, cc)
floor_same _ _ slot most scale count slot2 most2 scale2 count2 a b same = cc

-- the line of a split, or of its floor, stands first
is_split : List Line → Bool
is_split (FloorLine profit ∷ lines) = true
is_split (SplitLine slot most scale count ∷ lines) = true
is_split _ = false

-- an item is a split
is_split_item : RowItem → Bool
is_split_item (Split pick cert) = true
is_split_item _ = false

split_first : (item : RowItem) (lines : List Line) → is_split (item_lines item ++ lines) ≡ is_split_item item
unfolding item_lines is_split is_split_item
split_first Node lines = refl
split_first (Cut cut) lines = refl
split_first (FoundItem found) lines = refl
split_first Empty lines = refl
split_first (Dual cert) lines = refl
split_first Point lines = refl
split_first (Pending cert) lines = refl
split_first (Split pick cert) lines = at pick.floor
  where
    at : (floor : Option ℤ) → is_split ((floor_lines floor ++ (SplitLine pick.slot pick.max cert.scale (length cert.mults) ∷ map mult_line cert.mults)) ++ lines) ≡ true
    at None = refl
    at (Some profit) = refl

-- splits whose lines stand in front of others
split_same : (p q : RowPick) (c d : Cert) (a b : List Line) → item_lines (Split p c) ++ a ≡ item_lines (Split q d) ++ b → (◌≡◌ {A = RowItem} (Split p c) (Split q d)) × (a ≡ b)
unfolding item_lines
split_same p q c d a b same =
    let own : List Line = SplitLine p.slot p.max c.scale (length c.mults) ∷ map mult_line c.mults in
    let other : List Line = SplitLine q.slot q.max d.scale (length d.mults) ∷ map mult_line d.mults in
    let grouped : floor_lines p.floor ++ (own ++ a) ≡ floor_lines q.floor ++ (other ++ b) = sym (append_assoc (floor_lines p.floor) own a) ∙ same ∙ append_assoc (floor_lines q.floor) other b in
    let floors = floor_same p.floor q.floor p.slot p.max c.scale (length c.mults) q.slot q.max d.scale (length d.mults) (map mult_line c.mults ++ a) (map mult_line d.mults ++ b) grouped in
    let lines = floors.1 in
    let slot : p.slot ≡ q.slot = cc in
    let most : p.max ≡ q.max = cc in
    let scale : c.scale ≡ d.scale = cc in
    let long : length c.mults ≡ length d.mults = cc in
    let rest : map mult_line c.mults ++ a ≡ map mult_line d.mults ++ b = cc in
    let parts = cert_same c d a b scale long rest in
    (ap (λ (pick : RowPick). Split pick c) (pick_is p q slot most floors.0) ∙ ap (Split q) parts.0, parts.1)

-- items whose lines stand in front of others
item_same : (slots : ℕ) (i j : RowItem) (a b : List Line) → IsOver slots i → IsOver slots j → item_lines i ++ a ≡ item_lines j ++ b → (i ≡ j) × (a ≡ b)
unfolding item_lines is_split_item
item_same slots Node Node a b over_i over_j same = (refl, cc)
item_same slots (Cut c) (Cut d) a b over_i over_j same =
    let row : c.row ≡ d.row = cc in
    let slot : c.slot ≡ d.slot = cc in
    (ap Cut (cut_is c d row slot), cc)
item_same slots (FoundItem f) (FoundItem g) a b over_i over_j same =
    let value : f.value ≡ g.value = cc in
    let many : started f.point ≡ started g.point = cc in
    let rest : value_lines 0 f.point ++ a ≡ value_lines 0 g.point ++ b = cc in
    let parts = values_same f.point g.point a b (over_i ∙ sym over_j) many rest in
    (ap FoundItem (found_is f g value parts.0), parts.1)
item_same slots Empty Empty a b over_i over_j same = (refl, cc)
item_same slots (Dual c) (Dual d) a b over_i over_j same =
    let scale : c.scale ≡ d.scale = cc in
    let long : length c.mults ≡ length d.mults = cc in
    let rest : map mult_line c.mults ++ a ≡ map mult_line d.mults ++ b = cc in
    let parts = cert_same c d a b scale long rest in
    (ap Dual parts.0, parts.1)
item_same slots Point Point a b over_i over_j same = (refl, cc)
item_same slots (Pending c) (Pending d) a b over_i over_j same =
    let scale : c.scale ≡ d.scale = cc in
    let long : length c.mults ≡ length d.mults = cc in
    let rest : map mult_line c.mults ++ a ≡ map mult_line d.mults ++ b = cc in
    let parts = cert_same c d a b scale long rest in
    (ap Pending parts.0, parts.1)
item_same slots (Split p c) (Split q d) a b over_i over_j same = split_same p q c d a b same
item_same slots i j a b over_i over_j same =
    let kinds : is_split_item i ≡ is_split_item j = sym (split_first i a) ∙ ap is_split same ∙ split_first j b in
    cc

-- claims whose lines stand in front of others
claim_same : (slots : ℕ) (c d : Claim) (a b : List Line) → IsClaimOver slots c → IsClaimOver slots d → claim_lines c ++ a ≡ claim_lines d ++ b → (c ≡ d) × (a ≡ b)
unfolding claim_lines
claim_same slots (Optimal profit p) (Optimal other q) a b over_c over_d same =
    let value : profit ≡ other = cc in
    let many : started p ≡ started q = cc in
    let rest : value_lines 0 p ++ a ≡ value_lines 0 q ++ b = cc in
    let parts = values_same p q a b (over_c ∙ sym over_d) many rest in
    (ap (λ (n : ℤ). Optimal n p) value ∙ ap (Optimal other) parts.0, parts.1)
claim_same slots Infeasible Infeasible a b over_c over_d same = (refl, cc)
claim_same slots (Between profit most p) (Between other greatest q) a b over_c over_d same =
    let value : profit ≡ other = cc in
    let bound : most ≡ greatest = cc in
    let many : started p ≡ started q = cc in
    let rest : value_lines 0 p ++ a ≡ value_lines 0 q ++ b = cc in
    let parts = values_same p q a b (over_c ∙ sym over_d) many rest in
    (ap (λ (n : ℤ). Between n most p) value ∙ ap (λ (n : ℤ). Between other n p) bound ∙ ap (Between other greatest) parts.0, parts.1)
claim_same slots (Below most) (Below greatest) a b over_c over_d same =
    let bound : most ≡ greatest = cc in (ap Below bound, cc)
claim_same slots _ _ a b over_c over_d same = cc

-- a claim's line stands first
is_claim : List Line → Bool
is_claim (ClaimOptimal profit count ∷ lines) = true
is_claim (ClaimInfeasible ∷ lines) = true
is_claim (ClaimBetween profit most count ∷ lines) = true
is_claim (ClaimBelow most ∷ lines) = true
is_claim _ = false

claim_first : (claim : Claim) (lines : List Line) → is_claim (claim_lines claim ++ lines) ≡ true
unfolding claim_lines is_claim
claim_first (Optimal profit point) lines = refl
claim_first Infeasible lines = refl
claim_first (Between profit most point) lines = refl
claim_first (Below most) lines = refl

item_first : (item : RowItem) (lines : List Line) → is_claim (item_lines item ++ lines) ≡ false
unfolding item_lines is_claim
item_first Node lines = refl
item_first (Cut cut) lines = refl
item_first (FoundItem found) lines = refl
item_first Empty lines = refl
item_first (Dual cert) lines = refl
item_first Point lines = refl
item_first (Pending cert) lines = refl
item_first (Split pick cert) lines = at pick.floor
  where
    at : (floor : Option ℤ) → is_claim ((floor_lines floor ++ (SplitLine pick.slot pick.max cert.scale (length cert.mults) ∷ map mult_line cert.mults)) ++ lines) ≡ false
    at None = refl
    at (Some profit) = refl

-- items whose lines stand in front of a claim's
items_same : (slots : ℕ) (is js : List RowItem) (a b : List Line) → All (IsOver slots) is → All (IsOver slots) js → is_claim a ≡ true → is_claim b ≡ true → flat_map item_lines is ++ a ≡ flat_map item_lines js ++ b → (is ≡ js) × (a ≡ b)
items_same slots [] [] a b over_i over_j of_a of_b same = (refl, same)
items_same slots [] (j ∷ js) a b over_i over_j of_a of_b same =
    let parts : a ≡ item_lines j ++ (flat_map item_lines js ++ b) = same ∙ append_assoc (item_lines j) (flat_map item_lines js) b in
    let wrong : true ≡ false = sym of_a ∙ ap is_claim parts ∙ item_first j (flat_map item_lines js ++ b) in
    cc
items_same slots (i ∷ is) [] a b over_i over_j of_a of_b same =
    let parts : b ≡ item_lines i ++ (flat_map item_lines is ++ a) = sym same ∙ append_assoc (item_lines i) (flat_map item_lines is) a in
    let wrong : true ≡ false = sym of_b ∙ ap is_claim parts ∙ item_first i (flat_map item_lines is ++ a) in
    cc
items_same slots (i ∷ is) (j ∷ js) a b over_i over_j of_a of_b same =
    let parts : item_lines i ++ (flat_map item_lines is ++ a) ≡ item_lines j ++ (flat_map item_lines js ++ b) = sym (append_assoc (item_lines i) (flat_map item_lines is) a) ∙ same ∙ append_assoc (item_lines j) (flat_map item_lines js) b in
    let first = item_same slots i j (flat_map item_lines is ++ a) (flat_map item_lines js ++ b) (All-head (IsOver slots) i is over_i) (All-head (IsOver slots) j js over_j) parts in
    let others = items_same slots is js a b (All-tail (IsOver slots) i is over_i) (All-tail (IsOver slots) j js over_j) of_a of_b first.1 in
    let head : i ≡ j = first.0 in
    let tail : is ≡ js = others.0 in
    (cc, others.1)

-- the lines of logs, of which one is a first part of the other
record SameLines (v w : ℕ) (s t : RowTree) (c d : Claim) (rest : List Line) : Type 0 where
  version : v ≡ w
  tree : s ≡ t
  claim : c ≡ d
  no_rest : rest ≡ []

log_same : (slots v w : ℕ) (s t : RowTree) (c d : Claim) (rest : List Line) → IsLogOver slots v s c → IsLogOver slots w t d → log_lines v (tree_items s) c ≡ log_lines w (tree_items t) d ++ rest → SameLines v w s t c d rest
unfolding log_lines
log_same slots v w s t c d rest over_s over_t same =
    let last : List Line = EndLine ∷ [] in
    let more : List Line = EndLine ∷ rest in
    let version : v ≡ w = cc in
    let tail : flat_map item_lines (tree_items s) ++ (claim_lines c ++ last) ≡ (flat_map item_lines (tree_items t) ++ (claim_lines d ++ last)) ++ rest = cc in
    let regrouped : (flat_map item_lines (tree_items t) ++ (claim_lines d ++ last)) ++ rest ≡ flat_map item_lines (tree_items t) ++ (claim_lines d ++ more) =
    append_assoc (flat_map item_lines (tree_items t)) (claim_lines d ++ last) rest ∙ ap (λ (lines : List Line). flat_map item_lines (tree_items t) ++ lines) (append_assoc (claim_lines d) last rest) in
    let items = items_same slots (tree_items s) (tree_items t) (claim_lines c ++ last) (claim_lines d ++ more) over_s.items over_t.items (claim_first c last) (claim_first d more) (tail ∙ regrouped) in
    let claims = claim_same slots c d last more over_s.claim_over over_t.claim_over items.1 in
    let ends : EndLine ∷ [] ≡ EndLine ∷ rest = claims.1 in
    let none : [] ≡ rest = cc in
    let whole : tree_items s ++ [] ≡ tree_items t ++ [] = ap (λ (items : List RowItem). items ++ []) items.0 in
    record { version = version; tree = (tree_same s t [] [] whole).0; claim = claims.0; no_rest = sym none }

-- two texts without line feeds, each before its line feed
pub feed_unique : (a b c d : List ℕ) → HasNoFeed a → HasNoFeed c → a ++ (10 ∷ b) ≡ c ++ (10 ∷ d) → (a ≡ c) × (b ≡ d)
feed_unique [] b [] d in_a in_c same = (refl, cc)
feed_unique [] b (y ∷ c) d in_a in_c same =
    let first : y ≡ 10 = cc in absurd (All-head (λ k. k ≢ 10) y c in_c first)
feed_unique (x ∷ a) b [] d in_a in_c same =
    let first : x ≡ 10 = cc in absurd (All-head (λ k. k ≢ 10) x a in_a first)
feed_unique (x ∷ a) b (y ∷ c) d in_a in_c same =
    let first : x ≡ y = cc in
    let rest : a ++ (10 ∷ b) ≡ c ++ (10 ∷ d) = cc in
    let others = feed_unique a b c d (All-tail (λ k. k ≢ 10) x a in_a) (All-tail (λ k. k ≢ 10) y c in_c) rest in
    let tail : a ≡ c = others.0 in
    (cc, others.1)

-- the text of a line, its line feed, and what follows
feed_after : (x : Line) (xs : List Line) (rest : List ℕ) → lines_text (x ∷ xs) ++ rest ≡ line_text x ++ (10 ∷ (lines_text xs ++ rest))
unfolding lines_text
feed_after x xs rest = append_assoc (line_text x ++ (10 ∷ [])) (lines_text xs) rest ∙ append_assoc (line_text x) (10 ∷ []) (lines_text xs ++ rest)

-- texts of lines, of which one is a first part of the other
lines_same : (xs ys : List Line) (rest : List ℕ) → All IsLine xs → All IsLine ys → lines_text xs ≡ lines_text ys ++ rest → (zs : List Line) × (xs ≡ ys ++ zs)
unfolding lines_text
lines_same xs [] rest of_x of_y same = (xs, refl)
lines_same [] (y ∷ ys) rest of_x of_y same =
    let some : lines_text (y ∷ ys) ++ rest ≡ line_text y ++ (10 ∷ (lines_text ys ++ rest)) = feed_after y ys rest in
    let long : length (line_text y ++ (10 ∷ (lines_text ys ++ rest))) ≡ 0 = ap length (sym some ∙ sym same) in
    absurd (omega (arith, length-append (line_text y) (10 ∷ (lines_text ys ++ rest)), long))
lines_same (x ∷ xs) (y ∷ ys) rest of_x of_y same =
    let first_x = feed_after x xs [] in
    let first_y = feed_after y ys rest in
    let texts : line_text x ++ (10 ∷ (lines_text xs ++ [])) ≡ line_text y ++ (10 ∷ (lines_text ys ++ rest)) = sym first_x ∙ append-nil (lines_text (x ∷ xs)) ∙ same ∙ first_y in
    let is_x = All-head IsLine x xs of_x in
    let is_y = All-head IsLine y ys of_y in
    let parts = feed_unique (line_text x) (lines_text xs ++ []) (line_text y) (lines_text ys ++ rest) (HasNoFeed-line_text x is_x) (HasNoFeed-line_text y is_y) texts in
    let head : x ≡ y = one_line x y is_x is_y parts.0 in
    let others = lines_same xs ys rest (All-tail IsLine x xs of_x) (All-tail IsLine y ys of_y) (sym (append-nil (lines_text xs)) ∙ parts.1) in
    let tail : xs ≡ ys ++ others.0 = others.1 in
    (others.0, cc)

-- two logs of one text are the same
pub logs_same : LogsHaveOneText
unfolding log_text
logs_same slots v w s t c d rest over_s over_t same =
    let lines = lines_same (log_lines v (tree_items s) c) (log_lines w (tree_items t) d) rest over_s.lines over_t.lines same in
    let logs = log_same slots v w s t c d lines.0 over_s over_t lines.1 in
    let alike : log_lines v (tree_items s) c ≡ log_lines w (tree_items t) d = lines.1 ∙ ap (λ (more : List Line). log_lines w (tree_items t) d ++ more) logs.no_rest ∙ append-nil (log_lines w (tree_items t) d) in
    let ends : lines_text (log_lines w (tree_items t) d) ++ [] ≡ lines_text (log_lines w (tree_items t) d) ++ rest = append-nil (lines_text (log_lines w (tree_items t) d)) ∙ sym (ap lines_text alike) ∙ same in
    record { version_same = logs.version; tree_same = logs.tree; claim_same = logs.claim; no_rest = sym (append_cancel_left (lines_text (log_lines w (tree_items t) d)) [] rest ends) }

-- items whose lines stand in front of others, all before those of a claim, are first items
items_front : (slots : ℕ) (is js : List RowItem) (a b : List Line) → All (IsOver slots) is → All (IsOver slots) js → is_claim b ≡ true → flat_map item_lines is ++ a ≡ flat_map item_lines js ++ b → (later : List RowItem) × (js ≡ is ++ later)
items_front slots [] js a b over_i over_j of_b same = (js, refl)
items_front slots (i ∷ is) [] a b over_i over_j of_b same =
    let parts : b ≡ item_lines i ++ (flat_map item_lines is ++ a) = sym same ∙ append_assoc (item_lines i) (flat_map item_lines is) a in
    let wrong : true ≡ false = sym of_b ∙ ap is_claim parts ∙ item_first i (flat_map item_lines is ++ a) in
    absurd cc
items_front slots (i ∷ is) (j ∷ js) a b over_i over_j of_b same =
    let parts : item_lines i ++ (flat_map item_lines is ++ a) ≡ item_lines j ++ (flat_map item_lines js ++ b) = sym (append_assoc (item_lines i) (flat_map item_lines is) a) ∙ same ∙ append_assoc (item_lines j) (flat_map item_lines js) b in
    let first = item_same slots i j (flat_map item_lines is ++ a) (flat_map item_lines js ++ b) (All-head (IsOver slots) i is over_i) (All-head (IsOver slots) j js over_j) parts in
    let others = items_front slots is js a b (All-tail (IsOver slots) i is over_i) (All-tail (IsOver slots) j js over_j) of_b first.1 in
    let head : i ≡ j = first.0 in
    let tail : js ≡ is ++ others.0 = others.1 in
    (others.0, cc)

-- items whose lines were read of the text of a log, from its front on, are the first items of the log
pub items_read : (slots v w : ℕ) (tree : RowTree) (claim : Claim) (items : List RowItem) (tail : List Line) (rest : List ℕ) → IsLogOver slots v tree claim → All (IsOver slots) items → All IsLine (Header w ∷ (flat_map item_lines items ++ tail))
    → log_text v (tree_items tree) claim ≡ lines_text (Header w ∷ (flat_map item_lines items ++ tail)) ++ rest → (later : List RowItem) × (tree_items tree ≡ items ++ later)
unfolding log_text log_lines
items_read slots v w tree claim items tail rest over over_items written same =
    let last : List Line = EndLine ∷ [] in
    let lines = lines_same (log_lines v (tree_items tree) claim) (Header w ∷ (flat_map item_lines items ++ tail)) rest over.lines written same in
    let behind : flat_map item_lines (tree_items tree) ++ (claim_lines claim ++ last) ≡ (flat_map item_lines items ++ tail) ++ lines.0 = cc in
    items_front slots items (tree_items tree) (tail ++ lines.0) (claim_lines claim ++ last) over_items over.items (claim_first claim last)
    (sym (append_assoc (flat_map item_lines items) tail lines.0) ∙ sym behind)
