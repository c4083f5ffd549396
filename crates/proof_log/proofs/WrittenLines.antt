-- The lines of a log may be written.
use Rattle.std.proofs.Common.{◌≡◌, ◌≢◌, ℕ, ◌+◌, ◌<◌, ◌≤◌, ◌^◌, ◌&&◌, ◌==◌, not, leb, ltb, ℤ, pos, true, Option, None, Some, IfSome, List, [], ◌∷◌, ◌++◌, map, length, flat_map, arith, ⊎_elim}
use Rattle.std.specs.List.{All}
use Rattle.std.proofs.lemmas.Bool.{and_parts, leb-true, ltb-true, cases_eq}
use Rattle.std.proofs.lemmas.List.Elements.{All-nil, All-cons, All-append, All-head, All-tail, All-same}
use Rattle.dual_bound.specs.declared.cert.Cert.{Cert}
use Rattle.dual_bound.specs.declared.cert.Mult.{Mult}
use Rattle.dual_bound.specs.Total.{are_fit, is_fit}
use Rattle.proof_tree.specs.declared.item.Item.TheVariants.{Node, Cut, Found as FoundItem, Empty, Dual, Point, Pending, Split}
use Rattle.proof_tree.specs.Items.{tree_items}
use Rattle.log_lines.specs.declared.line.Line.{Line}
use Rattle.log_lines.specs.declared.line.Line.TheVariants.{Header, Value as ValueLine, Floor as FloorLine, End as EndLine}
use Rattle.log_lines.specs.declared.grammar.Limits.{Limits}
use Rattle.log_lines.specs.Line.{IsLine, IsShort}
use Rattle.proof_log.specs.declared.claim.Claim.{Claim}
use Rattle.proof_log.specs.declared.claim.Claim.TheVariants.{Optimal, Infeasible, Between, Below}
use Rattle.row_relax.specs.RowProofs.{RowItem}
use Rattle.proof_log.specs.Log.{floor_lines, started, value_lines, mult_line, item_lines, claim_lines, log_lines}
use Rattle.proof_log.specs.OneText.{IsClaimOver}
use Rattle.proof_log.specs.Accepted.{IsFitItem, IsFitClaim, AreBytes, IsShortItem, IsShortClaim, LogsMayBeWritten}
use Rattle.proof_log.proofs.GrammarWalk.{value_lines-zero, value_lines-more}
use Rattle.std.proofs.lemmas.List.Sums.{count_by-le-length}

-- so many short numbers
pub none : All IsShort []
none = All-nil IsShort

pub more : (number : ℤ) (numbers : List ℤ) → IsShort number → All IsShort numbers → All IsShort (number ∷ numbers)
more number numbers first others = All-cons IsShort number numbers first others

pub natural : (n : ℕ) → n < 10 ^ 30 → IsShort (pos n)
natural n low = low

-- the lines of values
values_written : (slot : ℕ) (point : List ℕ) → AreBytes point → slot + length point < 2 ^ 32 → All IsLine (value_lines slot point)
values_written slot [] bytes low = All-nil IsLine
values_written slot (value ∷ point) bytes low =
    let byte : value ≤ 255 = All-head (λ v. v ≤ 255) value point bytes in
    let later = values_written (slot + 1) point (All-tail (λ v. v ≤ 255) value point bytes) (omega arith) in
    ⊎_elim
    (λ (is : value ≡ 0). All-same IsLine (value_lines slot (value ∷ point)) (value_lines (slot + 1) point) (value_lines-zero slot value point is) later)
    (λ (is : value ≢ 0).
    let some : 1 ≤ value = omega (arith, is) in
    All-same IsLine (value_lines slot (value ∷ point)) (ValueLine slot value ∷ value_lines (slot + 1) point) (value_lines-more slot value point is)
    (All-cons IsLine (ValueLine slot value) (value_lines (slot + 1) point) (record { short = more (pos slot) (pos value ∷ []) (natural slot (omega arith)) (more (pos value) [] (natural value (omega arith)) none); in_range = (some, byte) }) later))
    (cases_eq value 0)

-- the count of values is small
started_small : (limit : ℕ) (point : List ℕ) → length point ≤ limit → limit < 2 ^ 32 → started point < 10 ^ 30
started_small limit point low small =
    let few : started point ≤ length point = count_by-le-length (λ value. not (value == 0)) point in omega arith

-- the lines of multipliers
mults_written : (rows least : ℕ) (mults : List Mult) → rows < 2 ^ 32 → are_fit rows least mults ≡ true → All IsLine (map mult_line mults)
mults_written rows least [] small fit = All-nil IsLine
mults_written rows least (mult ∷ mults) small fit =
    let p = and_parts (leb 1 mult.factor && leb mult.factor 1099511627776 && leb least mult.row && ltb mult.row rows) (are_fit rows (mult.row + 1) mults) fit in
    let q = and_parts (leb 1 mult.factor && leb mult.factor 1099511627776 && leb least mult.row) (ltb mult.row rows) p.0 in
    let r = and_parts (leb 1 mult.factor && leb mult.factor 1099511627776) (leb least mult.row) q.0 in
    let t = and_parts (leb 1 mult.factor) (leb mult.factor 1099511627776) r.0 in
    let row : mult.row < rows = ltb-true mult.row rows q.1 in
    let low : 1 ≤ mult.factor = leb-true 1 mult.factor t.0 in
    let high : mult.factor ≤ 1099511627776 = leb-true mult.factor 1099511627776 t.1 in
    All-cons IsLine (mult_line mult) (map mult_line mults)
    (record { short = more (pos mult.row) (pos mult.factor ∷ []) (natural mult.row (omega arith)) (more (pos mult.factor) [] (natural mult.factor (omega arith)) none); in_range = low })
    (mults_written rows (mult.row + 1) mults small p.1)

-- what a fit certificate has
record CertSizes (rows : ℕ) (cert : Cert) : Type 0 where
  scale : cert.scale < 10 ^ 30
  count : length cert.mults < 10 ^ 30
  mults : are_fit rows 0 cert.mults ≡ true

cert_sizes : (rows : ℕ) (cert : Cert) → is_fit rows cert ≡ true → CertSizes rows cert
cert_sizes rows cert fit =
    let p = and_parts (leb cert.scale 1048576 && leb (length cert.mults) 50000) (are_fit rows 0 cert.mults) fit in
    let q = and_parts (leb cert.scale 1048576) (leb (length cert.mults) 50000) p.0 in
    let scale : cert.scale ≤ 1048576 = leb-true cert.scale 1048576 q.0 in
    let count : length cert.mults ≤ 50000 = leb-true (length cert.mults) 50000 q.1 in
    record { scale = omega arith; count = omega arith; mults = p.1 }

pub one_line_of : (line : Line) → IsLine line → All IsLine (line ∷ [])
one_line_of line is = All-cons IsLine line [] is (All-nil IsLine)

-- the line of a floor
floor_written : (floor : Option ℤ) → IfSome floor IsShort → All IsLine (floor_lines floor)
floor_written None short = All-nil IsLine
floor_written (Some profit) short = one_line_of (FloorLine profit) (record { short = more profit [] short none; in_range = tt })

item_written : (limits : Limits) (version : ℕ) (item : RowItem) → limits.rows < 2 ^ 32 → limits.slots < 2 ^ 32 → limits.points < 2 ^ 32 → IsFitItem limits version item → IsShortItem item → All IsLine (item_lines item)
unfolding item_lines
item_written limits version Node rows slots points fit short = one_line_of _ (record { short = none; in_range = tt })
item_written limits version (Cut cut) rows slots points fit short =
    let row : cut.row < limits.rows = fit.0 in
    let slot : cut.slot < limits.slots = fit.1 in
    one_line_of _ (record { short = more (pos cut.row) (pos cut.slot ∷ []) (natural cut.row (omega arith)) (more (pos cut.slot) [] (natural cut.slot (omega arith)) none); in_range = tt })
item_written limits version (FoundItem found) rows slots points fit short =
    All-cons IsLine _ (value_lines 0 found.point)
    (record { short = more found.value (pos (started found.point) ∷ []) short.0 (more (pos (started found.point)) [] (natural (started found.point) (started_small limits.points found.point fit points)) none); in_range = tt })
    (values_written 0 found.point short.1 (omega arith))
item_written limits version Empty rows slots points fit short = one_line_of _ (record { short = none; in_range = tt })
item_written limits version (Dual cert) rows slots points fit short =
    let sizes = cert_sizes limits.rows cert fit in
    All-cons IsLine _ (map mult_line cert.mults)
    (record { short = more (pos cert.scale) (pos (length cert.mults) ∷ []) sizes.scale (more (pos (length cert.mults)) [] sizes.count none); in_range = tt })
    (mults_written limits.rows 0 cert.mults rows sizes.mults)
item_written limits version Point rows slots points fit short = one_line_of _ (record { short = none; in_range = tt })
item_written limits version (Pending cert) rows slots points fit short =
    let sizes = cert_sizes limits.rows cert fit in
    All-cons IsLine _ (map mult_line cert.mults)
    (record { short = more (pos cert.scale) (pos (length cert.mults) ∷ []) sizes.scale (more (pos (length cert.mults)) [] sizes.count none); in_range = tt })
    (mults_written limits.rows 0 cert.mults rows sizes.mults)
item_written limits version (Split pick cert) rows slots points fit short =
    let sizes = cert_sizes limits.rows cert fit.1 in
    let slot : pick.slot < limits.slots = fit.0 in
    All-append IsLine (floor_lines pick.floor) _ (floor_written pick.floor short.1)
    (All-cons IsLine _ (map mult_line cert.mults)
    (record {
      short = more (pos pick.slot) (pos pick.max ∷ (pos cert.scale ∷ (pos (length cert.mults) ∷ []))) (natural pick.slot (omega arith))
          (more (pos pick.max) (pos cert.scale ∷ (pos (length cert.mults) ∷ [])) (natural pick.max (omega arith))
          (more (pos cert.scale) (pos (length cert.mults) ∷ []) sizes.scale (more (pos (length cert.mults)) [] sizes.count none)));
      in_range = short.0;
    })
    (mults_written limits.rows 0 cert.mults rows sizes.mults))

items_written : (limits : Limits) (version : ℕ) (items : List RowItem) → limits.rows < 2 ^ 32 → limits.slots < 2 ^ 32 → limits.points < 2 ^ 32 → All (IsFitItem limits version) items → All IsShortItem items → All IsLine (flat_map item_lines items)
items_written limits version [] rows slots points fit short = All-nil IsLine
items_written limits version (item ∷ items) rows slots points fit short =
    All-append IsLine (item_lines item) (flat_map item_lines items)
    (item_written limits version item rows slots points (All-head (IsFitItem limits version) item items fit) (All-head IsShortItem item items short))
    (items_written limits version items rows slots points (All-tail (IsFitItem limits version) item items fit) (All-tail IsShortItem item items short))

-- a claim over the slots of points is fit
pub claim_fits : (limits : Limits) (claim : Claim) → IsClaimOver limits.points claim → IsFitClaim limits claim
claim_fits limits (Optimal profit point) over = omega (arith, over)
claim_fits limits Infeasible over = tt
claim_fits limits (Between profit most point) over = omega (arith, over)
claim_fits limits (Below most) over = tt

claim_written : (limits : Limits) (claim : Claim) → limits.points < 2 ^ 32 → IsFitClaim limits claim → IsShortClaim claim → All IsLine (claim_lines claim)
unfolding claim_lines
claim_written limits (Optimal profit point) points fit short =
    All-cons IsLine _ (value_lines 0 point)
    (record { short = more profit (pos (started point) ∷ []) short.0 (more (pos (started point)) [] (natural (started point) (started_small limits.points point fit points)) none); in_range = tt })
    (values_written 0 point short.1 (omega arith))
claim_written limits Infeasible points fit short = one_line_of _ (record { short = none; in_range = tt })
claim_written limits (Between profit most point) points fit short =
    All-cons IsLine _ (value_lines 0 point)
    (record { short = more profit (most ∷ (pos (started point) ∷ [])) short.0 (more most (pos (started point) ∷ []) short.1 (more (pos (started point)) [] (natural (started point) (started_small limits.points point fit points)) none)); in_range = tt })
    (values_written 0 point short.2 (omega arith))
claim_written limits (Below most) points fit short = one_line_of _ (record { short = more most [] short none; in_range = tt })

-- the lines of a log may be written
pub logs_written : LogsMayBeWritten
unfolding log_lines
logs_written limits version tree claim rows slots points known fit claim_fits short claim_short =
    let low : version ≤ 4 = known.1 in
    All-cons IsLine (Header version) _ (record { short = more (pos version) [] (natural version (omega arith)) none; in_range = known })
    (All-append IsLine (flat_map item_lines (tree_items tree)) (claim_lines claim ++ EndLine ∷ []) (items_written limits version (tree_items tree) rows slots points fit short)
    (All-append IsLine (claim_lines claim) (EndLine ∷ []) (claim_written limits claim points claim_fits claim_short) (one_line_of EndLine (record { short = none; in_range = tt }))))
