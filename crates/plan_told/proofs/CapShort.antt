-- The cap of the proof of a search has at most 30 digits.
use Rattle.std.proofs.Common.{◌≡◌, ℕ, ◌<◌, ◌^◌, leb, ltb, Bool, true, false, ◌&&◌, cond, List, [], ◌∷◌, ◌++◌, length, map, take, Option, Some, None, option_and_then, option_to_list, if◌then◌else◌, refl, subst, arith, ℤ, unsigned_abs}
use Rattle.std.specs.Prelude.{IfSome}
use Rattle.std.specs.Int.{int_max}
use Rattle.std.specs.List.{All, list_all, list_any}
use Rattle.std.proofs.lemmas.Bool.{and_parts, leb-true}
use Rattle.std.proofs.lemmas.Int.{ints, clamps}
use Rattle.std.proofs.lemmas.List.Elements.{All-head, All-tail}
use Rattle.row_kit.specs.declared.domain.Domain.{Domain}
use Rattle.row_kit.specs.declared.found.Found.{Found}
use Rattle.row_kit.specs.declared.program.Program.{Program}
use Rattle.row_kit.specs.Domain.{IsNormal, count_of}
use Rattle.row_kit.specs.Point.{worth_of}
use Rattle.range_prop.specs.declared.row_cut.RowCut.{RowCut}
use Rattle.range_prop.specs.Cut.{is_bare}
use Rattle.dual_bound.specs.declared.cert.Cert.{Cert}
use Rattle.dual_bound.specs.Cap.{IsSmallCap, cert_cap, scaled_cap}
use Rattle.dual_bound.specs.Total.{are_fit, is_fit, has_total, total_of, IsUsable}
use Rattle.dual_bound.proofs.Fit.{fit_all}
use Rattle.dual_bound.proofs.Small.{cap_small, total_small}
use Rattle.proof_tree.specs.declared.capped.Capped.{Capped}
use Rattle.proof_tree.specs.declared.capped.Capped.TheVariants.{AtMost, NoPoint, Bad}
use Rattle.proof_tree.specs.declared.item.Item.TheVariants.{Node, Cut, Found as FoundItem, Split}
use Rattle.proof_tree.specs.Cap.{greater, floor_cap}
use Rattle.proof_tree.specs.Items.{tree_items}
use Rattle.proof_tree.specs.Tree.{Leaf, no_point, dual, one_point, pending, leaf, split, tree_cap, leaf_cap, split_cap, after_cuts, cap_if}
use Rattle.proof_tree.specs.Views.{View}
use Rattle.row_relax.specs.declared.pick.RowPick.{RowPick}
use Rattle.row_relax.specs.laws.Lawful.{true_lawful}
use Rattle.row_relax.specs.laws.Laws.{rows_sound}
use Rattle.row_relax.specs.laws.Shown.{fits_of}
use Rattle.row_relax.specs.RowProofs.{RowItem, RowTree}
use Rattle.row_relax.specs.Settle.{are_single, is_lawful, only_point, settled}
use Rattle.row_relax.specs.Choices.{settled_with, steps_of}
use Rattle.row_relax.specs.declared.rows.Rows.{Rows}
use Rattle.row_relax.specs.Steps.{floor_by, row_steps}
use Rattle.row_relax.specs.View.{Fits, domains_of, view_of}
use Rattle.sum_slots.proofs.Joined.{All-first, All-second}
use Rattle.branch_tree.specs.Searched.{IsFitItem}
use Rattle.plan_told.proofs.WorthShort.{worth_short}

-- a fit certificate is usable
usable_of : (rows : ℕ) (cert : Cert) → is_fit rows cert ≡ true → IsUsable rows cert
usable_of rows cert fit =
    let p = and_parts (leb cert.scale 1048576 && leb (length cert.mults) 50000) (are_fit rows 0 cert.mults) fit in
    let q = and_parts (leb cert.scale 1048576) (leb (length cert.mults) 50000) p.0 in
    record { scale = leb-true cert.scale 1048576 q.0; few = leb-true (length cert.mults) 50000 q.1; fit = fit_all rows 0 cert.mults p.1 }

-- the cap of a certificate
cert_short : (program : Program) (ds : List Domain) (cert : Cert) → All IsNormal ds → length ds ≡ length program.root → IsSmallCap (10 ^ 30) (cert_cap program ds cert)
cert_short program ds cert normal same = at (has_total program ds cert) refl
  where
    at : (there : Bool) → has_total program ds cert ≡ there → IsSmallCap (10 ^ 30) (scaled_cap cert.scale (if there then Some (total_of program ds cert) else None))
    at true is =
        let parts = and_parts (is_fit (length program.rows) cert) (list_all (λ (d : Domain). ltb 0 (count_of d)) ds) is in
        cap_small cert.scale (10 ^ 30) (total_of program ds cert) (total_small program ds cert (usable_of (length program.rows) cert parts.0) normal same)
    at false is = tt

-- what settling gives
settled_short : (program : Program) (ds : List Domain) → IsSmallCap (10 ^ 30) (settled program ds)
unfolding settled
settled_short program ds = by_single (are_single ds)
  where
    by_lawful : (lawful : Bool) → is_lawful program (only_point ds) ≡ lawful → IsSmallCap (10 ^ 30) (cond lawful (AtMost (worth_of program (only_point ds))) NoPoint)
    by_lawful true is = worth_short program (only_point ds) (true_lawful program (only_point ds) is)
    by_lawful false is = tt

    by_single : (single : Bool) → IsSmallCap (10 ^ 30) (cond single (cond (is_lawful program (only_point ds)) (AtMost (worth_of program (only_point ds))) NoPoint) Bad)
    by_single true = by_lawful (is_lawful program (only_point ds)) refl
    by_single false = tt

empty_short : (empty : Bool) → IsSmallCap (10 ^ 30) (cond empty NoPoint Bad)
empty_short true = tt
empty_short false = tt

-- the same by choices, where there are any
settled_with_short : (program : Program) (choices : Option Program) (ds : List Domain) → IsSmallCap (10 ^ 30) (settled_with program choices ds)
settled_with_short program None ds = settled_short program ds
settled_with_short program (Some choices) ds = settled_short choices (take (length choices.root) ds)

-- the cap of a leaf
leaf_short : (rows : Rows) (v : View) (end : Leaf Cert) → Fits rows.program v → IsSmallCap (10 ^ 30) (leaf_cap (steps_of rows) v end)
unfolding row_steps
leaf_short rows v no_point fit = empty_short (list_any is_bare (domains_of v))
leaf_short rows v (dual cert) fit = cert_short rows.program (domains_of v) cert fit.normal fit.slots
leaf_short rows v one_point fit = settled_with_short rows.program rows.choices (domains_of v)
leaf_short rows v (pending cert) fit = cert_short rows.program (domains_of v) cert fit.normal fit.slots

max_short : (most : ℕ) (a b : ℤ) → unsigned_abs a < most → unsigned_abs b < most → unsigned_abs (int_max a b) < most
max_short most a b low high = omega (arith, ints, clamps)

-- the greater of two caps
greater_short : (most : ℕ) (a b : Capped) → IsSmallCap most a → IsSmallCap most b → IsSmallCap most (greater a b)
greater_short most Bad b low high = tt
greater_short most NoPoint b low high = high
greater_short most (AtMost a) Bad low high = tt
greater_short most (AtMost a) NoPoint low high = low
greater_short most (AtMost a) (AtMost b) low high = max_short most a b low high

if_short : (most : ℕ) (next : Option View) (cap_at : View → Capped) → ((w : View) → next ≡ Some w → IsSmallCap most (cap_at w)) → IsSmallCap most (cap_if next cap_at)
if_short most None cap_at each = tt
if_short most (Some w) cap_at each = each w refl

some_same : (v w : View) → Some v ≡ Some w → v ≡ w
some_same v w is = cc

-- what cuts lead to fits
cuts_fit : (rows : Rows) (cuts : List RowCut) (v w : View) → Fits rows.program v → after_cuts (steps_of rows) v cuts ≡ Some w → Fits rows.program w
cuts_fit rows [] v w fit is = subst (Fits rows.program) (some_same v w is) fit
cuts_fit rows (u ∷ us) v w fit is = first (λ x there led. cuts_fit rows us x w there led) ((steps_of rows).cut v u) refl is
  where
    first : ((x : View) → Fits rows.program x → after_cuts (steps_of rows) x us ≡ Some w → Fits rows.program w) → (next : Option View) → (steps_of rows).cut v u ≡ next → option_and_then (λ x. after_cuts (steps_of rows) x us) next ≡ Some w → Fits rows.program w
    first rest None to led = absurd (cc)
    first rest (Some x) to led = rest x ((rows_sound rows.program).cut_fits v x u fit to) led

-- the cap of a floor that has at most 30 digits
floor_short : (program : Program) (v : View) (cert : Cert) (floor : Option ℤ) → IfSome floor (λ n. unsigned_abs n < 10 ^ 30) → IsSmallCap (10 ^ 30) (floor_cap (floor_by program (domains_of v) cert floor))
floor_short program v cert None short = tt
floor_short program v cert (Some n) short = at (has_total program (domains_of v) cert)
  where
    at : (total : Bool) → IsSmallCap (10 ^ 30) (floor_cap (cond total (Some n) None))
    at true = short
    at false = tt

pick_short : (rows : Rows) (v : View) (pick : RowPick) (cert : Cert) → IfSome pick.floor (λ n. unsigned_abs n < 10 ^ 30) → IsSmallCap (10 ^ 30) (floor_cap ((steps_of rows).floor v pick cert))
unfolding row_steps
pick_short rows v pick cert short = floor_short rows.program v cert pick.floor short

-- what holds of the items of a split holds of its own, and of those of its parts
split_items : (P : RowItem → Type 0) (cuts : List RowCut) (found : Option Found) (pick : RowPick) (cert : Cert) (a b : RowTree) → All P (tree_items (split cuts found pick cert a b)) → P (Split pick cert) × All P (tree_items a) × All P (tree_items b)
split_items P cuts found pick cert a b all =
    let parts : List RowItem = tree_items a ++ tree_items b in
    let end : List RowItem = Split pick cert ∷ parts in
    let groups : List RowItem = map FoundItem (option_to_list found) in
    let made : List RowItem = map Cut cuts in
    let own = All-second P groups end (All-second P made (groups ++ end) (All-tail P Node (made ++ (groups ++ end)) all)) in
    let rest = All-tail P (Split pick cert) parts own in
    (All-head P (Split pick cert) parts own, All-first P (tree_items a) (tree_items b) rest, All-second P (tree_items a) (tree_items b) rest)

-- the cap of a tree whose items may be written
tree_short : (rows : Rows) (floors : Bool) (tree : RowTree) (v : View) → Fits rows.program v → All (IsFitItem rows floors) (tree_items tree) → IsSmallCap (10 ^ 30) (tree_cap (steps_of rows) v tree)
tree_short rows floors (leaf cuts found end) v fit items =
    if_short (10 ^ 30) (after_cuts (steps_of rows) v cuts) (λ w. leaf_cap (steps_of rows) w end) (λ w is. leaf_short rows w end (cuts_fit rows cuts v w fit is))
tree_short rows floors (split cuts found pick cert a b) v fit items =
    let own = split_items (IsFitItem rows floors) cuts found pick cert a b items in
    if_short (10 ^ 30) (after_cuts (steps_of rows) v cuts) (λ w. split_cap (steps_of rows) w pick cert (λ x. tree_cap (steps_of rows) x a) (λ x. tree_cap (steps_of rows) x b))
    (λ w is.
    let rest = (steps_of rows).trim w pick cert in
    let inner = (rows_sound rows.program).trim_fits w pick cert (cuts_fit rows cuts v w fit is) in
    let floor = floor_cap ((steps_of rows).floor w pick cert) in
    let first = cap_if ((steps_of rows).left rest pick) (λ x. tree_cap (steps_of rows) x a) in
    let second = cap_if ((steps_of rows).right rest pick) (λ x. tree_cap (steps_of rows) x b) in
    greater_short (10 ^ 30) (greater floor first) second
    (greater_short (10 ^ 30) floor first (pick_short rows w pick cert own.0.4)
    (if_short (10 ^ 30) ((steps_of rows).left rest pick) (λ x. tree_cap (steps_of rows) x a) (λ x to. tree_short rows floors a x ((rows_sound rows.program).left_fits rest x pick inner to) own.1)))
    (if_short (10 ^ 30) ((steps_of rows).right rest pick) (λ x. tree_cap (steps_of rows) x b) (λ x to. tree_short rows floors b x ((rows_sound rows.program).right_fits rest x pick inner to) own.2)))

-- the cap of a proof over the root whose items may be written
pub root_short : (rows : Rows) (floors : Bool) (tree : RowTree) → All (IsFitItem rows floors) (tree_items tree) → IsSmallCap (10 ^ 30) (tree_cap (steps_of rows) (view_of rows.program.root) tree)
root_short rows floors tree items = tree_short rows floors tree (view_of rows.program.root) (fits_of rows.program rows.program.root refl rows.program.root_normal) items
