-- Where splits have caps of their own, the loose cap is at most the proof's own.
use Rattle.std.proofs.Common.{◌≡◌, ◌≢◌, Bool, true, false, cond, ℤ, [], ◌∷◌, Option, Some, None, refl, sym, ap, ◌∙◌, subst, arith}
use Rattle.std.specs.Prelude.{⊤, int_lt}
use Rattle.std.specs.Int.{int_min}
use Rattle.std.specs.Int.Signed.{≤ℤ_refl}
use Rattle.std.proofs.lemmas.Int.{fold-int_min_bounds}
use Rattle.row_kit.specs.declared.program.Program.{Program}
use Rattle.proof_tree.specs.declared.capped.Capped.{Capped}
use Rattle.proof_tree.specs.declared.capped.Capped.TheVariants.{AtMost, NoPoint, Bad}
use Rattle.proof_tree.specs.Cap.{greater, floor_cap}
use Rattle.proof_tree.specs.Tree.{leaf, split, after_cuts, cap_if, leaf_cap, split_cap, tree_cap}
use Rattle.proof_tree.specs.Views.{View}
use Rattle.row_relax.specs.declared.rows.Rows.{Rows}
use Rattle.row_relax.specs.Choices.{plain, steps_of}
use Rattle.row_relax.specs.RowProofs.{RowTree}
use Rattle.row_relax.specs.Steps.{row_steps}
use Rattle.row_relax.specs.View.{Fits}
use Rattle.row_relax.specs.laws.Laws.{rows_sound}
use Rattle.row_relax.proofs.Choosing.{plain-rows}
use Rattle.plan_images.specs.Caps.{Allows}
use Rattle.plan_images.proofs.Allowing.{allows-left, allows-less, allows-right}
use Rattle.what_if.specs.Loose.{StandsForCap, IsAtMost, IsPlainBelow, certified, lesser, loose_cap, loosened, no_mults, or_else, as_cap, within}
use Rattle.what_if.proofs.Same.{after_all-same, cap_if-there, greater-first, greater-second, loose_cap-same}

-- a cap is no more than another
abbrev NoMore : Capped → Capped → Type 0
NoMore Bad other = ⊥
NoMore NoPoint other = ⊤
NoMore (AtMost n) other = Allows other n

-- a cap that is defined is no more than itself
own-no_more : (cap : Capped) → cap ≢ Bad → NoMore cap cap
own-no_more Bad is = absurd (is refl)
own-no_more NoPoint is = tt
own-no_more (AtMost n) is = ≤ℤ_refl n

-- the greater of two caps is no more than that of two others
greater-no_more : (a b c d : Capped) → NoMore a c → NoMore b d → NoMore (greater a b) (greater c d)
greater-no_more Bad b c d first second = first
greater-no_more NoPoint Bad c d first second = second
greater-no_more NoPoint NoPoint c d first second = tt
greater-no_more NoPoint (AtMost n) c d first second = allows-right c d n second
greater-no_more (AtMost m) Bad c d first second = second
greater-no_more (AtMost m) NoPoint c d first second = allows-left c d m first
greater-no_more (AtMost m) (AtMost n) c d first second = by_lt (int_lt n m)
  where
    by_lt : (lt : Bool) → Allows (greater c d) (cond lt m n)
    by_lt true = allows-left c d m first
    by_lt false = allows-right c d n second

-- the lesser of two caps is no more than what the second is no more than
lesser-no_more : (a b c : Capped) → NoMore b c → NoMore (lesser a b) c
lesser-no_more Bad b c is = is
lesser-no_more NoPoint b c is = tt
lesser-no_more (AtMost m) Bad c is = absurd is
lesser-no_more (AtMost m) NoPoint c is = tt
lesser-no_more (AtMost m) (AtMost n) c is =
    allows-less c (int_min m n) n ((fold-int_min_bounds m (n ∷ []) (int_min m n) refl).1 0 n (omega arith)) is

-- what stands in the place of a cap is no more than it
or_else-no_more : (own other c : Capped) → NoMore own c → NoMore (or_else own other) c
or_else-no_more Bad other c is = absurd is
or_else-no_more NoPoint other c is = is
or_else-no_more (AtMost n) other c is = is

loosened-no_more : (program : Program) (v : View) (own c : Capped) → NoMore own c → NoMore (loosened program v own) c
loosened-no_more program v own c is = by_empty ((row_steps program).empty v)
  where
    by_empty : (empty : Bool) → NoMore (cond empty NoPoint (or_else own ((row_steps program).cap v no_mults))) c
    by_empty true = tt
    by_empty false = or_else-no_more own ((row_steps program).cap v no_mults) c is

-- the same of a part
part-no_more : (next : Option View) (loose own : View → Capped) → ((x : View) → next ≡ Some x → own x ≢ Bad → NoMore (loose x) (own x)) → cap_if next own ≢ Bad → NoMore (cap_if next loose) (cap_if next own)
part-no_more None loose own less is = absurd (is refl)
part-no_more (Some x) loose own less is = less x refl is

-- the loose cap is no more than the proof's own, where that is defined
loose-no_more : (rows : Rows) (tree : RowTree) (v : View) → Fits rows.program v → tree_cap (steps_of rows) v tree ≢ Bad → NoMore (loose_cap true rows v tree) (tree_cap (steps_of rows) v tree)
loose-no_more rows (leaf cuts found end) v fit is =
    let s = steps_of rows in
    let there = cap_if-there (after_cuts s v cuts) (λ w. leaf_cap s w end) is in
    let w = there.0 in
    let own : tree_cap s v (leaf cuts found end) ≡ leaf_cap s w end = ap (λ x. cap_if x (λ y. leaf_cap s y end)) there.1 in
    let at = after_all-same rows cuts v w fit there.1 in
    let less : NoMore (loosened rows.program w (leaf_cap s w end)) (leaf_cap s w end) = loosened-no_more rows.program w (leaf_cap s w end) (leaf_cap s w end) (own-no_more (leaf_cap s w end) (λ e. is (own ∙ e))) in
    subst (λ x. NoMore (loosened rows.program x (leaf_cap s x end)) (tree_cap s v (leaf cuts found end))) (sym at.0) (subst (NoMore (loosened rows.program w (leaf_cap s w end))) (sym own) less)
loose-no_more rows (split cuts found pick cert a b) v fit is =
    let s = steps_of rows in
    let loose_parts : View → Capped = λ w. split_cap s w pick cert (λ x. loose_cap true rows x a) (λ x. loose_cap true rows x b) in
    let own_parts : View → Capped = λ w. split_cap s w pick cert (λ x. tree_cap s x a) (λ x. tree_cap s x b) in
    let there = cap_if-there (after_cuts s v cuts) own_parts is in
    let w = there.0 in
    let own : tree_cap s v (split cuts found pick cert a b) ≡ own_parts w = ap (λ x. cap_if x own_parts) there.1 in
    let at = after_all-same rows cuts v w fit there.1 in
    let defined : own_parts w ≢ Bad = λ e. is (own ∙ e) in
    let rest = s.trim w pick cert in
    let rest_fits = (rows_sound rows.program).trim_fits w pick cert at.1 in
    let floor = floor_cap (s.floor w pick cert) in
    let first = cap_if (s.left rest pick) (λ x. tree_cap s x a) in
    let second = cap_if (s.right rest pick) (λ x. tree_cap s x b) in
    let one_defined = greater-first (greater floor first) second defined in
    let loose_first = cap_if (s.left rest pick) (λ x. loose_cap true rows x a) in
    let loose_second = cap_if (s.right rest pick) (λ x. loose_cap true rows x b) in
    let left_less = part-no_more (s.left rest pick) (λ x. loose_cap true rows x a) (λ x. tree_cap s x a) (λ x to. loose-no_more rows a x ((rows_sound rows.program).left_fits rest x pick rest_fits to)) (greater-second floor first one_defined) in
    let right_less = part-no_more (s.right rest pick) (λ x. loose_cap true rows x b) (λ x. tree_cap s x b) (λ x to. loose-no_more rows b x ((rows_sound rows.program).right_fits rest x pick rest_fits to)) (greater-second (greater floor first) second defined) in
    let one_less = greater-no_more floor loose_first floor first (own-no_more floor (greater-first floor first one_defined)) left_less in
    let parts : NoMore (loose_parts w) (own_parts w) = greater-no_more (greater floor loose_first) loose_second (greater floor first) second one_less right_less in
    let less : NoMore (loosened rows.program w (within true rows.program w cert (loose_parts w))) (own_parts w) =
    loosened-no_more rows.program w (within true rows.program w cert (loose_parts w)) (own_parts w) (lesser-no_more (certified rows.program w cert) (loose_parts w) (own_parts w) parts) in
    subst (λ x. NoMore (loosened rows.program x (within true rows.program x cert (loose_parts x))) (tree_cap s v (split cuts found pick cert a b))) (sym at.0) (subst (NoMore (loosened rows.program w (within true rows.program w cert (loose_parts w)))) (sym own) less)

-- a number that is the loose cap is at most it
at_most : (number : Option ℤ) (own : Capped) → NoMore (as_cap number) own → IsAtMost number own
at_most None own less = tt
at_most (Some n) own less = less

-- a number that is the loose cap of a proof answers to its own cap, where that is defined
pub answers : (capped : Bool) (rows : Rows) (tree : RowTree) (v : View) (number : Option ℤ) → Fits rows.program v → IsPlainBelow capped rows → tree_cap (steps_of rows) v tree ≢ Bad → as_cap number ≡ loose_cap capped rows v tree
    → StandsForCap capped number (tree_cap (steps_of rows) v tree)
answers false rows tree v number fit below defined is = is ∙ same (plain-rows rows (below refl)) fit defined
  where
    same : rows ≡ plain rows.program → Fits rows.program v → tree_cap (steps_of rows) v tree ≢ Bad → loose_cap false rows v tree ≡ tree_cap (steps_of rows) v tree
    same own fit' =
        let P : Rows → Type 0 = λ rs. tree_cap (steps_of rs) v tree ≢ Bad → loose_cap false rs v tree ≡ tree_cap (steps_of rs) v tree in
        subst P (sym own) (loose_cap-same rows.program tree v fit')
answers true rows tree v number fit below defined is =
    at_most number (tree_cap (steps_of rows) v tree) (subst (λ c. NoMore c (tree_cap (steps_of rows) v tree)) (sym is) (loose-no_more rows tree v fit defined))
