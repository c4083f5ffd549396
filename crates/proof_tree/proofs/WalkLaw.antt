-- The law of the walk: the items of a tree lead to its cap, and no more splits are open than the tree is deep.
use Rattle.std.proofs.Common.{◌≡◌, ◌≢◌, ℕ, ℤ, ◌+◌, ◌-◌, ◌<◌, ◌≤◌, Bool, true, false, List, [], ◌∷◌, ◌++◌, map, length, Option, Some, None, option_to_list, option_and_then, if◌then◌else◌, refl, ap, sym, ◌∙◌, subst, arith}
use Rattle.proof_tree.specs.declared.capped.Capped.{Capped}
use Rattle.proof_tree.specs.declared.capped.Capped.TheVariants.{AtMost, NoPoint, Bad}
use Rattle.proof_tree.specs.declared.item.Item.{Item}
use Rattle.proof_tree.specs.declared.item.Item.TheVariants.{Cut, Found, Empty, Dual, Point, Pending, Split}
use Rattle.proof_tree.specs.declared.walk.Expected.{Expected}
use Rattle.proof_tree.specs.declared.walk.Expected.TheVariants.{Node as ExpectNode, Inside, End}
use Rattle.proof_tree.specs.Cap.{greater, floor_cap}
use Rattle.proof_tree.specs.Items.{leaf_item, tree_items, depth}
use Rattle.proof_tree.specs.Relaxation.{Steps}
use Rattle.proof_tree.specs.Tree.{Leaf, no_point, dual, one_point, pending, Tree, leaf, split, tree_cap, split_cap, leaf_cap, after_cuts, cap_if}
use Rattle.proof_tree.specs.Views.{View}
use Rattle.proof_tree.specs.Walk.{Opened, Stage, Outcome, going, ended, undefined, misplaced, may_come, going_to, close, close_split, part_ended, split_open, come_to, step, after, walked, start, outcome_of, open_count, ComesNext, Tells}
use Rattle.proof_tree.proofs.Caps.{floor-bad, floor-not_bad}

-- the stage where these items may come, with these splits open, over this view
abbrev pub stage_at : {P : Type 0} → Expected → List (Opened P) → View → Outcome P
stage_at expected splits v = going (record { expected = expected; splits = splits; view = v })

-- an open split over this view
abbrev pub split_over : {P : Type 0} → View → P → Option ℤ → Option Capped → Opened P
split_over v pick floor left = record { view = v; pick = pick; floor = floor; left = left }

-- where no split is open, a part that has ended is the proof
part_ended-none : {U C P : Type 0} (s : Steps U C P) (proof_cap : Capped) → part_ended s [] proof_cap ≡ outcome_of proof_cap
part_ended-none s Bad = refl
part_ended-none s NoPoint = refl
part_ended-none s (AtMost n) = refl

module _ (R A F : Type 0) {U C P : Type 0} (s : Steps U C P) where
  -- what two lists lead to, one after the other
  pub walked-append : (outcome : Outcome P) (xs ys : List (Item R A U C P F)) → walked s outcome (xs ++ ys) ≡ walked s (walked s outcome xs) ys
  walked-append outcome [] ys = refl
  walked-append outcome (x ∷ xs) ys = walked-append (after s outcome x) xs ys

  -- what one more item leads to
  pub walked-next : (outcome : Outcome P) (xs : List (Item R A U C P F)) (x : Item R A U C P F) (stage : Stage P) → walked s outcome xs ≡ going stage → walked s outcome (xs ++ x ∷ []) ≡ step s stage x
  walked-next outcome xs x stage so_far = walked-append outcome xs (x ∷ []) ∙ ap (λ o. after s o x) so_far

  -- what has no cap gets none
  pub walked-undefined : (xs : List (Item R A U C P F)) → walked s undefined xs ≡ undefined
  walked-undefined [] = refl
  walked-undefined (x ∷ xs) = walked-undefined xs

  pub walked-misplaced : (xs : List (Item R A U C P F)) → walked s misplaced xs ≡ misplaced
  walked-misplaced [] = refl
  walked-misplaced (x ∷ xs) = walked-misplaced xs

  -- cuts lead to the view after them
  walked-cuts : (splits : List (Opened P)) (v : View) (cuts : List U) → walked {R = R} {A = A} {F = F} s (stage_at Inside splits v) (map Cut cuts) ≡ going_to Inside splits (after_cuts s v cuts)
  walked-cuts splits v [] = refl
  walked-cuts splits v (u ∷ us) = first (s.cut v u) (λ w. walked-cuts splits w us)
    where
      first : (next : Option View) → ((w : View) → walked {R = R} {A = A} {F = F} s (stage_at Inside splits w) (map Cut us) ≡ going_to Inside splits (after_cuts s w us)) → walked {R = R} {A = A} {F = F} s (going_to Inside splits next) (map Cut us) ≡ going_to Inside splits (option_and_then (λ w. after_cuts s w us) next)
      first None rest = walked-undefined (map Cut us)
      first (Some w) rest = rest w

  -- a found point and a leaf end the part with the leaf's cap
  walked-leaf : (splits : List (Opened P)) (next : Option View) (found : Option F) (end : Leaf C) → walked {R = R} {A = A} s (going_to Inside splits next) (map Found (option_to_list found) ++ (leaf_item end ∷ [])) ≡ part_ended s splits (cap_if next (λ w. leaf_cap s w end))
  walked-leaf splits None found end = walked-undefined (map Found (option_to_list found) ++ (leaf_item end ∷ []))
  walked-leaf splits (Some w) None no_point = refl
  walked-leaf splits (Some w) None (dual cert) = refl
  walked-leaf splits (Some w) None one_point = refl
  walked-leaf splits (Some w) None (pending cert) = refl
  walked-leaf splits (Some w) (Some f) no_point = refl
  walked-leaf splits (Some w) (Some f) (dual cert) = refl
  walked-leaf splits (Some w) (Some f) one_point = refl
  walked-leaf splits (Some w) (Some f) (pending cert) = refl

  -- a found point and a split open its left part
  walked-split : (splits : List (Opened P)) (w : View) (found : Option F) (pick : P) (cert : C) (xs : List (Item R A U C P F)) → walked s (stage_at Inside splits w) (map Found (option_to_list found) ++ (Split pick cert ∷ xs)) ≡ walked s (going_to ExpectNode (split_open s w pick cert ∷ splits) (s.left (s.trim w pick cert) pick)) xs
  walked-split splits w None pick cert xs = refl
  walked-split splits w (Some f) pick cert xs = refl

  -- the second part of a split closes it with the greater of what stands by then and that part's cap
  right_part : (splits : List (Opened P)) (v : View) (pick : P) (floor : Option ℤ) (first : Capped) (second : View → Capped) (items : List (Item R A U C P F)) (next : Option View) → first ≢ Bad → ((y : View) → walked s (stage_at ExpectNode (split_over v pick floor (Some first) ∷ splits) y) items ≡ part_ended s (split_over v pick floor (Some first) ∷ splits) (second y)) → walked s (going_to ExpectNode (split_over v pick floor (Some first) ∷ splits) next) items ≡ part_ended s splits (greater first (cap_if next second))
  right_part splits v pick floor Bad second items next not_bad rest = absurd (not_bad refl)
  right_part splits v pick floor NoPoint second items None not_bad rest = walked-undefined items
  right_part splits v pick floor (AtMost n) second items None not_bad rest = walked-undefined items
  right_part splits v pick floor NoPoint second items (Some y) not_bad rest = rest y ∙ ends (second y)
    where
      ends : (cap_y : Capped) → part_ended s (split_over v pick floor (Some NoPoint) ∷ splits) cap_y ≡ part_ended s splits (greater NoPoint cap_y)
      ends Bad = refl
      ends NoPoint = refl
      ends (AtMost m) = refl
  right_part splits v pick floor (AtMost n) second items (Some y) not_bad rest = rest y ∙ ends (second y)
    where
      ends : (cap_y : Capped) → part_ended s (split_over v pick floor (Some (AtMost n)) ∷ splits) cap_y ≡ part_ended s splits (greater (AtMost n) cap_y)
      ends Bad = refl
      ends NoPoint = refl
      ends (AtMost m) = refl

  -- where the first part of a split has no cap, the split has none
  left_capless : (splits : List (Opened P)) (floor : Option ℤ) (other : Capped) (items : List (Item R A U C P F)) → walked s undefined items ≡ part_ended s splits (greater (greater (floor_cap floor) Bad) other)
  left_capless splits floor other items = walked-undefined items ∙ ap (λ cap. part_ended s splits (greater cap other)) (sym (floor-bad floor))

  -- the first part of a split ends, and its second part begins where it has a cap
  left_ended : (splits : List (Opened P)) (v : View) (pick : P) (floor : Option ℤ) (first : Capped) (second : View → Capped) (items : List (Item R A U C P F)) (next : Option View) → s.right v pick ≡ next → ((cap_x : Capped) (y : View) → walked s (stage_at ExpectNode (split_over v pick floor (Some cap_x) ∷ splits) y) items ≡ part_ended s (split_over v pick floor (Some cap_x) ∷ splits) (second y)) → walked s (part_ended s (split_over v pick floor None ∷ splits) first) items ≡ part_ended s splits (greater (greater (floor_cap floor) first) (cap_if next second))
  left_ended splits v pick floor Bad second items next is rest = left_capless splits floor (cap_if next second) items
  left_ended splits v pick floor NoPoint second items next is rest =
      let so_far = greater (floor_cap floor) NoPoint in
      rw is (right_part splits v pick floor so_far second items next (floor-not_bad floor NoPoint (λ e. cc)) (rest so_far))
  left_ended splits v pick floor (AtMost n) second items next is rest =
      let so_far = greater (floor_cap floor) (AtMost n) in
      rw is (right_part splits v pick floor so_far second items next (floor-not_bad floor (AtMost n) (λ e. cc)) (rest so_far))

  -- both parts of a split lead from its first view to the greatest of its floor's and their caps
  both_parts : (splits : List (Opened P)) (v : View) (pick : P) (floor : Option ℤ) (first second : View → Capped) (xs ys : List (Item R A U C P F)) (next : Option View) → ((x : View) → walked s (stage_at ExpectNode (split_over v pick floor None ∷ splits) x) xs ≡ part_ended s (split_over v pick floor None ∷ splits) (first x)) → ((cap_x : Capped) (y : View) → walked s (stage_at ExpectNode (split_over v pick floor (Some cap_x) ∷ splits) y) ys ≡ part_ended s (split_over v pick floor (Some cap_x) ∷ splits) (second y)) → walked s (going_to ExpectNode (split_over v pick floor None ∷ splits) next) (xs ++ ys) ≡ part_ended s splits (greater (greater (floor_cap floor) (cap_if next first)) (cap_if (s.right v pick) second))
  both_parts splits v pick floor first second xs ys None one other = left_capless splits floor (cap_if (s.right v pick) second) (xs ++ ys)
  both_parts splits v pick floor first second xs ys (Some x) one other =
      walked-append (stage_at ExpectNode (split_over v pick floor None ∷ splits) x) xs ys
      ∙ (ap (λ o. walked s o ys) (one x) ∙ left_ended splits v pick floor (first x) second ys (s.right v pick) refl other)

  -- a found point, a split and the items of its parts lead from the view after the cuts to the split's cap
  walked-parts : (splits : List (Opened P)) (found : Option F) (pick : P) (cert : C) (first second : View → Capped) (xs ys : List (Item R A U C P F)) (next : Option View) → ((inner : List (Opened P)) (x : View) → walked s (stage_at ExpectNode inner x) xs ≡ part_ended s inner (first x)) → ((inner : List (Opened P)) (y : View) → walked s (stage_at ExpectNode inner y) ys ≡ part_ended s inner (second y)) → walked s (going_to Inside splits next) (map Found (option_to_list found) ++ (Split pick cert ∷ (xs ++ ys))) ≡ part_ended s splits (cap_if next (λ w. split_cap s w pick cert first second))
  walked-parts splits found pick cert first second xs ys None one other = walked-undefined (map Found (option_to_list found) ++ (Split pick cert ∷ (xs ++ ys)))
  walked-parts splits found pick cert first second xs ys (Some w) one other =
      let rest = s.trim w pick cert in
      let floor = s.floor w pick cert in
      walked-split splits w found pick cert (xs ++ ys)
      ∙ both_parts splits rest pick floor first second xs ys (s.left rest pick) (one (split_over rest pick floor None ∷ splits)) (λ cap_x. other (split_over rest pick floor (Some cap_x) ∷ splits))

  -- the items of a tree lead to its cap
  pub walked-tree : (tree : Tree U C P F) (splits : List (Opened P)) (v : View) → walked {R = R} {A = A} s (stage_at ExpectNode splits v) (tree_items tree) ≡ part_ended s splits (tree_cap s v tree)
  walked-tree (leaf cuts found end) splits v =
      walked-append (stage_at Inside splits v) (map Cut cuts) (map Found (option_to_list found) ++ (leaf_item end ∷ []))
      ∙ (ap (λ o. walked {R = R} {A = A} s o (map Found (option_to_list found) ++ (leaf_item end ∷ []))) (walked-cuts splits v cuts) ∙ walked-leaf splits (after_cuts s v cuts) found end)
  walked-tree (split cuts found pick cert a b) splits v =
      walked-append (stage_at Inside splits v) (map Cut cuts) (map Found (option_to_list found) ++ (Split pick cert ∷ (tree_items a ++ tree_items b)))
      ∙ (ap (λ o. walked {R = R} {A = A} s o (map Found (option_to_list found) ++ (Split pick cert ∷ (tree_items a ++ tree_items b)))) (walked-cuts splits v cuts)
      ∙ walked-parts splits found pick cert (λ x. tree_cap s x a) (λ y. tree_cap s y b) (tree_items a) (tree_items b) (after_cuts s v cuts) (walked-tree a) (walked-tree b))

  -- from a new walk the items of a proof lead to its cap
  pub walked-whole : (tree : Tree U C P F) (v : View) → walked {R = R} {A = A} s (start v) (tree_items tree) ≡ outcome_of (tree_cap s v tree)
  walked-whole tree v = walked-tree tree [] v ∙ part_ended-none s (tree_cap s v tree)

  -- no proof leads to an item that may not come
  not_misplaced : (proof_cap : Capped) → misplaced ≡ outcome_of {P = P} proof_cap → ⊥
  not_misplaced Bad e = cc
  not_misplaced NoPoint e = cc
  not_misplaced (AtMost n) e = cc

  -- an item that is followed by a cap comes where it may come
  comes_next : (outcome : Outcome P) (item : Item R A U C P F) (later : List (Item R A U C P F)) (proof_cap : Capped) → walked s outcome (item ∷ later) ≡ outcome_of proof_cap → ComesNext outcome item
  comes_next (going stage) item later proof_cap led = ask (may_come stage.expected item) refl led
    where
      ask : (may : Bool) → may_come stage.expected item ≡ may → walked s (if may then come_to s stage.splits stage.view item else misplaced) later ≡ outcome_of proof_cap → may_come stage.expected item ≡ true
      ask true is led = is
      ask false is led = absurd (not_misplaced proof_cap (sym (walked-misplaced later) ∙ led))
  comes_next (ended n) item later proof_cap led = not_misplaced proof_cap (sym (walked-misplaced later) ∙ led)
  comes_next undefined item later proof_cap led = tt
  comes_next misplaced item later proof_cap led = not_misplaced proof_cap (sym (walked-misplaced later) ∙ led)

  -- each item of a proof comes where it may come
  pub walked-comes : (tree : Tree U C P F) (v : View) (before : List (Item R A U C P F)) (item : Item R A U C P F) (later : List (Item R A U C P F)) → tree_items tree ≡ before ++ item ∷ later → ComesNext (walked s (start v) before) item
  walked-comes tree v before item later is =
      comes_next (walked s (start v) before) item later (tree_cap s v tree)
      (sym (walked-append (start v) before (item ∷ later)) ∙ (ap (walked s (start v)) (sym is) ∙ walked-whole tree v))

  tells : (outcome : Outcome P) (later : List (Item R A U C P F)) (proof_cap : Capped) → walked s outcome later ≡ outcome_of proof_cap → Tells outcome later proof_cap
  tells (going stage) [] Bad led = cc
  tells (going stage) [] NoPoint led = cc
  tells (going stage) [] (AtMost n) led = cc
  tells (going stage) (x ∷ xs) proof_cap led = omega arith
  tells (ended c) [] Bad led = cc
  tells (ended c) [] NoPoint led = (refl, cc)
  tells (ended c) [] (AtMost n) led = (refl, cc)
  tells (ended c) (x ∷ xs) proof_cap led = absurd (not_misplaced proof_cap (sym (walked-misplaced xs) ∙ led))
  tells undefined later Bad led = refl
  tells undefined later NoPoint led = let none = walked-undefined later in cc
  tells undefined later (AtMost n) led = let none = walked-undefined later in cc
  tells misplaced later proof_cap led = not_misplaced proof_cap (sym (walked-misplaced later) ∙ led)

  -- what the items so far tell of a proof's cap
  pub walked-so_far : (tree : Tree U C P F) (v : View) (before later : List (Item R A U C P F)) → tree_items tree ≡ before ++ later → Tells (walked s (start v) before) later (tree_cap s v tree)
  walked-so_far tree v before later is =
      tells (walked s (start v) before) later (tree_cap s v tree)
      (sym (walked-append (start v) before later) ∙ (ap (walked s (start v)) (sym is) ∙ walked-whole tree v))

  -- no more than n splits are open at any time
  abbrev Within : ℕ → Outcome P → List (Item R A U C P F) → Type 0
  Within n outcome [] = open_count outcome ≤ n
  Within n outcome (x ∷ xs) = (open_count outcome ≤ n) × Within n (after s outcome x) xs

  Within-start : (n : ℕ) (outcome : Outcome P) (xs : List (Item R A U C P F)) → Within n outcome xs → open_count outcome ≤ n
  Within-start n outcome [] within = within
  Within-start n outcome (x ∷ xs) within = within.0

  Within-front : (n : ℕ) (outcome : Outcome P) (xs ys : List (Item R A U C P F)) → Within n outcome (xs ++ ys) → open_count (walked s outcome xs) ≤ n
  Within-front n outcome [] ys within = Within-start n outcome ys within
  Within-front n outcome (x ∷ xs) ys within = Within-front n (after s outcome x) xs ys within.1

  Within-append : (n : ℕ) (outcome : Outcome P) (xs ys : List (Item R A U C P F)) → Within n outcome xs → Within n (walked s outcome xs) ys → Within n outcome (xs ++ ys)
  Within-append n outcome [] ys first second = second
  Within-append n outcome (x ∷ xs) ys first second = (first.0, Within-append n (after s outcome x) xs ys first.1 second)

  Within-undefined : (n : ℕ) (xs : List (Item R A U C P F)) → Within n undefined xs
  Within-undefined n [] = omega arith
  Within-undefined n (x ∷ xs) = (omega arith, Within-undefined n xs)

  -- a part that ends leaves no more splits open than there were
  going_to-count : (expected : Expected) (splits : List (Opened P)) (next : Option View) → open_count (going_to expected splits next) ≤ length splits
  going_to-count expected splits None = omega arith
  going_to-count expected splits (Some v) = omega arith

  close-count : (splits : List (Opened P)) (part_cap : Capped) → open_count (close s splits part_cap) ≤ length splits
  close-count [] part_cap = omega arith
  close-count (o ∷ os) part_cap = at_left o.left (close-count os)
    where
      at_left : (left : Option Capped) → ((c : Capped) → open_count (close s os c) ≤ length os) → open_count (close_split s o os part_cap left (close s os)) ≤ length (o ∷ os)
      at_left None rest = going_to-count ExpectNode (record o { left = Some (greater (floor_cap o.floor) part_cap) } ∷ os) (s.right o.view o.pick)
      at_left (Some l) rest = let inner = rest (greater l part_cap) in omega arith

  part_ended-count : (splits : List (Opened P)) (part_cap : Capped) → open_count (part_ended s splits part_cap) ≤ length splits
  part_ended-count splits Bad = omega arith
  part_ended-count splits NoPoint = close-count splits NoPoint
  part_ended-count splits (AtMost n) = close-count splits (AtMost n)

  Within-cuts : (n : ℕ) (splits : List (Opened P)) (v : View) (cuts : List U) → length splits ≤ n → Within n (stage_at Inside splits v) (map Cut cuts)
  Within-cuts n splits v [] few = few
  Within-cuts n splits v (u ∷ us) few = (few, first (s.cut v u) (λ w. Within-cuts n splits w us few))
    where
      first : (next : Option View) → ((w : View) → Within n (stage_at Inside splits w) (map Cut us)) → Within n (going_to Inside splits next) (map Cut us)
      first None rest = Within-undefined n (map Cut us)
      first (Some w) rest = rest w

  count-if : (n : ℕ) (may : Bool) (splits : List (Opened P)) (part_cap : Capped) → length splits ≤ n → open_count (if may then part_ended s splits part_cap else misplaced) ≤ n
  count-if n true splits part_cap few = let inner = part_ended-count splits part_cap in omega arith
  count-if n false splits part_cap few = omega arith

  Within-end : (n : ℕ) (expected : Expected) (splits : List (Opened P)) (w : View) (end : Leaf C) → length splits ≤ n → Within n (stage_at expected splits w) (leaf_item end ∷ [])
  Within-end n expected splits w no_point few = (few, count-if n (may_come {R = R} {A = A} {U = U} {C = C} {P = P} {F = F} expected Empty) splits (leaf_cap s w no_point) few)
  Within-end n expected splits w (dual cert) few = (few, count-if n (may_come {R = R} {A = A} {U = U} {P = P} {F = F} expected (Dual cert)) splits (leaf_cap s w (dual cert)) few)
  Within-end n expected splits w one_point few = (few, count-if n (may_come {R = R} {A = A} {U = U} {C = C} {P = P} {F = F} expected Point) splits (leaf_cap s w one_point) few)
  Within-end n expected splits w (pending cert) few = (few, count-if n (may_come {R = R} {A = A} {U = U} {P = P} {F = F} expected (Pending cert)) splits (leaf_cap s w (pending cert)) few)

  Within-leaf : (n : ℕ) (splits : List (Opened P)) (next : Option View) (found : Option F) (end : Leaf C) → length splits ≤ n → Within n (going_to Inside splits next) (map Found (option_to_list found) ++ (leaf_item end ∷ []))
  Within-leaf n splits None found end few = Within-undefined n (map Found (option_to_list found) ++ (leaf_item end ∷ []))
  Within-leaf n splits (Some w) None end few = Within-end n Inside splits w end few
  Within-leaf n splits (Some w) (Some f) end few = (few, Within-end n End splits w end few)

  Within-right : (n : ℕ) (splits : List (Opened P)) (ys : List (Item R A U C P F)) (next : Option View) → ((y : View) → Within n (stage_at ExpectNode splits y) ys) → Within n (going_to ExpectNode splits next) ys
  Within-right n splits ys None rest = Within-undefined n ys
  Within-right n splits ys (Some y) rest = rest y

  Within-second : (n : ℕ) (splits : List (Opened P)) (v : View) (pick : P) (floor : Option ℤ) (first : Capped) (ys : List (Item R A U C P F)) → ((c : Capped) (y : View) → Within n (stage_at ExpectNode (split_over v pick floor (Some c) ∷ splits) y) ys) → Within n (part_ended s (split_over v pick floor None ∷ splits) first) ys
  Within-second n splits v pick floor Bad ys rest = Within-undefined n ys
  Within-second n splits v pick floor NoPoint ys rest =
      let so_far = greater (floor_cap floor) NoPoint in
      Within-right n (split_over v pick floor (Some so_far) ∷ splits) ys (s.right v pick) (rest so_far)
  Within-second n splits v pick floor (AtMost m) ys rest =
      let so_far = greater (floor_cap floor) (AtMost m) in
      Within-right n (split_over v pick floor (Some so_far) ∷ splits) ys (s.right v pick) (rest so_far)

  Within-both : (n : ℕ) (splits : List (Opened P)) (v : View) (pick : P) (floor : Option ℤ) (first : View → Capped) (xs ys : List (Item R A U C P F)) (next : Option View) → ((x : View) → Within n (stage_at ExpectNode (split_over v pick floor None ∷ splits) x) xs) → ((x : View) → walked s (stage_at ExpectNode (split_over v pick floor None ∷ splits) x) xs ≡ part_ended s (split_over v pick floor None ∷ splits) (first x)) → ((c : Capped) (y : View) → Within n (stage_at ExpectNode (split_over v pick floor (Some c) ∷ splits) y) ys) → Within n (going_to ExpectNode (split_over v pick floor None ∷ splits) next) (xs ++ ys)
  Within-both n splits v pick floor first xs ys None one led other = Within-undefined n (xs ++ ys)
  Within-both n splits v pick floor first xs ys (Some x) one led other =
      Within-append n (stage_at ExpectNode (split_over v pick floor None ∷ splits) x) xs ys (one x)
      (subst (λ o. Within n o ys) (sym (led x)) (Within-second n splits v pick floor (first x) ys other))

  Within-parts : (n : ℕ) (splits : List (Opened P)) (found : Option F) (pick : P) (cert : C) (first : View → Capped) (xs ys : List (Item R A U C P F)) (next : Option View) → length splits ≤ n → ((inner : List (Opened P)) (x : View) → length inner ≤ length splits + 1 → Within n (stage_at ExpectNode inner x) xs) → ((inner : List (Opened P)) (x : View) → walked s (stage_at ExpectNode inner x) xs ≡ part_ended s inner (first x)) → ((inner : List (Opened P)) (y : View) → length inner ≤ length splits + 1 → Within n (stage_at ExpectNode inner y) ys) → Within n (going_to Inside splits next) (map Found (option_to_list found) ++ (Split pick cert ∷ (xs ++ ys)))
  Within-parts n splits found pick cert first xs ys None few one led other = Within-undefined n (map Found (option_to_list found) ++ (Split pick cert ∷ (xs ++ ys)))
  Within-parts n splits found pick cert first xs ys (Some w) few one led other = at found
    where
      both : Within n (going_to ExpectNode (split_open s w pick cert ∷ splits) (s.left (s.trim w pick cert) pick)) (xs ++ ys)
      both =
          let rest = s.trim w pick cert in
          let floor = s.floor w pick cert in
          Within-both n splits rest pick floor first xs ys (s.left rest pick) (λ x. one (split_over rest pick floor None ∷ splits) x (omega arith)) (led (split_over rest pick floor None ∷ splits)) (λ c y. other (split_over rest pick floor (Some c) ∷ splits) y (omega arith))

      at : (f : Option F) → Within n (stage_at Inside splits w) (map Found (option_to_list f) ++ (Split pick cert ∷ (xs ++ ys)))
      at None = (few, both)
      at (Some f) = (few, (few, both))

  -- while the items of a tree are taken, no more splits are open than stood open before and the tree is deep
  Within-tree : (tree : Tree U C P F) (n : ℕ) (splits : List (Opened P)) (v : View) → length splits + depth tree ≤ n + 1 → Within n (stage_at ExpectNode splits v) (tree_items tree)
  Within-tree (leaf cuts found end) n splits v deep = (
    omega arith,
    Within-append n (stage_at Inside splits v) (map Cut cuts) (map Found (option_to_list found) ++ (leaf_item end ∷ [])) (Within-cuts n splits v cuts (omega arith))
        (subst (λ o. Within n o (map Found (option_to_list found) ++ (leaf_item end ∷ []))) (sym (walked-cuts splits v cuts)) (Within-leaf n splits (after_cuts s v cuts) found end (omega arith))),
  )
  Within-tree (split cuts found pick cert a b) n splits v deep = (
    omega arith,
    Within-append n (stage_at Inside splits v) (map Cut cuts) (map Found (option_to_list found) ++ (Split pick cert ∷ (tree_items a ++ tree_items b))) (Within-cuts n splits v cuts (omega arith))
        (subst (λ o. Within n o (map Found (option_to_list found) ++ (Split pick cert ∷ (tree_items a ++ tree_items b)))) (sym (walked-cuts splits v cuts))
        (Within-parts n splits found pick cert (λ x. tree_cap s x a) (tree_items a) (tree_items b) (after_cuts s v cuts) (omega arith) (λ inner x few. Within-tree a n inner x (omega arith)) (walked-tree a) (λ inner y few. Within-tree b n inner y (omega arith)))),
  )

  depth-pos : (tree : Tree U C P F) → 0 < depth tree
  depth-pos (leaf cuts found end) = omega arith
  depth-pos (split cuts found pick cert a b) = omega arith

  -- fewer splits are open than the tree has nodes one below another
  pub walked-depth : (tree : Tree U C P F) (v : View) (before later : List (Item R A U C P F)) → tree_items tree ≡ before ++ later → open_count (walked s (start v) before) < depth tree
  walked-depth tree v before later is =
      let deep : 0 < depth tree = depth-pos tree in
      let all : Within (depth tree - 1) (start v) (tree_items tree) = Within-tree tree (depth tree - 1) [] v (omega arith) in
      let few : open_count (walked s (start v) before) ≤ depth tree - 1 = Within-front (depth tree - 1) (start v) before later (subst (Within (depth tree - 1) (start v)) is all) in
      omega arith
