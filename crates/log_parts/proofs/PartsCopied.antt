-- The logs of parts, one after another, make the tree over the slots.
use Rattle.std.proofs.Common.{◌≡◌, ◌≢◌, ℕ, zero, suc, ◌+◌, ◌-◌, ◌^◌, ◌<◌, ◌≤◌, List, [], ◌∷◌, ◌++◌, get_or, take, drop, Option, None, Some, refl, sym, ap, ◌∙◌, subst, arith, append_assoc}
use Rattle.std.proofs.Math.Seq.{drop-nil, take-nil}
use Rattle.std.proofs.lemmas.List.{get_or-drop, drop-take}
use Rattle.stn_edge.specs.Files.{FileMap, file_of, OthersStay}
use Rattle.proof_tree.specs.declared.item.Item.TheVariants.{Node, Split}
use Rattle.proof_tree.specs.Items.{tree_items}
use Rattle.proof_tree.specs.Tree.{split}
use Rattle.row_relax.specs.RowProofs.{RowItem, RowTree}
use Rattle.log_lines.specs.declared.grammar.Limits.{Limits}
use Rattle.proof_log.specs.Behind.{behind}
use Rattle.proof_log.specs.LogNames.{log_name}
use Rattle.proof_log.specs.declared.writer.LogWriter.{LogWriter}
use Rattle.log_parts.specs.PartLogs.{no_mults, no_tree, tree_over}
use Rattle.log_parts.specs.laws.Copying.{name_of, split_items, items_over, bodies_of, HasItems, IsBegun, IsLogOf, AreLogsOf, HasCopied, HasBrokenOff, HasJoined, HasJoinBroken}
use Rattle.log_nodes.proofs.Stays.{same_file}
use Rattle.log_parts.proofs.Copies.{begun_longer}

-- ---- the tree over slots

take_take : {X : Type 0} (n m : ℕ) (xs : List X) → n ≤ m → take n (take m xs) ≡ take n xs
take_take zero m xs less = refl
take_take (suc n) m [] less = ap (take (suc n)) (take-nil m)
take_take (suc n) zero (x ∷ xs) less = absurd (omega (arith, less))
take_take {X = X} (suc n) (suc m) (x ∷ xs) less = ap (λ (ys : List X). x ∷ ys) (take_take n m xs (omega (arith, less)))

first_of : (trees : List RowTree) → get_or (take 1 trees) 0 no_tree ≡ get_or trees 0 no_tree
first_of [] = refl
first_of (tree ∷ trees) = refl

-- only the trees that it has room for stand in the tree
pub tree_over-take : (slot levels : ℕ) (trees : List RowTree) → tree_over slot levels (take (2 ^ levels) trees) ≡ tree_over slot levels trees
tree_over-take slot zero trees = first_of trees
tree_over-take slot (suc levels) trees =
    let double : 2 ^ suc levels ≡ 2 ^ levels + 2 ^ levels = omega arith in
    let left : take (2 ^ levels) (take (2 ^ suc levels) trees) ≡ take (2 ^ levels) trees = take_take (2 ^ levels) (2 ^ suc levels) trees (omega (arith, double)) in
    let right : drop (2 ^ levels) (take (2 ^ suc levels) trees) ≡ take (2 ^ levels) (drop (2 ^ levels) trees) = ap (λ (n : ℕ). drop (2 ^ levels) (take n trees)) double ∙ drop-take (2 ^ levels) (2 ^ levels) trees in
    ap (λ (own : List RowTree). split [] None (record { slot = slot; max = 0; floor = None }) no_mults (tree_over (slot + 1) levels own) (tree_over (slot + 1) levels (drop (2 ^ levels) (take (2 ^ suc levels) trees)))) left
    ∙ ap (split [] None (record { slot = slot; max = 0; floor = None }) no_mults (tree_over (slot + 1) levels (take (2 ^ levels) trees)))
    (ap (tree_over (slot + 1) levels) right ∙ tree_over-take (slot + 1) levels (drop (2 ^ levels) trees))

drop_drop : (n m : ℕ) (trees : List RowTree) → drop m (drop n trees) ≡ drop (n + m) trees
drop_drop n m [] = ap (drop m) (drop-nil n) ∙ drop-nil m ∙ sym (drop-nil (n + m))
drop_drop zero m (tree ∷ trees) = ap (λ (n : ℕ). drop n (tree ∷ trees)) (omega arith)
drop_drop (suc n) m (tree ∷ trees) =
    let next : suc n + m ≡ suc (n + m) = omega arith in
    drop_drop n m trees ∙ ap (λ (k : ℕ). drop k (tree ∷ trees)) (sym next)

-- the items of the tree over slots are the split's, those of the left parts, and those of the right ones
pub split_over : (slot k part : ℕ) (trees : List RowTree) → (split_items slot ++ items_over (slot + 1) k part trees) ++ items_over (slot + 1) k (part + 2 ^ k) trees ≡ items_over slot (suc k) part trees
split_over slot k part trees =
    ap (λ (own : RowTree). Node ∷ (Split (record { slot = slot; max = 0; floor = None }) no_mults ∷ (tree_items own ++ items_over (slot + 1) k (part + 2 ^ k) trees))) (sym (tree_over-take (slot + 1) k (drop part trees)))
    ∙ ap (λ (own : List RowTree). Node ∷ (Split (record { slot = slot; max = 0; floor = None }) no_mults ∷ (tree_items (tree_over (slot + 1) k (take (2 ^ k) (drop part trees))) ++ tree_items (tree_over (slot + 1) k own)))) (sym (drop_drop part (2 ^ k) trees))

-- there is a part
pub powered : (n : ℕ) → 0 < 2 ^ n
powered zero = omega arith
powered (suc n) = let less = powered n in let double : 2 ^ suc n ≡ 2 ^ n + 2 ^ n = omega arith in omega (arith, less, double)

-- a level has twice the parts of the next
pub halves : (levels slot : ℕ) → slot < levels → 2 ^ (levels - slot) ≡ 2 ^ (levels - (slot + 1)) + 2 ^ (levels - (slot + 1))
halves levels slot below =
    let one : levels - slot ≡ suc (levels - (slot + 1)) = omega (arith, below) in
    let double : 2 ^ suc (levels - (slot + 1)) ≡ 2 ^ (levels - (slot + 1)) + 2 ^ (levels - (slot + 1)) = omega arith in
    ap (λ (n : ℕ). 2 ^ n) one ∙ double

-- ---- files that stay

-- a told store still tells its files
pub still_told : (name other : List ℕ) (m : FileMap) → other ≢ name → OthersStay name (Some m) None → ⊥
still_told name other m apart stay = (let same = stay other apart in cc)

pub logs_stay : (limits : Limits) (count : ℕ) (stem heads name : List ℕ) (m n : FileMap) (trees : List RowTree) → OthersStay name (Some m) (Some n) → ((part : ℕ) → part < count → name ≢ log_name stem part)
    → AreLogsOf limits count (bodies_of m stem heads) trees → AreLogsOf limits count (bodies_of n stem heads) trees
logs_stay limits count stem heads name m n trees stay apart are part within =
    let own = log_name stem part in
    let same = same_file own (Some m) (Some n) (stay own (λ is. apart part within (sym is))) in
    let here : file_of n own ≡ file_of m own = cc in
    subst (λ (bytes : List ℕ). IsLogOf limits (behind 4 (get_or heads part 0) bytes) (get_or trees part no_tree)) (sym here) (are part within)

-- ---- one after another

pub joined_as : {D : Type 0} (limits : Limits) (count : ℕ) (stem heads : List ℕ) (f f' : List RowTree → List RowItem) (old new : Option FileMap) (writer later : LogWriter) (found : Option D) → ((trees : List RowTree) → f trees ≡ f' trees)
    → HasJoined limits count stem heads f old writer new later found → HasJoined limits count stem heads f' old writer new later found
joined_as limits count stem heads f f' None new writer later found same joined = tt
joined_as limits count stem heads f f' (Some m) new writer later found same joined = λ trees are front items has.
    let is = joined trees are front items has in (is.0, subst (λ (more : List RowItem). HasItems front later new (items ++ more)) (same trees) is.1)

pub broken_as : (limits : Limits) (count : ℕ) (stem heads : List ℕ) (f f' : List RowTree → List RowItem) (old new : Option FileMap) (writer : LogWriter) → ((trees : List RowTree) → f trees ≡ f' trees)
    → HasJoinBroken limits count stem heads f old writer new → HasJoinBroken limits count stem heads f' old writer new
broken_as limits count stem heads f f' None new writer same broken = tt
broken_as limits count stem heads f f' (Some m) new writer same broken = λ trees are front items has.
    subst (λ (more : List RowItem). IsBegun front (name_of writer) new (items ++ more)) (same trees) (broken trees are front items has)

-- first items and then others
pub joined_then : (D : Type 0) {E : Type 0} (limits : Limits) (count : ℕ) (stem heads name : List ℕ) (f f' : List RowTree → List RowItem) (old mid new : Option FileMap) (writer own later : LogWriter) (found : Option E) → 0 < count
    → ((part : ℕ) → part < count → name ≢ log_name stem part) → OthersStay name old mid → HasJoined limits count stem heads f old writer mid own {D = D} None → HasJoined limits count stem heads f' mid own new later found
    → HasJoined limits count stem heads (λ trees. f trees ++ f' trees) old writer new later found
joined_then D limits count stem heads name f f' None mid new writer own later found some apart stay first second = tt
joined_then D limits count stem heads name f f' (Some m) None new writer own later found some apart stay first second = absurd (still_told name (log_name stem 0) m (λ is. apart 0 some (sym is)) stay)
joined_then D limits count stem heads name f f' (Some m) (Some n) new writer own later found some apart stay first second = λ trees are front items has.
    let one = first trees are front items has in
    let two = second trees (logs_stay limits count stem heads name m n trees stay apart are) front (items ++ f trees) one.1 in
    (two.0, subst (HasItems front later new) (append_assoc items (f trees) (f' trees)) two.1)

-- first items, and it broke off in others
pub broken_then : (D : Type 0) (limits : Limits) (count : ℕ) (stem heads name : List ℕ) (f f' : List RowTree → List RowItem) (old mid new : Option FileMap) (writer own : LogWriter) → 0 < count
    → ((part : ℕ) → part < count → name ≢ log_name stem part) → OthersStay name old mid → name_of own ≡ name_of writer → HasJoined limits count stem heads f old writer mid own {D = D} None → HasJoinBroken limits count stem heads f' mid own new
    → HasJoinBroken limits count stem heads (λ trees. f trees ++ f' trees) old writer new
broken_then D limits count stem heads name f f' None mid new writer own some apart stay named first second = tt
broken_then D limits count stem heads name f f' (Some m) None new writer own some apart stay named first second = absurd (still_told name (log_name stem 0) m (λ is. apart 0 some (sym is)) stay)
broken_then D limits count stem heads name f f' (Some m) (Some n) new writer own some apart stay named first second = λ trees are front items has.
    let one = first trees are front items has in
    subst (λ (w : List ℕ). IsBegun front w new (items ++ (f trees ++ f' trees))) named
    (subst (IsBegun front (name_of own) new) (append_assoc items (f trees) (f' trees)) (second trees (logs_stay limits count stem heads name m n trees stay apart are) front (items ++ f trees) one.1))

-- it broke off in the first items
pub broken_first : (limits : Limits) (count : ℕ) (stem heads : List ℕ) (f f' : List RowTree → List RowItem) (old new : Option FileMap) (writer : LogWriter) → HasJoinBroken limits count stem heads f old writer new
    → HasJoinBroken limits count stem heads (λ trees. f trees ++ f' trees) old writer new
broken_first limits count stem heads f f' None new writer broken = tt
broken_first limits count stem heads f f' (Some m) new writer broken = λ trees are front items has.
    subst (IsBegun front (name_of writer) new) (append_assoc items (f trees) (f' trees)) (begun_longer front (name_of writer) new (items ++ f trees) (f' trees) (broken trees are front items has))

-- where something was found the logs are not those of trees
pub found_any : {D : Type 0} (limits : Limits) (count : ℕ) (stem heads : List ℕ) (f f' : List RowTree → List RowItem) (old new : Option FileMap) (writer later : LogWriter) (bad : D) → HasJoined limits count stem heads f old writer new later (Some bad)
    → HasJoined limits count stem heads f' old writer new later (Some bad)
found_any limits count stem heads f f' None new writer later bad joined = tt
found_any limits count stem heads f f' (Some m) new writer later bad joined = λ trees are front items has.
    let no = (joined trees are front items has).0 in absurd cc

-- the node of a split
pub opened : (D : Type 0) (limits : Limits) (count : ℕ) (stem heads : List ℕ) (added : List RowItem) (old new : Option FileMap) (writer later : LogWriter) → ((front : List ℕ) (items : List RowItem) → HasItems front writer old items → HasItems front later new (items ++ added))
    → HasJoined limits count stem heads (λ trees. added) old writer new later {D = D} None
opened D limits count stem heads added None new writer later took = tt
opened D limits count stem heads added (Some m) new writer later took = λ trees are front items has. (refl, took front items has)

pub open_broken : (limits : Limits) (count : ℕ) (stem heads : List ℕ) (added : List RowItem) (old new : Option FileMap) (writer : LogWriter) → ((front : List ℕ) (items : List RowItem) → HasItems front writer old items → IsBegun front (name_of writer) new (items ++ added))
    → HasJoinBroken limits count stem heads (λ trees. added) old writer new
open_broken limits count stem heads added None new writer broke = tt
open_broken limits count stem heads added (Some m) new writer broke = λ trees are front items has. broke front items has

-- ---- one part

part_items : (slot part : ℕ) (trees : List RowTree) → items_over slot 0 part trees ≡ tree_items (get_or trees part no_tree)
part_items slot part trees = ap tree_items (get_or-drop part trees 0 no_tree ∙ ap (λ (n : ℕ). get_or trees n no_tree) (omega arith))

-- the log of a part was copied
pub part_copied : (D E : Type 0) (limits : Limits) (count slot part : ℕ) (head : ℕ) (stem heads own : List ℕ) (old new : Option FileMap) (writer later : LogWriter) → part < count → head ≡ get_or heads part 0 → own ≡ log_name stem part
    → HasCopied limits head own old writer new later {D = D} None → HasJoined limits count stem heads (items_over slot 0 part) old writer new later {D = E} None
part_copied D E limits count slot part head stem heads own None new writer later within taken named copied = tt
part_copied D E limits count slot part head stem heads own (Some m) new writer later within taken named copied = λ trees are front items has.
    let is = copied (get_or trees part no_tree) (subst (λ (n : ℕ). IsLogOf limits (behind 4 n (file_of m own)) (get_or trees part no_tree)) (sym taken) (subst (λ (name : List ℕ). IsLogOf limits (behind 4 (get_or heads part 0) (file_of m name)) (get_or trees part no_tree)) (sym named) (are part within))) front items has in
    (refl, subst (λ (more : List RowItem). HasItems front later new (items ++ more)) (sym (part_items slot part trees)) is.1)

pub part_bad : {D E : Type 0} (limits : Limits) (count slot part : ℕ) (head : ℕ) (stem heads own : List ℕ) (old new : Option FileMap) (writer later : LogWriter) (defect : D) (bad : E) → part < count → head ≡ get_or heads part 0 → own ≡ log_name stem part
    → HasCopied limits head own old writer new later (Some defect) → HasJoined limits count stem heads (items_over slot 0 part) old writer new later (Some bad)
part_bad limits count slot part head stem heads own None new writer later defect bad within taken named copied = tt
part_bad limits count slot part head stem heads own (Some m) new writer later defect bad within taken named copied = λ trees are front items has.
    let is = copied (get_or trees part no_tree) (subst (λ (n : ℕ). IsLogOf limits (behind 4 n (file_of m own)) (get_or trees part no_tree)) (sym taken) (subst (λ (name : List ℕ). IsLogOf limits (behind 4 (get_or heads part 0) (file_of m name)) (get_or trees part no_tree)) (sym named) (are part within))) front items has in
    let no = is.0 in absurd cc

pub part_broken : (limits : Limits) (count slot part : ℕ) (head : ℕ) (stem heads own : List ℕ) (old new : Option FileMap) (writer : LogWriter) → part < count → head ≡ get_or heads part 0 → own ≡ log_name stem part
    → HasBrokenOff limits head own old writer new → HasJoinBroken limits count stem heads (items_over slot 0 part) old writer new
part_broken limits count slot part head stem heads own None new writer within taken named broken = tt
part_broken limits count slot part head stem heads own (Some m) new writer within taken named broken = λ trees are front items has.
    subst (λ (more : List RowItem). IsBegun front (name_of writer) new (items ++ more)) (sym (part_items slot part trees))
    (broken (get_or trees part no_tree) (subst (λ (n : ℕ). IsLogOf limits (behind 4 n (file_of m own)) (get_or trees part no_tree)) (sym taken) (subst (λ (name : List ℕ). IsLogOf limits (behind 4 (get_or heads part 0) (file_of m name)) (get_or trees part no_tree)) (sym named) (are part within))) front items has)

-- nothing was put
pub none_put : (limits : Limits) (count : ℕ) (stem heads : List ℕ) (f : List RowTree → List RowItem) (old : Option FileMap) (writer : LogWriter) → HasJoinBroken limits count stem heads f old writer old
none_put limits count stem heads f None writer = tt
none_put limits count stem heads f (Some m) writer = λ trees are front items has. begun_longer front (name_of writer) (Some m) items (f trees) (writer.buffer.items, has)
