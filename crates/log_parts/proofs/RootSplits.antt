-- The tree of splits over a plant's first slots, of whose domains cuts have left some: what its two parts are over, and what holds of its
-- cap and of its items.
use Rattle.std.proofs.Common.{◌≡◌, ◌≢◌, ℕ, zero, suc, ◌+◌, ◌*◌, ◌^◌, ◌<◌, ◌≤◌, Bool, true, false, ◌&&◌, cond, eqb, leb, ltb, List, ◌∷◌, ◌++◌, length, get_or, set, take, drop, Option, Some, sym, ap, ◌∙◌, subst, inl, inr, arith, add-one, add-mul, one-mul, mul_assoc, None, [], refl}
use Rattle.std.specs.Prelude.{min, max}
use Rattle.std.specs.List.{All}
use Rattle.std.proofs.lemmas.Bool.{cases_eq, cases_lt, lt-ltb, cond-true, cond-false}
use Rattle.std.proofs.lemmas.Bool.Decides.{nat_tests}
use Rattle.std.proofs.lemmas.Nat.{div-mul-add, mod-mul-add}
use Rattle.std.proofs.Math.Nat.{pow-suc}
use Rattle.std.proofs.lemmas.List.{get_or-set_other, get_or-set_same, length-set, same_lists, get_or_default, get_or-take, get_or-drop}
use Rattle.std.proofs.lemmas.List.Elements.{All-append, All-cons}
use Rattle.row_kit.specs.declared.domain.Domain.{Domain}
use Rattle.row_kit.specs.declared.program.Program.{Program}
use Rattle.row_kit.specs.Domain.{domain_at, no_values, normal, shared, up_to, over}
use Rattle.row_kit.specs.Points.{kept_at}
use Rattle.proof_tree.specs.declared.capped.Capped.{Capped}
use Rattle.proof_tree.specs.Cap.{greater}
use Rattle.proof_tree.specs.declared.item.Item.TheVariants.{Node, Split}
use Rattle.proof_tree.specs.Items.{tree_items}
use Rattle.proof_tree.specs.Tree.{tree_cap, cap_if, split}
use Rattle.proof_tree.specs.Views.{View}
use Rattle.row_relax.specs.declared.rows.Rows.{Rows}
use Rattle.row_relax.specs.Choices.{steps_of}
use Rattle.row_relax.specs.RowProofs.{RowItem, RowTree}
use Rattle.row_relax.specs.Steps.{row_steps, shown_if}
use Rattle.row_relax.specs.View.{domains_of, view_of}
use Rattle.row_relax.specs.laws.Shown.{domains_of-view_of}
use Rattle.derivations.specs.Larger.{met}
use Rattle.derivations.proofs.Shares.{length-met}
use Rattle.log_parts.proofs.MetRoots.{kept-met}
use Rattle.plant_parts.specs.PlantParts.{digit, kept_off, kept_on, cut_domain, cut_root}
use Rattle.log_parts.specs.PartLogs.{no_mults, no_tree, tree_over}
use Rattle.plant_parts.proofs.Cutting.{IsOfSlot, AreFirstOfSlots, cut-off, cut-on, cut-rest, length-cut, cut-at}
use Rattle.plant_parts.proofs.Digits.{digit-half, digit-last}

-- ---- the two sides of a split at 0

off-side : (bare : Bool) (lo hi : ℕ) → bare ≡ true → normal (bare && true) (max lo 1) (min hi 0) ≡ kept_off
off-side bare lo hi is =
    let test : leb (max lo 1) (min hi 0) ≡ false = grind (arith, nat_tests) in
    cond-false _ _ _ test ∙ ap (λ (b : Bool). record { zero = b && true; lo = 1; hi = 0 }) is

on-side : (bare : Bool) (lo hi : ℕ) → bare ≡ true → 1 ≤ lo → lo ≤ hi → hi ≤ 255 → normal (bare && false) (max lo 1) (min hi 255) ≡ record { zero = false; lo = lo; hi = hi }
on-side bare lo hi is low some high =
    let first : max lo 1 ≡ lo = omega arith in
    let last : min hi 255 ≡ hi = omega arith in
    let test : leb lo hi ≡ true = grind (arith, nat_tests) in
    ap (λ (n : ℕ). normal (bare && false) n (min hi 255)) first ∙ ap (λ (n : ℕ). normal (bare && false) lo n) last
    ∙ ap (λ (b : Bool). normal (b && false) lo hi) is ∙ cond-true _ _ _ test

shared-off : (own : Domain) → IsOfSlot own → shared own (up_to 0) ≡ kept_off
shared-off own is = off-side own.zero own.lo own.hi is.none

shared-on : (own : Domain) → IsOfSlot own → shared own (over 0) ≡ kept_on own
shared-on own is = on-side own.zero own.lo own.hi is.none is.normal.positive is.some is.normal.byte

-- ---- one more digit

-- another slot's domain stays where a digit is put behind a part's number
cut-same : (levels part bit place : ℕ) (own : Domain) → bit < 2 → place ≢ levels → cut_domain (suc levels) (part * 2 + bit) place own ≡ cut_domain levels part place own
cut-same levels part bit place own small apart =
    elim (cases_lt place levels) [
      | inl l ↦
          let before : place < suc levels = omega (arith, l) in
          let digits : digit (suc levels) (part * 2 + bit) place ≡ digit levels part place = digit-half levels (part * 2 + bit) place l ∙ ap (λ number. digit levels number place) (div-mul-add part 2 bit small) in
          cond-true _ _ _ (lt-ltb place (suc levels) before)
          ∙ ap (λ (n : ℕ). cond (eqb n 0) kept_off (kept_on own)) digits
          ∙ sym (cond-true _ _ _ (lt-ltb place levels l))
      | inr m ↦ cut-rest (suc levels) (part * 2 + bit) place own (omega (arith, m, apart)) ∙ sym (cut-rest levels part place own m)
    ]

digit-put : (levels part bit : ℕ) → bit < 2 → digit (suc levels) (part * 2 + bit) levels ≡ bit
digit-put levels part bit small = digit-last levels (part * 2 + bit) ∙ mod-mul-add part 2 bit small

-- a root with one more slot cut
put-root : (levels part bit : ℕ) (whole : List Domain) (d : Domain) → bit < 2 → levels < length whole → d ≡ cut_domain (suc levels) (part * 2 + bit) levels (domain_at whole levels)
    → set (cut_root levels part whole) levels d ≡ cut_root (suc levels) (part * 2 + bit) whole
put-root levels part bit whole d small low is =
    let long = length-cut levels part whole in
    let more = length-cut (suc levels) (part * 2 + bit) whole in
    same_lists (set (cut_root levels part whole) levels d) (cut_root (suc levels) (part * 2 + bit) whole)
    (length-set (cut_root levels part whole) levels d ∙ long ∙ sym more)
    (λ k e l.
    let within : k < length whole = omega (arith, l, length-set (cut_root levels part whole) levels d, long) in
    elim (cases_eq k levels) [
      | inl here ↦
          let there : levels < length (cut_root levels part whole) = omega (arith, low, long) in
          subst (λ (n : ℕ). get_or (set (cut_root levels part whole) levels d) n e ≡ get_or (cut_root (suc levels) (part * 2 + bit) whole) n e) (sym here)
          (get_or-set_same (cut_root levels part whole) levels d e there ∙ is ∙ sym (cut-at (suc levels) (part * 2 + bit) whole levels e low))
      | inr apart ↦
          get_or-set_other (cut_root levels part whole) levels k d e apart
          ∙ cut-at levels part whole k e within ∙ sym (cut-same levels part bit k (domain_at whole k) small apart)
          ∙ sym (cut-at (suc levels) (part * 2 + bit) whole k e within)
    ])

own-there : (levels part : ℕ) (whole : List Domain) → levels < length whole → domain_at (cut_root levels part whole) levels ≡ domain_at whole levels
own-there levels part whole low = cut-at levels part whole levels no_values low ∙ cut-rest levels part levels (domain_at whole levels) (omega arith)

-- left of the split is the part with a 0 more
left-root : (levels part : ℕ) (whole : List Domain) → IsOfSlot (domain_at whole levels) → levels < length whole → kept_at (cut_root levels part whole) levels (up_to 0) ≡ cut_root (suc levels) (part * 2 + 0) whole
left-root levels part whole is low =
    put-root levels part 0 whole (shared (domain_at (cut_root levels part whole) levels) (up_to 0)) (omega arith) low
    (ap (λ (d : Domain). shared d (up_to 0)) (own-there levels part whole low) ∙ shared-off (domain_at whole levels) is
    ∙ sym (cut-off (suc levels) (part * 2 + 0) levels (domain_at whole levels) (omega arith) (digit-put levels part 0 (omega arith))))

-- right of it is the part with a 1 more
right-root : (levels part : ℕ) (whole : List Domain) → IsOfSlot (domain_at whole levels) → levels < length whole → kept_at (cut_root levels part whole) levels (over 0) ≡ cut_root (suc levels) (part * 2 + 1) whole
right-root levels part whole is low =
    put-root levels part 1 whole (shared (domain_at (cut_root levels part whole) levels) (over 0)) (omega arith) low
    (ap (λ (d : Domain). shared d (over 0)) (own-there levels part whole low) ∙ shared-on (domain_at whole levels) is
    ∙ sym (cut-on (suc levels) (part * 2 + 1) levels (domain_at whole levels) (omega arith) (λ none. let one = digit-put levels part 1 (omega arith) in omega (arith, none, one))))

-- with no digit the root is the plant's
pub no-cut : (whole : List Domain) → cut_root 0 0 whole ≡ whole
no-cut whole =
    let long = length-cut 0 0 whole in
    same_lists (cut_root 0 0 whole) whole long
    (λ k e l.
    let within : k < length whole = omega (arith, l, long) in
    cut-at 0 0 whole k e within ∙ cut-rest 0 0 k (domain_at whole k) (omega arith) ∙ get_or_default whole k no_values e within)

-- ---- the views of the two sides

-- what cuts have left of the slots' domains, as a part has them
abbrev pub left_root : List Domain → List Domain → ℕ → ℕ → List Domain
left_root whole left levels part = met (cut_root levels part whole) left

shows : (there : Bool) (shown ds : List Domain) → there ≡ true → shown ≡ ds → shown_if there shown ≡ Some (view_of ds)
shows true shown ds is same = ap (λ (xs : List Domain). Some (view_of xs)) same
shows false shown ds is same = absurd (cc)

module _ (program : Program) (whole left : List Domain) (same : length left ≡ length whole) where
  long : (levels part : ℕ) → length (left_root whole left levels part) ≡ length whole
  long levels part = length-met (cut_root levels part whole) left (same ∙ sym (length-cut levels part whole)) ∙ length-cut levels part whole

  kept-left : (levels part slot : ℕ) (d : Domain) → slot < length whole → kept_at (left_root whole left levels part) slot d ≡ met (kept_at (cut_root levels part whole) slot d) left
  kept-left levels part slot d low = kept-met (cut_root levels part whole) left slot d (same ∙ sym (length-cut levels part whole)) (omega (arith, low, length-cut levels part whole))

  left-view : (levels part : ℕ) → IsOfSlot (domain_at whole levels) → levels < length whole
      → (row_steps program).left (view_of (left_root whole left levels part)) (record { slot = levels; max = 0; floor = None }) ≡ Some (view_of (left_root whole left (levels + 1) (part * 2 + 0)))
  unfolding row_steps
  left-view levels part is low =
      let ds = left_root whole left levels part in
      let own = domains_of-view_of ds in
      let there : levels < length (domains_of (view_of ds)) = omega (arith, low, long levels part, ap length own) in
      shows (ltb levels (length (domains_of (view_of ds)))) (kept_at (domains_of (view_of ds)) levels (up_to 0)) (left_root whole left (levels + 1) (part * 2 + 0)) (lt-ltb levels _ there)
      (ap (λ (xs : List Domain). kept_at xs levels (up_to 0)) own ∙ kept-left levels part levels (up_to 0) low ∙ ap (λ (xs : List Domain). met xs left) (left-root levels part whole is low)
      ∙ ap (λ (n : ℕ). left_root whole left n (part * 2 + 0)) (sym (add-one levels)))

  right-view : (levels part : ℕ) → IsOfSlot (domain_at whole levels) → levels < length whole
      → (row_steps program).right (view_of (left_root whole left levels part)) (record { slot = levels; max = 0; floor = None }) ≡ Some (view_of (left_root whole left (levels + 1) (part * 2 + 1)))
  unfolding row_steps
  right-view levels part is low =
      let ds = left_root whole left levels part in
      let own = domains_of-view_of ds in
      let there : levels < length (domains_of (view_of ds)) = omega (arith, low, long levels part, ap length own) in
      shows (ltb levels (length (domains_of (view_of ds)))) (kept_at (domains_of (view_of ds)) levels (over 0)) (left_root whole left (levels + 1) (part * 2 + 1)) (lt-ltb levels _ there)
      (ap (λ (xs : List Domain). kept_at xs levels (over 0)) own ∙ kept-left levels part levels (over 0) low ∙ ap (λ (xs : List Domain). met xs left) (right-root levels part whole is low)
      ∙ ap (λ (n : ℕ). left_root whole left n (part * 2 + 1)) (sym (add-one levels)))

-- ---- what holds of the cap

-- the cap of a part's tree over the whole's rows
abbrev pub part_cap : Rows → List Domain → List Domain → ℕ → ℕ → RowTree → Capped
part_cap rows whole left levels part tree = tree_cap (steps_of rows) (view_of (left_root whole left levels part)) tree

-- the numbers of the parts of two halves
first-number : (part half i : ℕ) → (part * 2 + 0) * half + i ≡ part * (half * 2) + i
first-number part half i =
    let one : part * 2 * half ≡ part * (2 * half) = mul_assoc part 2 half in
    let two : part * (2 * half) ≡ part * (half * 2) = ap (λ (n : ℕ). part * n) (let e : 2 * half ≡ half * 2 = omega arith in e) in
    let all : (part * 2 + 0) * half ≡ part * 2 * half = ap (λ (n : ℕ). n * half) (let e : part * 2 + 0 ≡ part * 2 = omega arith in e) in
    omega (arith, one, two, all)

second-number : (part half i : ℕ) → (part * 2 + 1) * half + i ≡ part * (half * 2) + (half + i)
second-number part half i =
    let one : part * 2 * half ≡ part * (2 * half) = mul_assoc part 2 half in
    let two : part * (2 * half) ≡ part * (half * 2) = ap (λ (n : ℕ). part * n) (let e : 2 * half ≡ half * 2 = omega arith in e) in
    let all : (part * 2 + 1) * half ≡ part * 2 * half + 1 * half = add-mul (part * 2) 1 half in
    omega (arith, one, two, all, one-mul half)

-- what holds of each of twice as many holds of those of both halves
pub in-halves : (Q : ℕ → RowTree → Type 0) (part half : ℕ) (trees : List RowTree) → ((i : ℕ) → i < half * 2 → Q (part * (half * 2) + i) (get_or trees i no_tree))
    → ((i : ℕ) → i < half → Q ((part * 2 + 0) * half + i) (get_or (take half trees) i no_tree)) × ((i : ℕ) → i < half → Q ((part * 2 + 1) * half + i) (get_or (drop half trees) i no_tree))
in-halves Q part half trees each = (
  λ i l.
      subst (λ (n : ℕ). Q n (get_or (take half trees) i no_tree)) (sym (first-number part half i))
      (subst (Q (part * (half * 2) + i)) (sym (get_or-take half trees i no_tree l)) (each i (omega (arith, l)))),
  λ i l.
      subst (λ (n : ℕ). Q n (get_or (drop half trees) i no_tree)) (sym (second-number part half i))
      (subst (Q (part * (half * 2) + (half + i))) (sym (get_or-drop half trees i no_tree)) (each (half + i) (omega (arith, l)))),
)

-- what holds of the two sides holds of a split
split-cap : (Q : Capped → Type 0) → ((a b : Capped) → Q a → Q b → Q (greater a b)) → (first second : Option View) (a b : View) (f g : View → Capped) → first ≡ Some a → second ≡ Some b → Q (f a) → Q (g b) → Q (greater (cap_if first f) (cap_if second g))
split-cap Q closed first second a b f g is also one other =
    subst (λ (next : Option View). Q (greater (cap_if next f) (cap_if second g))) (sym is)
    (subst (λ (next : Option View). Q (greater (f a) (cap_if next g))) (sym also) (closed (f a) (g b) one other))

-- the cap of a split without a floor is the greater of those of its parts
no-floor : (rows : Rows) (v : View) (slot : ℕ) (a b : RowTree) → tree_cap (steps_of rows) v (split [] None (record { slot = slot; max = 0; floor = None }) no_mults a b)
    ≡ greater (cap_if ((row_steps rows.program).left v (record { slot = slot; max = 0; floor = None })) (λ x. tree_cap (steps_of rows) x a)) (cap_if ((row_steps rows.program).right v (record { slot = slot; max = 0; floor = None })) (λ x. tree_cap (steps_of rows) x b))
unfolding row_steps
no-floor rows v slot a b = refl

-- what holds of the cap of each part's tree, and of the greater of two caps of which it holds, holds of the cap of the tree of splits
pub over-cap : (Q : Capped → Type 0) → ((a b : Capped) → Q a → Q b → Q (greater a b)) → (rows : Rows) (whole left : List Domain) → length left ≡ length whole → (total : ℕ) → AreFirstOfSlots total whole → (levels slot part : ℕ) (trees : List RowTree)
    → slot + levels ≡ total → total ≤ length whole
    → ((i : ℕ) → i < 2 ^ levels → Q (part_cap rows whole left total (part * 2 ^ levels + i) (get_or trees i no_tree)))
    → Q (tree_cap (steps_of rows) (view_of (left_root whole left slot part)) (tree_over slot levels trees))
over-cap Q closed rows whole left long total are zero slot part trees sum within each =
    let same : total ≡ slot = omega (arith, sum) in
    let number : part * 1 + 0 ≡ part = omega arith in
    subst (λ (n : ℕ). Q (part_cap rows whole left n part (get_or trees 0 no_tree))) same
    (subst (λ (n : ℕ). Q (part_cap rows whole left total n (get_or trees 0 no_tree))) number (each 0 (omega arith)))
over-cap Q closed rows whole left long total are (suc levels) slot part trees sum within each =
    let half = 2 ^ levels in
    let low : slot < length whole = omega (arith, sum, within) in
    let further : (slot + 1) + levels ≡ total = omega (arith, sum) in
    let each_half = subst (λ (n : ℕ). (i : ℕ) → i < n → Q (part_cap rows whole left total (part * n + i) (get_or trees i no_tree))) (pow-suc 2 levels) each in
    let halves = in-halves (λ (number : ℕ) (tree : RowTree). Q (part_cap rows whole left total number tree)) part half trees each_half in
    subst Q (sym (no-floor rows (view_of (left_root whole left slot part)) slot (tree_over (slot + 1) levels (take half trees)) (tree_over (slot + 1) levels (drop half trees))))
    (split-cap Q closed
    ((row_steps rows.program).left (view_of (left_root whole left slot part)) (record { slot = slot; max = 0; floor = None })) ((row_steps rows.program).right (view_of (left_root whole left slot part)) (record { slot = slot; max = 0; floor = None }))
    (view_of (left_root whole left (slot + 1) (part * 2 + 0))) (view_of (left_root whole left (slot + 1) (part * 2 + 1)))
    (λ x. tree_cap (steps_of rows) x (tree_over (slot + 1) levels (take half trees))) (λ x. tree_cap (steps_of rows) x (tree_over (slot + 1) levels (drop half trees)))
    (left-view rows.program whole left long slot part (are slot (omega (arith, sum))) low) (right-view rows.program whole left long slot part (are slot (omega (arith, sum))) low)
    (over-cap Q closed rows whole left long total are levels (slot + 1) (part * 2 + 0) (take half trees) further within halves.0)
    (over-cap Q closed rows whole left long total are levels (slot + 1) (part * 2 + 1) (drop half trees) further within halves.1))

-- ---- what holds of the items

-- what holds of a node, of each split and of the items of each part's tree holds of those of the tree of splits
pub over-items : (P : RowItem → Type 0) (total levels slot : ℕ) (trees : List RowTree) → P Node → ((k : ℕ) → k < total → P (Split (record { slot = k; max = 0; floor = None }) no_mults)) → slot + levels ≡ total
    → ((i : ℕ) → i < 2 ^ levels → All P (tree_items (get_or trees i no_tree))) → All P (tree_items (tree_over slot levels trees))
over-items P total zero slot trees node splits sum each = each 0 (omega arith)
over-items P total (suc levels) slot trees node splits sum each =
    let half = 2 ^ levels in
    let a = tree_over (slot + 1) levels (take half trees) in
    let b = tree_over (slot + 1) levels (drop half trees) in
    let further : (slot + 1) + levels ≡ total = omega (arith, sum) in
    let each_half = subst (λ (n : ℕ). (i : ℕ) → i < n → All P (tree_items (get_or trees i no_tree))) (pow-suc 2 levels) each in
    let halves = in-halves (λ (number : ℕ) (tree : RowTree). All P (tree_items tree)) 0 half trees each_half in
    All-cons P Node (Split (record { slot = slot; max = 0; floor = None }) no_mults ∷ (tree_items a ++ tree_items b)) node
    (All-cons P (Split (record { slot = slot; max = 0; floor = None }) no_mults) (tree_items a ++ tree_items b) (splits slot (omega (arith, sum)))
    (All-append P (tree_items a) (tree_items b)
    (over-items P total levels (slot + 1) (take half trees) node splits further halves.0)
    (over-items P total levels (slot + 1) (drop half trees) node splits further halves.1)))
