-- What the setups of units add: to the limits of logs, to domains, and to how often slots can be split.
use Rattle.std.proofs.Common.{◌≡◌, ℕ, zero, suc, ◌+◌, ◌-◌, ◌*◌, ◌<◌, ◌≤◌, leb, Bool, true, false, ◌&&◌, cond, min, max, List, [], ◌∷◌, ◌++◌, length, drop, get_or, map, refl, sym, ap, ◌∙◌, subst, append_assoc, arith}
use Rattle.std.specs.List.{All, sum_by}
use Rattle.std.proofs.lemmas.List.{append-nil, at_drop_more, drop_all}
use Rattle.std.proofs.lemmas.List.FromFn.{get_or-map-range_with_len, length-map-range_with_len}
use Rattle.std.proofs.lemmas.List.Elements.{All-append, All-cons, All-head, All-nil, All-tail}
use Rattle.std.proofs.lemmas.List.Sums.{sum_by-cons}
use Rattle.stn_model.specs.declared.plant.Plant.{Plant}
use Rattle.row_kit.specs.declared.domain.Domain.{Domain}
use Rattle.row_kit.specs.declared.program.Program.{Program}
use Rattle.row_kit.specs.Domain.{normal, shared}
use Rattle.branch_tree.specs.Searched.{spared}
use Rattle.branch_tree.specs.Splits.{halvings, splits_of}
use Rattle.branch_tree.proofs.Depths.{spared_sum}
use Rattle.log_lines.specs.declared.grammar.Limits.{Limits}
use Rattle.derivations.specs.Larger.{met}
use Rattle.setup_slots.specs.Larger.{setup_domain}
use Rattle.setup_slots.specs.Rows.{setup_rows}
use Rattle.setup_slots.specs.Several.{AreSetUp, HaveRoom, domains_with, rows_with, slots_with}
use Rattle.setup_slots.specs.declared.setup.SetupSlot.{SetupSlot}
use Rattle.setup_slots.specs.Slots.{setup_slots}
use Rattle.setup_slots.proofs.ManyUnits.{roots-several}
use Rattle.setup_lines.specs.declared.setups.SetupSize.{SetupSize}
use Rattle.setup_lines.specs.Setups.{limits_set_up, size_of, with_setup}
use Rattle.valid_log.specs.Heads.{setup_size, setup_sizes}
use Rattle.head_choice.specs.Heading.{HasUnitRoom}

-- ---- the limits

-- what the setup of a unit adds to the limits
size-there : (plant : Plant) (unit : ℕ) → unit < length (setup_sizes plant) → size_of (setup_sizes plant) unit ≡ setup_size plant unit
size-there plant unit there =
    get_or-map-range_with_len (setup_size plant) 0 (length plant.units) unit unit (record { slots = 0; rows = 0 }) (omega (arith, there, length-map-range_with_len (setup_size plant) 0 (length plant.units))) (omega arith)

-- so setups add to limits what they add to a program
pub limits-slots : (plant : Plant) (limits : Limits) (units : List ℕ) → All (λ unit. unit < length (setup_sizes plant)) units → (limits_set_up limits (setup_sizes plant) units).slots ≡ slots_with plant units limits.slots
limits-slots plant limits [] there = refl
limits-slots plant limits (unit ∷ units) there =
    limits-slots plant (with_setup limits (size_of (setup_sizes plant) unit)) units (All-tail (λ u. u < length (setup_sizes plant)) unit units there)
    ∙ ap (λ (s : SetupSize). slots_with plant units (limits.slots + s.slots)) (size-there plant unit (All-head (λ u. u < length (setup_sizes plant)) unit units there))

pub limits-rows : (plant : Plant) (limits : Limits) (units : List ℕ) → All (λ unit. unit < length (setup_sizes plant)) units → (limits_set_up limits (setup_sizes plant) units).rows ≡ rows_with plant units limits.rows
limits-rows plant limits [] there = refl
limits-rows plant limits (unit ∷ units) there =
    limits-rows plant (with_setup limits (size_of (setup_sizes plant) unit)) units (All-tail (λ u. u < length (setup_sizes plant)) unit units there)
    ∙ ap (λ (s : SetupSize). rows_with plant units (limits.rows + s.rows)) (size-there plant unit (All-head (λ u. u < length (setup_sizes plant)) unit units there))

-- a plant has a size for each unit
pub sizes-long : (plant : Plant) → length (setup_sizes plant) ≡ length plant.units
sizes-long plant = length-map-range_with_len (setup_size plant) 0 (length plant.units)

-- ---- one unit after another

-- the slots with the units that are left, one unit on
pub slots-on : (plant : Plant) (units : List ℕ) (i count more : ℕ) → i < length units → more ≡ length (setup_slots plant (get_or units i 0)) → slots_with plant (drop i units) count ≡ slots_with plant (drop (i + 1) units) (count + more)
slots-on plant units i count more lt is =
    ap (λ (us : List ℕ). slots_with plant us count) (at_drop_more (λ us. us) units i 0 lt) ∙ ap (λ (n : ℕ). slots_with plant (drop (i + 1) units) (count + n)) (sym is)

-- the same of rows
pub rows-on : (plant : Plant) (units : List ℕ) (i count more : ℕ) → i < length units → more ≡ length (setup_rows plant (get_or units i 0)) → rows_with plant (drop i units) count ≡ rows_with plant (drop (i + 1) units) (count + more)
rows-on plant units i count more lt is =
    ap (λ (us : List ℕ). rows_with plant us count) (at_drop_more (λ us. us) units i 0 lt) ∙ ap (λ (n : ℕ). rows_with plant (drop (i + 1) units) (count + n)) (sym is)

-- none are left in the end
pub slots-end : (plant : Plant) (units : List ℕ) (i count : ℕ) → length units ≤ i → slots_with plant (drop i units) count ≡ count
slots-end plant units i count past = ap (λ (us : List ℕ). slots_with plant us count) (drop_all i units past)

pub rows-end : (plant : Plant) (units : List ℕ) (i count : ℕ) → length units ≤ i → rows_with plant (drop i units) count ≡ count
rows-end plant units i count past = ap (λ (us : List ℕ). rows_with plant us count) (drop_all i units past)

-- where a head may declare setups a program has room for them
pub room-enough : (plant : Plant) (program : Program) (units : List ℕ) → (0 < length units → HasUnitRoom plant program units) → HaveRoom plant units program
room-enough plant program [] room = record { slots = program.few_slots; rows = program.few_rows }
room-enough plant program (unit ∷ units) room =
    let has = room (omega arith) in
    let slots = has.slots in
    let rows = has.rows in
    record { slots = omega (arith, slots); rows = omega (arith, rows) }

-- ---- domains

-- the domains of a setup
abbrev own_domains : Plant → ℕ → List Domain
own_domains plant unit = map (λ slot. setup_domain) (setup_slots plant unit)

-- domains with those of setups are the domains, and behind them those alone
pub domains-more : (plant : Plant) (units : List ℕ) (ds : List Domain) → domains_with plant units ds ≡ ds ++ domains_with plant units []
domains-more plant [] ds = sym (append-nil ds)
domains-more plant (unit ∷ units) ds =
    let own = own_domains plant unit in
    domains-more plant units (ds ++ own) ∙ append_assoc ds own (domains_with plant units []) ∙ ap (λ (xs : List Domain). ds ++ xs) (sym (domains-more plant units own))

-- so the root of a program with setups is the root without them, and those behind it
pub root-more : (plant : Plant) (units : List ℕ) (program wide : Program) → AreSetUp plant units program wide → wide.root ≡ program.root ++ domains_with plant units []
root-more plant units program wide is = roots-several plant units program wide is ∙ domains-more plant units program.root

-- each domain of a setup holds 0 and 1
abbrev IsSetup : Domain → Type 0
IsSetup domain = domain ≡ setup_domain

all_own : (slots : List SetupSlot) → All IsSetup (map (λ slot. setup_domain) slots)
all_own [] = All-nil IsSetup
all_own (slot ∷ slots) = All-cons IsSetup setup_domain (map (λ slot. setup_domain) slots) refl (all_own slots)

pub setups-all : (plant : Plant) (units : List ℕ) → All IsSetup (domains_with plant units [])
setups-all plant [] = All-nil IsSetup
setups-all plant (unit ∷ units) =
    let own = own_domains plant unit in
    subst (All IsSetup) (sym (domains-more plant units own)) (All-append IsSetup own (domains_with plant units []) (all_own (setup_slots plant unit)) (setups-all plant units))

-- ---- splits

-- how often a domain can be split, with what it is spared
splits_by : (d : Domain) → splits_of d + spared d ≡ 1 + halvings (d.hi + 1 - d.lo)
splits_by d = at (d.zero && leb d.lo d.hi)
  where
    at : (both : Bool) → (cond both 1 0 + halvings (d.hi + 1 - d.lo)) + cond both 0 1 ≡ 1 + halvings (d.hi + 1 - d.lo)
    at true = omega arith
    at false = omega arith

-- what at most one value is left to besides 0 is split once
one_value : (holds : Bool) (lo hi : ℕ) → 1 ≤ lo → hi ≤ 1 → splits_of (normal holds lo hi) + spared (normal holds lo hi) ≤ 1
one_value holds lo hi low high = by_test (leb lo hi)
  where
    few : (n : ℕ) → n ≤ 1 → halvings n ≤ 0
    few zero less = omega arith
    few (suc zero) less = omega arith
    few (suc (suc n)) less = absurd (omega (arith, less))

    by_test : (test : Bool) → splits_of (cond test (record { zero = holds; lo = lo; hi = hi }) (record { zero = holds; lo = 1; hi = 0 })) + spared (cond test (record { zero = holds; lo = lo; hi = hi }) (record { zero = holds; lo = 1; hi = 0 })) ≤ 1
    by_test true = omega (arith, splits_by (record { zero = holds; lo = lo; hi = hi }), few (hi + 1 - lo) (omega (arith, low, high)))
    by_test false = omega (arith, splits_by (record { zero = holds; lo = 1; hi = 0 }), few 0 (omega arith))

setup_once : (d e : Domain) → d ≡ setup_domain → splits_of (shared d e) + spared (shared d e) ≤ 1
setup_once d e is =
    subst (λ (x : Domain). splits_of (shared x e) + spared (shared x e) ≤ 1) (sym is) (one_value (true && e.zero) (max 1 e.lo) (min 1 e.hi) (omega arith) (omega arith))

met_setups : (own left : List Domain) → All IsSetup own → sum_by splits_of (met own left) + sum_by spared (met own left) ≤ length own
met_setups [] left all = omega arith
met_setups (d ∷ own) [] all = omega arith
met_setups (d ∷ own) (e ∷ left) all =
    omega (
      arith,
      sum_by-cons splits_of (shared d e) (met own left),
      sum_by-cons spared (shared d e) (met own left),
      setup_once d e (All-head IsSetup d own all),
      met_setups own left (All-tail IsSetup d own all),
    )

-- what is left of other slots is split 9 times at most, and of those of setups once
pub splits-met : (root own left : List Domain) → All IsSetup own → sum_by splits_of (met (root ++ own) left) + sum_by spared (met (root ++ own) left) ≤ 9 * length root + length own
splits-met [] own left all = let rest = met_setups own left all in omega (arith, rest)
splits-met (d ∷ root) own [] all = omega arith
splits-met (d ∷ root) own (e ∷ left) all =
    let one = shared d e in
    let most = spared_sum (one ∷ []) in
    omega (
      arith,
      most,
      sum_by-cons splits_of one [],
      sum_by-cons spared one [],
      sum_by-cons splits_of one (met (root ++ own) left),
      sum_by-cons spared one (met (root ++ own) left),
      splits-met root own left all,
    )
