-- What setups keep, unit by unit.
use Rattle.std.proofs.Common.{◌≡◌, ℕ, suc, ◌+◌, ◌<◌, ◌≤◌, ◌^◌, Bool, true, false, cond, ltb, List, [], ◌∷◌, ◌++◌, All, length, Option, Some, None, subst, sym, ap, ◌∙◌, get_or, refl, arith}
use Rattle.std.specs.Prelude.{⊤, zero, nat_le, nat_lt, ◌&&◌, if◌then◌else◌}
use Rattle.std.specs.List.Sorted.{IsStrictlyIncreasing}
use Rattle.std.proofs.lemmas.Bool.Decides.{nat_tests}
use Rattle.std.proofs.lemmas.List.Elements.{All-cons, All-head, All-nil, All-tail}
use Rattle.log_lines.specs.declared.grammar.Limits.{Limits}
use Rattle.log_lines.specs.Grammar.{follows}
use Rattle.sum_lines.specs.Line.{IsShort}
use Rattle.setup_lines.specs.declared.setups.SetupSize.{SetupSize}
use Rattle.setup_lines.specs.Front.{setup_defect}
use Rattle.setup_lines.specs.Setups.{AreSetupsKept, MaySetUp, has_setup_room, last_unit, limits_set_up, size_of, with_setup}
use Rattle.setup_lines.specs.laws.Walk.{IsSetupKept}

-- the setups of units after another keep the limits: each one keeps those with the setups before it
abbrev pub AreKeptAfter : Limits → List SetupSize → Option ℕ → List ℕ → Type 0
AreKeptAfter limits sizes above [] = ⊤
AreKeptAfter limits sizes above (unit ∷ units) = IsSetupKept limits sizes above unit × AreKeptAfter (with_setup limits (size_of sizes unit)) sizes (Some unit) units

-- ---- one unit more

-- the limits with one setup more
pub set_up-more : (limits : Limits) (sizes : List SetupSize) (units : List ℕ) (unit : ℕ) → limits_set_up limits sizes (units ++ unit ∷ []) ≡ with_setup (limits_set_up limits sizes units) (size_of sizes unit)
set_up-more limits sizes [] unit = refl
set_up-more limits sizes (first ∷ units) unit = set_up-more (with_setup limits (size_of sizes first)) sizes units unit

-- the last of units and one more
pub last-more : (above : Option ℕ) (units : List ℕ) (unit : ℕ) → last_unit above (units ++ unit ∷ []) ≡ Some unit
last-more above [] unit = refl
last-more above (first ∷ units) unit = last-more (Some first) units unit

-- units and one more that keep the limits
pub kept-more : (limits : Limits) (sizes : List SetupSize) (above : Option ℕ) (units : List ℕ) (unit : ℕ) → AreKeptAfter limits sizes above units → IsSetupKept (limits_set_up limits sizes units) sizes (last_unit above units) unit
    → AreKeptAfter limits sizes above (units ++ unit ∷ [])
kept-more limits sizes above [] unit kept is = (is, tt)
kept-more limits sizes above (first ∷ units) unit kept is = (kept.0, kept-more (with_setup limits (size_of sizes first)) sizes (Some first) units unit kept.1 is)

-- ---- all of them

-- a unit without a defect is there, and there is room for its setup
pub sound : (limits : Limits) (sizes : List SetupSize) (unit : ℕ) → setup_defect limits sizes unit ≡ None → (unit < length sizes) × (has_setup_room (with_setup limits (size_of sizes unit)) ≡ true)
sound limits sizes unit none = at (nat_lt unit (length sizes)) (has_setup_room (with_setup limits (size_of sizes unit))) refl refl none
  where
    at : (there room : Bool) → nat_lt unit (length sizes) ≡ there → has_setup_room (with_setup limits (size_of sizes unit)) ≡ room → ◌≡◌ {A = Option ℕ} (if there then (if room then None else Some 21) else Some 24) None
        → (unit < length sizes) × (has_setup_room (with_setup limits (size_of sizes unit)) ≡ true)
    at true true there room none = (grind (arith, nat_tests), room)
    at true false there room none = absurd cc
    at false room there is none = absurd cc

-- a unit that is there, and for whose setup there is room, has no defect
pub no_defect : (limits : Limits) (sizes : List SetupSize) (unit : ℕ) → unit < length sizes → has_setup_room (with_setup limits (size_of sizes unit)) ≡ true → setup_defect limits sizes unit ≡ None
no_defect limits sizes unit within room =
    let there : nat_lt unit (length sizes) ≡ true = grind (arith, nat_tests) in
    rw (there, room) refl

-- a unit before others that ascend
rises : (a b : ℕ) (units : List ℕ) → a < b → IsStrictlyIncreasing (b ∷ units) → IsStrictlyIncreasing (a ∷ b ∷ units)
rises a b units low ascend zero within = low
rises a b units low ascend (suc k) within = let next : suc k + 1 ≡ suc (k + 1) = omega arith in rw next (ascend k (omega arith))

-- what follows a unit is above it
above_last : (last unit : ℕ) → follows (Some last) unit ≡ true → last < unit
above_last last unit is = grind (arith, nat_tests)

-- units that keep the limits have at most 30 digits
pub units_short : (limits : Limits) (sizes : List SetupSize) (above : Option ℕ) (units : List ℕ) → AreKeptAfter limits sizes above units → All IsShort units
units_short limits sizes above [] kept = All-nil IsShort
units_short limits sizes above (a ∷ units) kept = All-cons IsShort a units kept.0.0.0 (units_short (with_setup limits (size_of sizes a)) sizes (Some a) units kept.1)

-- units that keep the limits ascend
pub units_ascend : (limits : Limits) (sizes : List SetupSize) (above : Option ℕ) (units : List ℕ) → AreKeptAfter limits sizes above units → IsStrictlyIncreasing units
units_ascend limits sizes above [] kept = λ k within. absurd (omega arith)
units_ascend limits sizes above (a ∷ []) kept = λ k within. absurd (omega arith)
units_ascend limits sizes above (a ∷ b ∷ units) kept =
    rises a b units (above_last a b kept.1.0.0.1) (units_ascend (with_setup limits (size_of sizes a)) sizes (Some a) (b ∷ units) kept.1)

-- units that keep the limits are there
pub units_there : (limits : Limits) (sizes : List SetupSize) (above : Option ℕ) (units : List ℕ) → AreKeptAfter limits sizes above units → All (λ unit. unit < length sizes) units
units_there limits sizes above [] kept = All-nil (λ unit. unit < length sizes)
units_there limits sizes above (a ∷ units) kept =
    All-cons (λ unit. unit < length sizes) a units (sound limits sizes a kept.0.1).0 (units_there (with_setup limits (size_of sizes a)) sizes (Some a) units kept.1)

-- there is room for all of the setups of units that keep the limits
pub units_room : (limits : Limits) (sizes : List SetupSize) (above : Option ℕ) (units : List ℕ) → AreKeptAfter limits sizes above units → 0 < length units → has_setup_room (limits_set_up limits sizes units) ≡ true
units_room limits sizes above [] kept some = absurd (omega arith)
units_room limits sizes above (a ∷ []) kept some = (sound limits sizes a kept.0.1).1
units_room limits sizes above (a ∷ b ∷ units) kept some = units_room (with_setup limits (size_of sizes a)) sizes (Some a) (b ∷ units) kept.1 (omega arith)

-- units that keep the limits one by one keep them
pub all_kept : (limits : Limits) (sizes : List SetupSize) (units : List ℕ) → AreKeptAfter limits sizes None units → AreSetupsKept limits sizes units
all_kept limits sizes units kept = record {
  short = units_short limits sizes None units kept;
  ascending = units_ascend limits sizes None units kept;
  there = units_there limits sizes None units kept;
  room = units_room limits sizes None units kept;
}

-- ---- and back

-- setups only add slots and rows
pub more_slots : (limits : Limits) (sizes : List SetupSize) (units : List ℕ) → (limits.slots ≤ (limits_set_up limits sizes units).slots) × (limits.rows ≤ (limits_set_up limits sizes units).rows)
more_slots limits sizes [] = (omega arith, omega arith)
more_slots limits sizes (a ∷ units) =
    let later = more_slots (with_setup limits (size_of sizes a)) sizes units in
    (omega (arith, later.0), omega (arith, later.1))

-- what a program has for which there is room
in_room : (l : Limits) → has_setup_room l ≡ true → (l.slots ≤ 4096) × (l.rows ≤ 400000)
in_room l is = (grind (arith, nat_tests), grind (arith, nat_tests))

both_pass : (a b c d : ℕ) → a ≤ b → c ≤ d → nat_le a b && nat_le c d ≡ true
both_pass a b c d one other = grind (arith, nat_tests)

-- there is room for a program that has no more
room_of : (l : Limits) → l.slots ≤ 4096 → l.rows ≤ 400000 → has_setup_room l ≡ true
room_of l slots rows = both_pass l.slots 4096 l.rows 400000 slots rows

-- there is room for the first setups where there is for all
less_room : (limits : Limits) (sizes : List SetupSize) (units : List ℕ) → has_setup_room (limits_set_up limits sizes units) ≡ true → has_setup_room limits ≡ true
less_room limits sizes units is =
    let more = more_slots limits sizes units in
    let all = in_room (limits_set_up limits sizes units) is in
    room_of limits (omega (arith, more.0, all.0)) (omega (arith, more.1, all.1))

-- the others of units that ascend
others_ascend : (a : ℕ) (units : List ℕ) → IsStrictlyIncreasing (a ∷ units) → IsStrictlyIncreasing units
others_ascend a units ascend = λ k within.
    let next : suc k + 1 ≡ suc (k + 1) = omega arith in
    subst (λ m. get_or units k 0 < get_or (a ∷ units) m 0) next (ascend (suc k) (omega (arith, within)))

-- the first unit may follow another
abbrev pub MayFirst : Option ℕ → List ℕ → Type 0
MayFirst above [] = ⊤
MayFirst above (a ∷ units) = follows above a ≡ true

-- the second of units that ascend follows the first
second_follows : (a : ℕ) (units : List ℕ) → IsStrictlyIncreasing (a ∷ units) → MayFirst (Some a) units
second_follows a [] ascend = tt
second_follows a (b ∷ units) ascend = let low : a < b = ascend 0 (omega arith) in grind (arith, nat_tests)

-- units that keep the limits keep them one by one
pub kept_each : (limits : Limits) (sizes : List SetupSize) (above : Option ℕ) (units : List ℕ) → MayFirst above units → AreSetupsKept limits sizes units → AreKeptAfter limits sizes above units
kept_each limits sizes above [] first kept = tt
kept_each limits sizes above (a ∷ units) first kept =
    let later = with_setup limits (size_of sizes a) in
    let within : a < length sizes = All-head (λ unit. unit < length sizes) a units kept.there in
    let room = kept.room (omega arith) in (
      ((All-head IsShort a units kept.short, first), no_defect limits sizes a within (less_room later sizes units room)),
      kept_each later sizes (Some a) units (second_follows a units kept.ascending)
          (record { short = All-tail IsShort a units kept.short; ascending = others_ascend a units kept.ascending; there = All-tail (λ unit. unit < length sizes) a units kept.there; room = λ some. room }),
    )

-- a program with setups has few slots and rows where the one without them has
pub units_few : (limits : Limits) (sizes : List SetupSize) (units : List ℕ) → limits.slots ≤ 4096 → limits.rows ≤ 400000 → AreSetupsKept limits sizes units → ((limits_set_up limits sizes units).slots ≤ 4096) × ((limits_set_up limits sizes units).rows ≤ 400000)
units_few limits sizes [] slots rows kept = (slots, rows)
units_few limits sizes (a ∷ units) slots rows kept = in_room (limits_set_up limits sizes (a ∷ units)) (kept.room (omega arith))
