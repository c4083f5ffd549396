-- Which heads can be taken.
use Rattle.std.proofs.Common.{◌≡◌, ℕ, ◌+◌, ◌-◌, ◌*◌, ◌<◌, ◌≤◌, Bool, true, false, List, [], ◌∷◌, length, drop, get_or, Ok, Err, refl, ap, add-one, ◌∙◌, subst, sym, inl, inr, arith}
use Rattle.std.specs.Prelude.{◌↔◌, ◌==◌, IfOk, IsTrue, Result}
use Rattle.std.specs.List.{All}
use Rattle.std.specs.List.Sorted.{IsStrictlyIncreasing}
use Rattle.std.proofs.Math.Seq.{drop-cons}
use Rattle.std.proofs.lemmas.Bool.{cases_lt, false≢true, ne_eqb}
use Rattle.std.proofs.lemmas.List.{drop_all}
use Rattle.stn_model.specs.declared.plant.Plant.{Plant}
use Rattle.row_kit.specs.declared.domain.Domain.{Domain}
use Rattle.row_kit.specs.declared.program.Program.{Program}
use Rattle.setup_slots.specs.Rows.{setup_rows}
use Rattle.setup_slots.specs.Several.{rows_with, slots_with}
use Rattle.setup_slots.specs.Slots.{setup_slots}
use Rattle.derivations.specs.Growth.{rows_of}
use Rattle.what_if.specs.declared.old.LogHead.{LogHead}
use Rattle.what_if.specs.Estimate.{AreTaken, HasHeadRoom, IsSumOf}

-- ---- heads

-- a head that cannot be taken
pub not-taken : (plant : Plant) (program : Program) (ranges : List Domain) (head : LogHead) → (¬ AreTaken plant program ranges head) → IsTrue false ↔ AreTaken plant program ranges head
not-taken plant program ranges head never = ((λ wrong. absurd (false≢true wrong)), (λ taken. absurd (never taken)))

-- a head whose sums and units suit can be taken where there is room
pub taken-if : {E : Type 0} (plant : Plant) (program : Program) (ranges : List Domain) (head : LogHead) (r : Result Bool E) → All (IsSumOf program ranges) head.sums → IsStrictlyIncreasing head.units → (head.capped ≡ false → head.units ≡ [])
    → IfOk r (λ room. IsTrue room ↔ HasHeadRoom plant program head) → IfOk r (λ taken. IsTrue taken ↔ AreTaken plant program ranges head)
taken-if plant program ranges head (Ok room) each ascending below is =
    ((λ yes. record { each = each; ascending = ascending; below = below; room = is.0 yes }), (λ taken. is.1 taken.room))
taken-if plant program ranges head (Err e) each ascending below is = tt

-- ---- units

-- numbers that are none ascend
pub none-ascend : (capped : Bool) (units : List ℕ) (none : Bool) → capped ≡ false → none ≡ (length units == 0) → IsTrue none ↔ (IsStrictlyIncreasing units × (capped ≡ false → units ≡ []))
none-ascend capped [] none below is = ((λ yes. ((λ k lt. absurd (omega (arith, lt))), (λ same. refl))), (λ has. is))
none-ascend capped (unit ∷ units) none below is =
    let some : none ≡ false = is ∙ ne_eqb (length (unit ∷ units)) 0 (λ e. omega (arith, e)) in
    ((λ yes. absurd (false≢true (sym some ∙ yes))), (λ has. absurd (let e = ap length (has.1 below) in omega (arith, e))))

-- one number more ascends
pub ascends-more : (units : List ℕ) (i : ℕ) → ((k : ℕ) → k + 1 < i → get_or units k 0 < get_or units (k + 1) 0) → get_or units (i - 1) 0 < get_or units i 0 → (k : ℕ) → k + 1 < i + 1 → get_or units k 0 < get_or units (k + 1) 0
ascends-more units i before here k h = elim (cases_lt (k + 1) i) [
  | inl low ↦ before k low
  | inr high ↦
      let at_k : k ≡ i - 1 = omega (arith, h, high) in
      let at_next : k + 1 ≡ i = omega (arith, h, high) in
      omega (arith, here, ap (λ (n : ℕ). get_or units n 0) at_k, ap (λ (n : ℕ). get_or units n 0) at_next)
]

-- or does not
pub descends-at : (units : List ℕ) (i : ℕ) → 1 ≤ i → i < length units → get_or units i 0 ≤ get_or units (i - 1) 0 → IsStrictlyIncreasing units → ⊥
descends-at units i low lt here ascends =
    let next : i - 1 + 1 ≡ i = omega (arith, low) in
    let up = ascends (i - 1) (omega (arith, low, lt)) in
    omega (arith, here, up, ap (λ (n : ℕ). get_or units n 0) next)

-- ---- room

-- one unit more of those that are left
drop-next : (units : List ℕ) (i : ℕ) → i < length units → drop i units ≡ get_or units i 0 ∷ drop (i + 1) units
drop-next units i lt = drop-cons units i 0 lt ∙ ap (λ (n : ℕ). get_or units i 0 ∷ drop n units) (sym (add-one i))

-- the setup of one unit more is counted
pub slots-counted : (plant : Plant) (units : List ℕ) (i count more whole : ℕ) → i < length units → more ≡ length (setup_slots plant (get_or units i 0)) → slots_with plant (drop i units) count ≡ whole → slots_with plant (drop (i + 1) units) (count + more) ≡ whole
slots-counted plant units i count more whole lt is so_far =
    ap (λ (n : ℕ). slots_with plant (drop (i + 1) units) (count + n)) is ∙ ap (λ (us : List ℕ). slots_with plant us count) (sym (drop-next units i lt)) ∙ so_far

pub rows-counted : (plant : Plant) (units : List ℕ) (i count more whole : ℕ) → i < length units → more ≡ length (setup_rows plant (get_or units i 0)) → rows_with plant (drop i units) count ≡ whole → rows_with plant (drop (i + 1) units) (count + more) ≡ whole
rows-counted plant units i count more whole lt is so_far =
    ap (λ (n : ℕ). rows_with plant (drop (i + 1) units) (count + n)) is ∙ ap (λ (us : List ℕ). rows_with plant us count) (sym (drop-next units i lt)) ∙ so_far

-- and so all are
pub slots-all : (plant : Plant) (units : List ℕ) (i count whole : ℕ) → length units ≤ i → slots_with plant (drop i units) count ≡ whole → count ≡ whole
slots-all plant units i count whole end so_far = ap (λ (us : List ℕ). slots_with plant us count) (sym (drop_all i units end)) ∙ so_far

pub rows-all : (plant : Plant) (units : List ℕ) (i count whole : ℕ) → length units ≤ i → rows_with plant (drop i units) count ≡ whole → count ≡ whole
rows-all plant units i count whole end so_far = ap (λ (us : List ℕ). rows_with plant us count) (sym (drop_all i units end)) ∙ so_far

-- room by what is counted is room for a head
pub room-if : {E : Type 0} (plant : Plant) (program : Program) (head : LogHead) (units : List ℕ) (slots rows : ℕ) (r : Result Bool E) → IfOk r (λ room. IsTrue room ↔ ((slots_with plant units slots ≤ 4096) × (rows_with plant units rows ≤ 400000)))
    → units ≡ head.units → slots ≡ length program.root + length head.sums → rows ≡ length program.rows + (2 * length head.sums + rows_of head.derivations) → IfOk r (λ room. IsTrue room ↔ HasHeadRoom plant program head)
room-if plant program head units slots rows (Ok room) is same all_slots all_rows =
    let one = subst (λ (us : List ℕ). IsTrue room ↔ ((slots_with plant us slots ≤ 4096) × (rows_with plant us rows ≤ 400000))) same is in
    let two = subst (λ (n : ℕ). IsTrue room ↔ ((slots_with plant head.units n ≤ 4096) × (rows_with plant head.units rows ≤ 400000))) all_slots one in
    let own = subst (λ (n : ℕ). IsTrue room ↔ ((slots_with plant head.units (length program.root + length head.sums) ≤ 4096) × (rows_with plant head.units n ≤ 400000))) all_rows two in
    ((λ yes. let both = own.0 yes in record { slots = both.0; rows = both.1 }), (λ has. own.1 (has.slots, has.rows)))
room-if plant program head units slots rows (Err e) is same all_slots all_rows = tt
