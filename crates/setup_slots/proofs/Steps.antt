-- The starts on a unit, one after another: what their setup counts in the rows.
use Rattle.std.proofs.Common.{◌≡◌, ℕ, ◌+◌, ◌<◌, ◌≤◌, ◌==◌, ◌&&◌, nat_le, nat_lt, Bool, true, false, cond, List, [], ◌∷◌, count_by, refl, sym, ap, ◌∙◌, arith, inl, inr, ℤ, pos, neg_ℤ, ◌+ℤ◌, ◌-ℤ◌, ◌≤ℤ◌}
use Rattle.std.specs.List.{All}
use Rattle.std.proofs.lemmas.Bool.{and_parts, cases_Bool, cases_lt, cond-true, cond-false, eq-eqb, eqb-true, le-leb, le-ltb, lt-leb, ne_eqb}
use Rattle.std.proofs.lemmas.Int.{ints}
use Rattle.std.proofs.lemmas.List.Elements.{All-head, All-tail}
use Rattle.stn_model.specs.declared.plant.Plant.{Plant}
use Rattle.stn_model.specs.declared.start.Start.{Start}
use Rattle.stn_model.specs.Batches.{is_next}
use Rattle.stn_model.specs.Plant.{end_of, gap_between}
use Rattle.stn_model.specs.Sums.{total}
use Rattle.setup_slots.specs.declared.setup.SetupRow.TheVariants.{Single, Held, Begun}
use Rattle.setup_slots.specs.declared.setup.SetupSlot.{SetupSlot}
use Rattle.setup_slots.specs.declared.setup.SetupSlot.TheVariants.{First, Change}
use Rattle.setup_slots.specs.Image.{changes_along, is_same, setup_of}
use Rattle.setup_slots.specs.Rows.{one_if, setup_part}
use Rattle.setup_slots.proofs.Exchange.{count-cons, count-no, count-yes}

-- b is a next start on the unit, and waits for the end of a and the cleaning
pub record Step (plant : Plant) (unit : ℕ) (plan : List Start) (a b : Start) : Type 0 where
  pub later : a.period < b.period
  pub next : is_next plan a b ≡ true
  pub over : end_of plant a + gap_between plant unit a.task b.task ≤ b.period

-- starts that follow one, each a step from the one before
abbrev pub Follows : Plant → ℕ → List Start → Start → List Start → Type 0
Follows plant unit plan a [] = Unit {0}
Follows plant unit plan a (b ∷ rest) = Step plant unit plan a b × Follows plant unit plan b rest

-- starts that follow one another
abbrev pub FollowAll : Plant → ℕ → List Start → List Start → Type 0
FollowAll plant unit plan [] = Unit {0}
FollowAll plant unit plan (a ∷ rest) = Follows plant unit plan a rest

-- the changes along one start more
pub changes-same : (a b : Start) (rest : List Start) → (a.task == b.task) ≡ true → changes_along a (b ∷ rest) ≡ changes_along b rest
changes-same a b rest t = cond-true (a.task == b.task) (changes_along b rest) (Change a.task b.task b.period ∷ changes_along b rest) t

pub changes-other : (a b : Start) (rest : List Start) → (a.task == b.task) ≡ false → changes_along a (b ∷ rest) ≡ Change a.task b.task b.period ∷ changes_along b rest
changes-other a b rest t = cond-false (a.task == b.task) (changes_along b rest) (Change a.task b.task b.period ∷ changes_along b rest) t

-- what holds of the sum along one start more, whether the task stays or not
pub total_next : (f : SetupSlot → ℤ) (a b : Start) (rest : List Start) (P : ℤ → Type 0) → ((a.task ≡ b.task) → P (total f (changes_along b rest))) →
    (P (f (Change a.task b.task b.period) +ℤ total f (changes_along b rest))) → P (total f (changes_along a (b ∷ rest)))
total_next f a b rest P same other =
    elim (cases_Bool (a.task == b.task)) [
      | inl t ↦ rw (changes-same a b rest t) (same (eqb-true a.task b.task t))
      | inr t ↦ rw (changes-other a b rest t) other
    ]

-- no change is a first task
no_firsts : (task : ℕ) (a : Start) (rest : List Start) → count_by (is_same (First task)) (changes_along a rest) ≡ 0
no_firsts task a [] = refl
no_firsts task a (b ∷ rest) =
    elim (cases_Bool (a.task == b.task)) [
      | inl t ↦ rw (changes-same a b rest t) (no_firsts task b rest)
      | inr t ↦ rw (changes-other a b rest t) (count-no (is_same (First task)) (Change a.task b.task b.period) (changes_along b rest) refl ∙ no_firsts task b rest)
    ]

last_no : (t u : Bool) → u ≡ false → (t && u) ≡ false
last_no true u e = e
last_no false u e = refl

-- a change in a period comes once at most
late_changes : (plant : Plant) (unit : ℕ) (plan : List Start) (from to period : ℕ) (a : Start) (rest : List Start) → period ≤ a.period → Follows plant unit plan a rest →
    count_by (is_same (Change from to period)) (changes_along a rest) ≡ 0
late_changes plant unit plan from to period a [] late follows = refl
late_changes plant unit plan from to period a (b ∷ rest) late follows =
    let later = follows.0.later in
    let more = late_changes plant unit plan from to period b rest (omega arith) follows.1 in
    elim (cases_Bool (a.task == b.task)) [
      | inl t ↦ rw (changes-same a b rest t) more
      | inr t ↦
          let differs : is_same (Change from to period) (Change a.task b.task b.period) ≡ false = last_no (from == a.task && to == b.task) (period == b.period) (ne_eqb period b.period (λ e. omega arith)) in
          rw (changes-other a b rest t) (count-no (is_same (Change from to period)) (Change a.task b.task b.period) (changes_along b rest) differs ∙ more)
    ]

one_change : (plant : Plant) (unit : ℕ) (plan : List Start) (from to period : ℕ) (a : Start) (rest : List Start) → Follows plant unit plan a rest →
    count_by (is_same (Change from to period)) (changes_along a rest) ≤ 1
one_change plant unit plan from to period a [] follows = omega arith
one_change plant unit plan from to period a (b ∷ rest) follows =
    let more = one_change plant unit plan from to period b rest follows.1 in
    let it = Change a.task b.task b.period in
    let q = is_same (Change from to period) in
    elim (cases_Bool (a.task == b.task)) [
      | inl t ↦ rw (changes-same a b rest t) more
      | inr t ↦ rw (changes-other a b rest t) (elim (cases_Bool (q it)) [
        | inl u ↦
            let at : period ≡ b.period = eqb-true period b.period (and_parts (from == a.task && to == b.task) (period == b.period) u).1 in
            let none = late_changes plant unit plan from to period b rest (omega arith) follows.1 in
            omega (arith, count-yes q it (changes_along b rest) u, none)
        | inr u ↦ omega (arith, count-no q it (changes_along b rest) u, more)
      ])
    ]

-- the setup of starts that follow one another has each slot once at most
pub setup-once : (plant : Plant) (unit : ℕ) (plan starts : List Start) → FollowAll plant unit plan starts → (s : SetupSlot) → count_by (is_same s) (setup_of starts) ≤ 1
setup-once plant unit plan [] follows s = omega arith
setup-once plant unit plan (a ∷ rest) follows (First task) =
    let more = count-cons (is_same (First task)) (First a.task) (changes_along a rest) in
    elim (cases_Bool (is_same (First task) (First a.task))) [
      | inl t ↦ omega (arith, count-yes (is_same (First task)) (First a.task) (changes_along a rest) t, no_firsts task a rest)
      | inr t ↦ omega (arith, count-no (is_same (First task)) (First a.task) (changes_along a rest) t, no_firsts task a rest)
    ]
setup-once plant unit plan (a ∷ rest) follows (Change from to period) =
    omega (arith, count-no (is_same (Change from to period)) (First a.task) (changes_along a rest) refl, one_change plant unit plan from to period a rest follows)

-- the task for which the unit is set up in a period: that of the last start by then
abbrev pub current : ℕ → List Start → ℕ → ℕ
current task [] period = task
current task (b ∷ rest) period = cond (nat_le b.period period) (current b.task rest period) task

-- no change later than a period counts there
late_held : (plant : Plant) (unit : ℕ) (plan : List Start) (task period : ℕ) (a : Start) (rest : List Start) → period < a.period → Follows plant unit plan a rest →
    total (setup_part (Held task period)) (changes_along a rest) ≡ pos 0
late_held plant unit plan task period a [] late follows = refl
late_held plant unit plan task period a (b ∷ rest) late follows =
    let f = setup_part (Held task period) in
    let later = follows.0.later in
    let more = late_held plant unit plan task period b rest (omega arith) follows.1 in
    let none : f (Change a.task b.task b.period) ≡ pos 0 = cond-false (nat_le b.period period) (one_if (a.task == task) -ℤ one_if (b.task == task)) (pos 0) (lt-leb b.period period (omega arith)) in
    total_next f a b rest (λ n. n ≡ pos 0) (λ e. more) (omega (arith, ints, none, more))

-- the changes by a period go over from the first task to the current one
held_changes : (plant : Plant) (unit : ℕ) (plan : List Start) (task period : ℕ) (a : Start) (rest : List Start) → Follows plant unit plan a rest →
    total (setup_part (Held task period)) (changes_along a rest) ≡ one_if (a.task == task) -ℤ one_if (current a.task rest period == task)
held_changes plant unit plan task period a [] follows = omega (arith, ints)
held_changes plant unit plan task period a (b ∷ rest) follows =
    let f = setup_part (Held task period) in
    let all = one_if (a.task == task) -ℤ one_if (current a.task (b ∷ rest) period == task) in
    elim (cases_lt period b.period) [
      | inl late ↦
          let still : current a.task (b ∷ rest) period ≡ a.task = cond-false (nat_le b.period period) (current b.task rest period) a.task (lt-leb b.period period late) in
          let more = late_held plant unit plan task period b rest late follows.1 in
          let none : f (Change a.task b.task b.period) ≡ pos 0 = cond-false (nat_le b.period period) (one_if (a.task == task) -ℤ one_if (b.task == task)) (pos 0) (lt-leb b.period period late) in
          let same : all ≡ pos 0 = ap (λ k. one_if (a.task == task) -ℤ one_if (k == task)) still ∙ omega (arith, ints) in
          total_next f a b rest (λ n. n ≡ all) (λ e. more ∙ sym same) (omega (arith, ints, none, more, same))
      | inr past ↦
          let by : nat_le b.period period ≡ true = le-leb b.period period past in
          let now : current a.task (b ∷ rest) period ≡ current b.task rest period = cond-true (nat_le b.period period) (current b.task rest period) a.task by in
          let more = held_changes plant unit plan task period b rest follows.1 in
          let one : f (Change a.task b.task b.period) ≡ one_if (a.task == task) -ℤ one_if (b.task == task) = cond-true (nat_le b.period period) (one_if (a.task == task) -ℤ one_if (b.task == task)) (pos 0) by in
          let same : all ≡ one_if (a.task == task) -ℤ one_if (current b.task rest period == task) = ap (λ k. one_if (a.task == task) -ℤ one_if (k == task)) now in
          total_next f a b rest (λ n. n ≡ all) (λ e. more ∙ ap (λ k. one_if (k == task) -ℤ one_if (current b.task rest period == task)) (sym e) ∙ sym same)
          (omega (arith, ints, one, more, same))
    ]

-- so the setup of starts counts less 1 for the current task
pub held-setup : (plant : Plant) (unit : ℕ) (plan : List Start) (task period : ℕ) (a : Start) (rest : List Start) → Follows plant unit plan a rest →
    total (setup_part (Held task period)) (setup_of (a ∷ rest)) ≡ neg_ℤ (one_if (current a.task rest period == task))
held-setup plant unit plan task period a rest follows = omega (arith, ints, held_changes plant unit plan task period a rest follows)

-- a batch of the task on the unit runs in the period
abbrev pub is_running : Plant → ℕ → ℕ → ℕ → Start → Bool
is_running plant unit task period start = start.unit == unit && start.task == task && nat_le start.period period && nat_lt period (end_of plant start)

-- no batch that starts later than the period runs there
not_yet : (plant : Plant) (unit task period : ℕ) (a : Start) → period < a.period → is_running plant unit task period a ≡ false
not_yet plant unit task period a late =
    ap (λ t. t && nat_lt period (end_of plant a)) (last_no (a.unit == unit && a.task == task) (nat_le a.period period) (lt-leb a.period period late))

late_running : (plant : Plant) (unit : ℕ) (plan : List Start) (task period : ℕ) (a : Start) (rest : List Start) → period < a.period → Follows plant unit plan a rest →
    count_by (is_running plant unit task period) (a ∷ rest) ≡ 0
late_running plant unit plan task period a [] late follows = count-no (is_running plant unit task period) a [] (not_yet plant unit task period a late)
late_running plant unit plan task period a (b ∷ rest) late follows =
    let later = follows.0.later in
    count-no (is_running plant unit task period) a (b ∷ rest) (not_yet plant unit task period a late) ∙ late_running plant unit plan task period b rest (omega arith) follows.1

-- a batch that runs is one of its task
running_task : (plant : Plant) (unit task period : ℕ) (a : Start) → pos (cond (is_running plant unit task period a) 1 0) ≤ℤ one_if (a.task == task)
running_task plant unit task period a =
    elim (cases_Bool (is_running plant unit task period a)) [
      | inl t ↦
          let is : (a.task == task) ≡ true =
          (and_parts (a.unit == unit) (a.task == task) (and_parts (a.unit == unit && a.task == task) (nat_le a.period period) (and_parts (a.unit == unit && a.task == task && nat_le a.period period) (nat_lt period (end_of plant a)) t).0).0).1 in
          let one : one_if (a.task == task) ≡ pos 1 = cond-true (a.task == task) (pos 1) (pos 0) is in
          omega (arith, ints, one, cond-true {A = ℕ} (is_running plant unit task period a) 1 0 t)
      | inr t ↦ none (a.task == task) (cond-false {A = ℕ} (is_running plant unit task period a) 1 0 t)
    ]
  where
    none : (u : Bool) → ◌≡◌ {A = ℕ} (cond (is_running plant unit task period a) 1 0) 0 → pos (cond (is_running plant unit task period a) 1 0) ≤ℤ one_if u
    none true e = omega (arith, ints, e)
    none false e = omega (arith, ints, e)

-- at most one batch of the current task runs in a period, and no other
pub running-most : (plant : Plant) (unit : ℕ) (plan : List Start) (task period : ℕ) (a : Start) (rest : List Start) → Follows plant unit plan a rest →
    pos (count_by (is_running plant unit task period) (a ∷ rest)) ≤ℤ one_if (current a.task rest period == task)
running-most plant unit plan task period a [] follows = omega (arith, ints, count-cons (is_running plant unit task period) a [], running_task plant unit task period a)
running-most plant unit plan task period a (b ∷ rest) follows =
    let q = is_running plant unit task period in
    elim (cases_lt period b.period) [
      | inl late ↦
          let still : current a.task (b ∷ rest) period ≡ a.task = cond-false (nat_le b.period period) (current b.task rest period) a.task (lt-leb b.period period late) in
          rw still (omega (arith, ints, count-cons q a (b ∷ rest), late_running plant unit plan task period b rest late follows.1, running_task plant unit task period a))
      | inr past ↦
          let now : current a.task (b ∷ rest) period ≡ current b.task rest period = cond-true (nat_le b.period period) (current b.task rest period) a.task (le-leb b.period period past) in
          let over = follows.0.over in
          let ended : q a ≡ false = last_no (a.unit == unit && a.task == task && nat_le a.period period) (nat_lt period (end_of plant a)) (le-ltb period (end_of plant a) (omega arith)) in
          rw now (omega (arith, ints, count-no q a (b ∷ rest) ended, running-most plant unit plan task period b rest follows.1))
    ]

-- a start of the task on the unit, in the period
abbrev pub is_start : ℕ → ℕ → ℕ → Start → Bool
is_start unit task period start = start.unit == unit && start.task == task && start.period == period

-- the changes to a task in a period are as many as its starts there at most
begun_changes : (unit task period : ℕ) (a : Start) (rest : List Start) → All (λ b. b.unit ≡ unit) rest →
    total (setup_part (Begun task period)) (changes_along a rest) ≤ℤ pos (count_by (is_start unit task period) rest)
begun_changes unit task period a [] on = omega (arith, ints)
begun_changes unit task period a (b ∷ rest) on =
    let f = setup_part (Begun task period) in
    let q = is_start unit task period in
    let more = begun_changes unit task period b rest (All-tail (λ c. c.unit ≡ unit) b rest on) in
    let counts = count-cons q b rest in
    let at = eq-eqb b.unit unit (All-head (λ c. c.unit ≡ unit) b rest on) in
    let here : f (Change a.task b.task b.period) ≡ pos (cond (q b) 1 0) = same (b.unit == unit) (b.task == task) (b.period == period) at in
    let most : ℤ = pos (count_by q (b ∷ rest)) in
    total_next f a b rest (λ n. n ≤ℤ most) (λ e. omega (arith, ints, more, counts)) (omega (arith, ints, more, counts, here))
  where
    same : (t u v : Bool) → t ≡ true → one_if (u && v) ≡ pos (cond (t && u && v) 1 0)
    same true true true e = refl
    same true true false e = refl
    same true false v e = refl
    same false u v e = absurd (let bad : false ≡ true = e in cc)

pub begun-setup : (unit task period : ℕ) (starts : List Start) → All (λ b. b.unit ≡ unit) starts →
    total (setup_part (Begun task period)) (setup_of starts) ≤ℤ pos (count_by (is_start unit task period) starts)
begun-setup unit task period [] on = omega (arith, ints)
begun-setup unit task period (a ∷ rest) on =
    let more = begun_changes unit task period a rest (All-tail (λ c. c.unit ≡ unit) a rest on) in
    omega (arith, ints, more, count-cons (is_start unit task period) a rest)

-- at most one task comes first
single_changes : (a : Start) (rest : List Start) → total (setup_part Single) (changes_along a rest) ≡ pos 0
single_changes a [] = refl
single_changes a (b ∷ rest) =
    let more = single_changes b rest in
    total_next (setup_part Single) a b rest (λ n. n ≡ pos 0) (λ e. more) (omega (arith, ints, more))

pub single-setup : (starts : List Start) → total (setup_part Single) (setup_of starts) ≤ℤ pos 1
single-setup [] = omega (arith, ints)
single-setup (a ∷ rest) = omega (arith, ints, single_changes a rest)
