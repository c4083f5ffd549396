-- Groups: at most one member has a value other than 0, so what is rounded for a group is rounded once.
use Rattle.std.proofs.Common.{◌≡◌, ℕ, zero, suc, ◌+◌, Bool, true, false, cond, eqb, ◌||◌, List, [], ◌∷◌, refl, sym, ap, ap₂, ◌∙◌, arith, ℤ, pos, neg_ℤ, ◌+ℤ◌, ◌-ℤ◌, ◌*ℤ◌, ◌≤ℤ◌, ◌⊎◌, inl, inr}
use Rattle.std.specs.List.{All, list_any}
use Rattle.std.proofs.lemmas.Int.{ints}
use Rattle.std.proofs.lemmas.List.Elements.{All-head, All-tail}
use Rattle.std.proofs.Math.IntN.{zero-*ℤ}
use Rattle.row_kit.specs.declared.row.Entry.{Entry}
use Rattle.row_kit.specs.declared.row.Row.{Row}
use Rattle.row_kit.specs.Row.{counted, entries_sum, entry_at}
use Rattle.row_kit.proofs.Values.{part_above}
use Rattle.derived_rows.specs.declared.derived.Group.{Group}
use Rattle.derived_rows.specs.Groups.{is_member, member_entries, shift_at, shifts_sum, starts_sum}
use Rattle.derived_rows.proofs.SlotSums.{over_entries, over_slots, over_sum}

-- a function of whole numbers that is superadditive, and 0 at 0
pub record Rounds (round : ℤ → ℤ) : Type 0 where
  pub adds : (a b : ℤ) → (round a +ℤ round b) ≤ℤ round (a +ℤ b)
  pub nothing : round (pos 0) ≡ pos 0

-- what counts the slots of a group that have a value other than 0: 1 or more where the slot adds something
abbrev Counts : (ℕ → ℕ → ℤ) → (ℕ → ℕ → ℤ) → Type 0
Counts f y = (s v : ℕ) → ((y s v ≡ pos 0) × (pos 0 ≤ℤ f s v)) ⊎ (pos 1 ≤ℤ f s v)

-- what a slot of a group adds, rounded
abbrev risen : (ℤ → ℤ) → ℤ → (ℕ → ℕ → ℤ) → ℕ → ℕ → ℤ
risen round c y s v = round (y s v -ℤ c) -ℤ round (neg_ℤ c)

risen_nothing : (round : ℤ → ℤ) (c x : ℤ) → x ≡ pos 0 → round (x -ℤ c) -ℤ round (neg_ℤ c) ≡ pos 0
risen_nothing round c x e = let same : x -ℤ c ≡ neg_ℤ c = omega (arith, ints, e) in omega (arith, ints, ap round same)

counts_some : (f y : ℕ → ℕ → ℤ) → Counts f y → (i : ℕ) (vs : List ℕ) → pos 0 ≤ℤ over_slots f i vs
counts_some f y counts i [] = omega (arith, ints)
counts_some f y counts i (v ∷ vs) =
    let rest = counts_some f y counts (i + 1) vs in
    elim (counts i v) [ inl bare ↦ omega (arith, ints, bare.1, rest) | inr some ↦ omega (arith, ints, some, rest) ]

-- where nothing is counted, nothing is added
none_adds : (f y : ℕ → ℕ → ℤ) (round : ℤ → ℤ) (c : ℤ) → Counts f y → (i : ℕ) (vs : List ℕ) → over_slots f i vs ≤ℤ pos 0
    → (over_slots y i vs ≡ pos 0) × (over_slots (risen round c y) i vs ≡ pos 0)
none_adds f y round c counts i [] le = (refl, refl)
none_adds f y round c counts i (v ∷ vs) le =
    elim (counts i v) [
      | inl bare ↦
          let rest = none_adds f y round c counts (i + 1) vs (omega (arith, ints, bare.1, le)) in
          (omega (arith, ints, bare.0, rest.0), omega (arith, ints, risen_nothing round c (y i v) bare.0, rest.1))
      | inr some ↦ absurd (omega (arith, ints, some, le, counts_some f y counts (i + 1) vs))
    ]

-- where at most one is counted, the sum rounded is the sum of what is rounded
one_adds : (f y : ℕ → ℕ → ℤ) (round : ℤ → ℤ) (c : ℤ) → Counts f y → (i : ℕ) (vs : List ℕ) → over_slots f i vs ≤ℤ pos 1
    → over_slots (risen round c y) i vs ≡ round (over_slots y i vs -ℤ c) -ℤ round (neg_ℤ c)
one_adds f y round c counts i [] le = sym (risen_nothing round c (pos 0) refl)
one_adds f y round c counts i (v ∷ vs) le =
    elim (counts i v) [
      | inl bare ↦
          let rest = one_adds f y round c counts (i + 1) vs (omega (arith, ints, bare.1, le)) in
          let same : y i v +ℤ over_slots y (i + 1) vs ≡ over_slots y (i + 1) vs = omega (arith, ints, bare.0) in
          omega (arith, ints, risen_nothing round c (y i v) bare.0, rest, ap (λ (x : ℤ). round (x -ℤ c)) same)
      | inr some ↦
          let rest = none_adds f y round c counts (i + 1) vs (omega (arith, ints, some, le)) in
          let same : y i v +ℤ over_slots y (i + 1) vs ≡ y i v = omega (arith, ints, rest.0) in
          omega (arith, ints, rest.1, ap (λ (x : ℤ). round (x -ℤ c)) same)
    ]

-- entries that each count 1 where their slot has a value of 1 or more
pub record AreOnes (es : List Entry) : Type 0 where
  pub fixed : All (λ e. e.fixed ≡ pos 1) es
  pub per : All (λ e. e.per ≡ pos 0) es

ones_tail : (e : Entry) (es : List Entry) → AreOnes (e ∷ es) → AreOnes es
ones_tail e es ones = record {
  fixed = All-tail (λ (x : Entry). x.fixed ≡ pos 1) e es ones.fixed;
  per = All-tail (λ (x : Entry). x.per ≡ pos 0) e es ones.per;
}

one_counted : (e : Entry) (v : ℕ) → e.fixed ≡ pos 1 → e.per ≡ pos 0 → counted e (suc v) ≡ pos 1
one_counted e v fixed per =
    part_above e.fixed e.per (suc v) (omega arith)
    ∙ ap₂ (λ (x y : ℤ). x +ℤ (y *ℤ pos (suc v))) fixed per
    ∙ omega (arith, ints, zero-*ℤ (pos (suc v)))

pub none_at_zero : (es : List Entry) (s : ℕ) → entry_at es s 0 ≡ pos 0
none_at_zero [] s = refl
none_at_zero (e ∷ es) s = by_slot (eqb e.slot s) (none_at_zero es s)
  where
    by_slot : (b : Bool) → entry_at es s 0 ≡ pos 0 → cond b (pos 0) (pos 0) +ℤ entry_at es s 0 ≡ pos 0
    by_slot true rest = omega (arith, ints, rest)
    by_slot false rest = omega (arith, ints, rest)

-- at a value of 1 or more the entries count how many of them name the slot
some_above : (es : List Entry) (s v : ℕ) → AreOnes es → pos 0 ≤ℤ entry_at es s (suc v)
some_above [] s v ones = omega (arith, ints)
some_above (e ∷ es) s v ones =
    by_slot (eqb e.slot s) (one_counted e v (All-head (λ (x : Entry). x.fixed ≡ pos 1) e es ones.fixed) (All-head (λ (x : Entry). x.per ≡ pos 0) e es ones.per)) (some_above es s v (ones_tail e es ones))
  where
    by_slot : (b : Bool) → counted e (suc v) ≡ pos 1 → pos 0 ≤ℤ entry_at es s (suc v) → pos 0 ≤ℤ (cond b (counted e (suc v)) (pos 0) +ℤ entry_at es s (suc v))
    by_slot true one rest = omega (arith, ints, one, rest)
    by_slot false one rest = omega (arith, ints, rest)

member_counts : (es : List Entry) (s v : ℕ) → AreOnes es → list_any (λ e. eqb e.slot s) es ≡ true → pos 1 ≤ℤ entry_at es s (suc v)
member_counts [] s v ones is = absurd (cc)
member_counts (e ∷ es) s v ones is =
    by_slot (eqb e.slot s) (one_counted e v (All-head (λ (x : Entry). x.fixed ≡ pos 1) e es ones.fixed) (All-head (λ (x : Entry). x.per ≡ pos 0) e es ones.per)) (some_above es s v (ones_tail e es ones)) (member_counts es s v (ones_tail e es ones)) is
  where
    by_slot : (b : Bool) → counted e (suc v) ≡ pos 1 → pos 0 ≤ℤ entry_at es s (suc v) → (list_any (λ x. eqb x.slot s) es ≡ true → pos 1 ≤ℤ entry_at es s (suc v)) → (b || list_any (λ x. eqb x.slot s) es) ≡ true
        → pos 1 ≤ℤ (cond b (counted e (suc v)) (pos 0) +ℤ entry_at es s (suc v))
    by_slot true one rest later is = omega (arith, ints, one, rest)
    by_slot false one rest later is = omega (arith, ints, later is)

-- what members count
abbrev members_only : List Row → Group → (ℕ → ℕ → ℤ) → ℕ → ℕ → ℤ
members_only rows group x s v = cond (is_member rows group.members s) (x s v) (pos 0)

-- what the others count
abbrev others_only : List Row → Group → (ℕ → ℕ → ℤ) → ℕ → ℕ → ℤ
others_only rows group x s v = cond (is_member rows group.members s) (pos 0) (x s v)

members_counted : (rows : List Row) (group : Group) (x : ℕ → ℕ → ℤ) → ((s : ℕ) → x s 0 ≡ pos 0) → AreOnes (member_entries rows group.members)
    → Counts (entry_at (member_entries rows group.members)) (members_only rows group x)
members_counted rows group x bare ones s zero =
    inl (by_member (is_member rows group.members s), omega (arith, ints, none_at_zero (member_entries rows group.members) s))
  where
    by_member : (b : Bool) → cond b (x s 0) (pos 0) ≡ pos 0
    by_member true = bare s
    by_member false = refl
members_counted rows group x bare ones s (suc v) = by_member (is_member rows group.members s) refl
  where
    es : List Entry
    es = member_entries rows group.members

    by_member : (b : Bool) → is_member rows group.members s ≡ b
        → ((cond b (x s (suc v)) (pos 0) ≡ pos 0) × (pos 0 ≤ℤ entry_at (member_entries rows group.members) s (suc v))) ⊎ (pos 1 ≤ℤ entry_at (member_entries rows group.members) s (suc v))
    by_member true is = inr (member_counts (member_entries rows group.members) s v ones is)
    by_member false is = inl (refl, some_above (member_entries rows group.members) s v ones)

-- what a slot adds with the shift of its group, rounded
abbrev pub shifted : (ℤ → ℤ) → List Row → List Group → (ℕ → ℕ → ℤ) → ℕ → ℕ → ℤ
shifted round rows groups x s v = round (x s v -ℤ shift_at rows groups s) -ℤ round (neg_ℤ (shift_at rows groups s))

-- a point has at most one member of a group with a value other than 0
pub record IsAlone (rows : List Row) (point : List ℕ) (group : Group) : Type 0 where
  pub ones : AreOnes (member_entries rows group.members)
  pub one : entries_sum (member_entries rows group.members) point ≤ℤ pos 1

-- what slots add with the shifts of their groups, and one number more, are at most the sum without the shifts rounded, less what shifts alone are rounded to
pub grouped : (round : ℤ → ℤ) → Rounds round → (rows : List Row) (groups : List Group) (point : List ℕ) → All (IsAlone rows point) groups
    → (x : ℕ → ℕ → ℤ) → ((s : ℕ) → x s 0 ≡ pos 0) → (z : ℤ)
    → ((over_slots (shifted round rows groups x) 0 point +ℤ round z) +ℤ starts_sum round groups) ≤ℤ round ((z +ℤ over_slots x 0 point) -ℤ shifts_sum groups)
grouped round rounds rows [] point alone x bare z = singles round rounds x 0 point z
  where
    singles : (round : ℤ → ℤ) → Rounds round → (x : ℕ → ℕ → ℤ) (i : ℕ) (vs : List ℕ) (z : ℤ)
        → ((over_slots (shifted round rows [] x) i vs +ℤ round z) +ℤ pos 0) ≤ℤ round ((z +ℤ over_slots x i vs) -ℤ pos 0)
    singles round rounds x i [] z = let same : (z +ℤ pos 0) -ℤ pos 0 ≡ z = omega (arith, ints) in omega (arith, ints, ap round same)
    singles round rounds x i (v ∷ vs) z =
        let here : x i v -ℤ pos 0 ≡ x i v = omega (arith, ints) in
        let same : ((z +ℤ x i v) +ℤ over_slots x (i + 1) vs) -ℤ pos 0 ≡ (z +ℤ (x i v +ℤ over_slots x (i + 1) vs)) -ℤ pos 0 = omega (arith, ints) in
        omega (arith, ints, singles round rounds x (i + 1) vs (z +ℤ x i v), rounds.adds z (x i v), rounds.nothing, ap round here, ap round same)
grouped round rounds rows (group ∷ groups) point alone x bare z =
    let y = members_only rows group x in
    let rest = others_only rows group x in
    let es = member_entries rows group.members in
    let c = group.shift in
    let this = All-head (IsAlone rows point) group groups alone in
    let others = grouped round rounds rows groups point (All-tail (IsAlone rows point) group groups alone) rest (λ s. by_other (is_member rows group.members s) (bare s)) z in
    let one : over_slots (entry_at es) 0 point ≤ℤ pos 1 = omega (arith, ints, over_entries es point, this.one) in
    let members = one_adds (entry_at es) y round c (members_counted rows group x bare this.ones) 0 point one in
    let apart = over_sum (shifted round rows groups rest) (risen round c y) (shifted round rows (group ∷ groups) x) (λ s v. split s v (is_member rows group.members s)) 0 point in
    let whole = over_sum rest y x (λ s v. parted (x s v) (is_member rows group.members s)) 0 point in
    let a = over_slots y 0 point -ℤ c in
    let b = (z +ℤ over_slots rest 0 point) -ℤ shifts_sum groups in
    let sum : a +ℤ b ≡ (z +ℤ over_slots x 0 point) -ℤ (c +ℤ shifts_sum groups) = omega (arith, ints, whole) in
    omega (arith, ints, others, members, apart, rounds.adds a b, ap round sum)
  where
    by_other : (b : Bool) → {s : ℕ} → x s 0 ≡ pos 0 → cond b (pos 0) (x s 0) ≡ pos 0
    by_other true e = refl
    by_other false e = e

    parted : (a : ℤ) (b : Bool) → a ≡ cond b (pos 0) a +ℤ cond b a (pos 0)
    parted a true = omega (arith, ints)
    parted a false = omega (arith, ints)

    split : (s v : ℕ) (b : Bool)
        → round (x s v -ℤ cond b group.shift (shift_at rows groups s)) -ℤ round (neg_ℤ (cond b group.shift (shift_at rows groups s)))
        ≡ (round (cond b (pos 0) (x s v) -ℤ shift_at rows groups s) -ℤ round (neg_ℤ (shift_at rows groups s))) +ℤ (round (cond b (x s v) (pos 0) -ℤ group.shift) -ℤ round (neg_ℤ group.shift))
    split s v true = omega (arith, ints, risen_nothing round (shift_at rows groups s) (pos 0) refl)
    split s v false = omega (arith, ints, risen_nothing round group.shift (pos 0) refl)
