-- The table of what runs, and the first places that meet.
use Rattle.std.proofs.Common.{◌≡◌, ℕ, ◌+◌, ◌-◌, ◌*◌, ◌<◌, ◌≤◌, List, length, drop, get_or, set, get_or-set_same, get_or-set_other, arith, refl, sym, ap, ◌∙◌, subst, inl, inr, Some, None, Bool, true, false, cond, ltb, leb, eqb, max, min, ◌&&◌, ◌++◌, [], ◌∷◌}
use Rattle.std.specs.Prelude.{position}
use Rattle.std.specs.Option.{option_map}
use Rattle.std.proofs.lemmas.Bool.{cases_lt, cases_eq, cases_Bool, false≢true, and_parts, and_from, eqb-true, eq-eqb, ne_eqb, ltb-true, leb-true, lt-ltb, le-ltb, le-leb}
use Rattle.std.proofs.lemmas.List.{get_or-drop, length-drop, append-nil}
use Rattle.std.proofs.lemmas.Nat.{same_from_place}
use Rattle.std.proofs.lemmas.List.Quantifiers.{position-Some}
use Rattle.stn_model.specs.declared.plant.Plant.{Plant}
use Rattle.stn_model.specs.declared.start.Start.{Start}
use Rattle.stn_model.specs.Plant.{end_of}
use Rattle.stn_model.specs.Violations.{start_at, no_start}
use Rattle.plan_sim.specs.Moves.{cell}
use Rattle.plan_violations.specs.declared.breach.Breach.TheVariants.{Busy}
use Rattle.plan_violations.specs.Lists.{listed}
use Rattle.plan_violations.specs.Breaches.{meets, meeting_after, busy_at}
use Rattle.plan_violations.specs.Meeting.{runs_in, IsFirst, IsRunTable, IsMeeting, StandsIn, IsLeastIn, put_in}
use Rattle.plan_violations.proofs.Places.{position_here, position_nowhere, position_none}

-- ---- tests

runs_parts : (plant : Plant) (unit period : ℕ) (a : Start) → runs_in plant unit period a ≡ true → (a.unit ≡ unit) × ((a.period ≤ period) × (period < end_of plant a))
unfolding runs_in
runs_parts plant unit period a h =
    let last = and_parts (eqb a.unit unit && leb a.period period) (ltb period (end_of plant a)) h in
    let both = and_parts (eqb a.unit unit) (leb a.period period) last.0 in
    (eqb-true a.unit unit both.0, (leb-true a.period period both.1, ltb-true period (end_of plant a) last.1))

runs_from : (plant : Plant) (unit period : ℕ) (a : Start) → a.unit ≡ unit → a.period ≤ period → period < end_of plant a → runs_in plant unit period a ≡ true
unfolding runs_in
runs_from plant unit period a u p e =
    and_from (eqb a.unit unit && leb a.period period) (ltb period (end_of plant a))
    (and_from (eqb a.unit unit) (leb a.period period) (eq-eqb a.unit unit u) (le-leb a.period period p)) (lt-ltb period (end_of plant a) e)

-- two batches that run on one unit in a common period meet
meet_from : (plant : Plant) (a b : Start) (period : ℕ) → a.unit ≡ b.unit → a.period ≤ period → b.period ≤ period → period < end_of plant a → period < end_of plant b → meets plant a b ≡ true
unfolding meets
meet_from plant a b period u p q e f =
    let common : max a.period b.period < min (end_of plant a) (end_of plant b) = omega arith in
    and_from (eqb a.unit b.unit) (ltb (max a.period b.period) (min (end_of plant a) (end_of plant b))) (eq-eqb a.unit b.unit u) (lt-ltb (max a.period b.period) (min (end_of plant a) (end_of plant b)) common)

meet_parts : (plant : Plant) (a b : Start) → meets plant a b ≡ true → (a.unit ≡ b.unit) × (max a.period b.period < min (end_of plant a) (end_of plant b))
unfolding meets
meet_parts plant a b h =
    let both = and_parts (eqb a.unit b.unit) (ltb (max a.period b.period) (min (end_of plant a) (end_of plant b))) h in
    (eqb-true a.unit b.unit both.0, ltb-true (max a.period b.period) (min (end_of plant a) (end_of plant b)) both.1)

-- ---- from the table to the first that meets

module _ (plant : Plant) (plan : List Start) (width : ℕ) (cells : List ℕ) (k m : ℕ) (there : k < length plan)
    (unit : (start_at plan k).unit < length plant.units) (inside : end_of plant (start_at plan k) ≤ width)
    (table : IsRunTable plant plan width (k + 1) cells)
    (least : IsLeastIn cells width (start_at plan k).unit (start_at plan k).period (end_of plant (start_at plan k)) (length plan) m) where
  not_before : (j : ℕ) → k + 1 ≤ j → j < m → meets plant (start_at plan k) (start_at plan j) ≡ true → ⊥
  not_before j h l e =
      let a = start_at plan k in
      let b = start_at plan j in
      let parts = meet_parts plant a b e in
      let common : max a.period b.period < min (end_of plant a) (end_of plant b) = parts.1 in
      let c : ℕ = max a.period b.period in
      let low : a.period ≤ c = omega arith in
      let high : c < end_of plant a = omega arith in
      let low2 : b.period ≤ c = omega arith in
      let high2 : c < end_of plant b = omega arith in
      let column : c < width = omega arith in
      let first = table a.unit c unit column in
      let below : m ≤ cell cells width a.unit c = least.least c low high in
      let earlier : j < cell cells width a.unit c = omega arith in
      false≢true (sym (first.before j h earlier) ∙ runs_from plant a.unit c b (sym parts.0) low2 high2)

  stands : StandsIn cells width (start_at plan k).unit (start_at plan k).period (end_of plant (start_at plan k)) m → (k + 1 ≤ m) × (m < length plan → meets plant (start_at plan k) (start_at plan m) ≡ true)
  stands at =
      let a = start_at plan k in
      let column : at.column < width = (let h = at.high in omega arith) in
      let first = table a.unit at.column unit column in
      let is = at.is in
      let later : k + 1 ≤ cell cells width a.unit at.column = first.later in (
        omega arith,
        λ h.
            let h2 : cell cells width a.unit at.column < length plan = omega arith in
            let runs : runs_in plant a.unit at.column (start_at plan m) ≡ true = ap (λ (i : ℕ). runs_in plant a.unit at.column (start_at plan i)) is ∙ first.here h2 in
            let parts = runs_parts plant a.unit at.column (start_at plan m) runs in
            meet_from plant a (start_at plan m) at.column (sym parts.0) at.low parts.1.0 at.high parts.1.1,
      )

  pub met_in_table : IsMeeting plant plan k m
  met_in_table = record {
    within = least.most;
    later = elim least.some [ inl e ↦ omega arith | inr at ↦ (stands at).0 ];
    before = λ j h l. elim (cases_Bool (meets plant (start_at plan k) (start_at plan j))) [
      | inl e ↦ absurd (not_before j h l e)
      | inr e ↦ e
    ];
    here = λ h. elim least.some [ inl e ↦ absurd (omega arith) | inr at ↦ (stands at).1 h ];
  }

-- ---- by looking through the plan

at_drop : (plan : List Start) (k j : ℕ) → k + 1 ≤ j → get_or (drop (k + 1) plan) (j - (k + 1)) no_start ≡ start_at plan j
at_drop plan k j h =
    let place : k + 1 + (j - (k + 1)) ≡ j = omega arith in
    get_or-drop (k + 1) plan (j - (k + 1)) no_start ∙ ap (λ (i : ℕ). get_or plan i no_start) place

pub met_none : (plant : Plant) (plan : List Start) (k : ℕ) → k < length plan → position (meets plant (start_at plan k)) (drop (k + 1) plan) ≡ None → IsMeeting plant plan k (length plan)
met_none plant plan k there e = record {
  within = omega arith;
  later = omega arith;
  before = λ j h l.
      let in_drop : j - (k + 1) < length (drop (k + 1) plan) = simp length-drop (omega arith) in
      ap (meets plant (start_at plan k)) (sym (at_drop plan k j h)) ∙ position_none (meets plant (start_at plan k)) (drop (k + 1) plan) no_start e (j - (k + 1)) in_drop;
  here = λ h. absurd (omega arith);
}

pub met_some : (plant : Plant) (plan : List Start) (k i : ℕ) → k < length plan → position (meets plant (start_at plan k)) (drop (k + 1) plan) ≡ Some i → IsMeeting plant plan k (k + 1 + i)
met_some plant plan k i there e =
    let found = position-Some (meets plant (start_at plan k)) (drop (k + 1) plan) i no_start e in
    let in_drop : i < length (drop (k + 1) plan) = found.0 in
    let inside : i < length plan - (k + 1) = simp length-drop at in_drop in
    let here : get_or (drop (k + 1) plan) i no_start ≡ start_at plan (k + 1 + i) = get_or-drop (k + 1) plan i no_start in
    record {
      within = omega arith;
      later = omega arith;
      before = λ j h l. (let low : j - (k + 1) < i = omega arith in
          ap (meets plant (start_at plan k)) (sym (at_drop plan k j h)) ∙ found.2 (j - (k + 1)) low);
      here = λ h. ap (meets plant (start_at plan k)) (sym here) ∙ found.1;
    }

-- ---- from the first that meets to what is listed

meeting_some : (plant : Plant) (plan : List Start) (k m : ℕ) → IsMeeting plant plan k m → m < length plan → meeting_after plant plan k ≡ Some m
unfolding meeting_after
meeting_some plant plan k m met l =
    let p = meets plant (start_at plan k) in
    let later : k + 1 ≤ m = met.later in
    let in_drop : m - (k + 1) < length (drop (k + 1) plan) = simp length-drop (omega arith) in
    let found : position p (drop (k + 1) plan) ≡ Some (m - (k + 1)) =
    position_here p (drop (k + 1) plan) (m - (k + 1)) no_start in_drop
    (λ j h. let low : k + 1 + j < m = omega arith in let from : k + 1 ≤ k + 1 + j = omega arith in ap p (get_or-drop (k + 1) plan j no_start) ∙ met.before (k + 1 + j) from low)
    (ap p (at_drop plan k m later) ∙ met.here l) in
    let back : k + 1 + (m - (k + 1)) ≡ m = omega arith in
    ap (option_map (λ i. k + 1 + i)) found ∙ ap (λ (i : ℕ). Some i) back

meeting_none : (plant : Plant) (plan : List Start) (k m : ℕ) → IsMeeting plant plan k m → length plan ≤ m → meeting_after plant plan k ≡ None
unfolding meeting_after
meeting_none plant plan k m met g =
    let p = meets plant (start_at plan k) in
    ap (option_map (λ i. k + 1 + i))
    (position_nowhere p (drop (k + 1) plan) no_start
    (λ j h. let inside : j < length plan - (k + 1) = simp length-drop at h in
    let low : k + 1 + j < m = omega arith in let from : k + 1 ≤ k + 1 + j = omega arith in ap p (get_or-drop (k + 1) plan j no_start) ∙ met.before (k + 1 + j) from low))

pub busy_some : (plant : Plant) (plan : List Start) (k m : ℕ) → IsMeeting plant plan k m → m < length plan → busy_at plant plan k ≡ Busy k m ∷ []
unfolding busy_at
busy_some plant plan k m met l = ap (listed (λ s. Busy k s)) (meeting_some plant plan k m met l)

pub busy_nothing : (plant : Plant) (plan : List Start) (k m : ℕ) → IsMeeting plant plan k m → length plan ≤ m → busy_at plant plan k ≡ []
unfolding busy_at
busy_nothing plant plan k m met g = ap (listed (λ s. Busy k s)) (meeting_none plant plan k m met g)

-- ---- one more batch in the table

pub first_here : (plan : List Start) (test : Start → Bool) (k : ℕ) → k < length plan → test (start_at plan k) ≡ true → IsFirst test plan k k
first_here plan test k there e = record { within = omega arith; later = omega arith; before = λ j h l. absurd (omega arith); here = λ h. e }

pub first_on : (plan : List Start) (test : Start → Bool) (k m : ℕ) → IsFirst test plan (k + 1) m → test (start_at plan k) ≡ false → IsFirst test plan k m
first_on plan test k m first e = record {
  within = first.within;
  later = (let l = first.later in omega arith);
  before = λ j h l. elim (cases_eq k j) [
    | inl same ↦ ap (λ (i : ℕ). test (start_at plan i)) (sym same) ∙ e
    | inr other ↦ (let from : k + 1 ≤ j = omega arith in first.before j from l)
  ];
  here = first.here;
}

-- a unit that is not there has no row
pub table_same : (plant : Plant) (plan : List Start) (width k : ℕ) (cells : List ℕ) → length plant.units ≤ (start_at plan k).unit → IsRunTable plant plan width (k + 1) cells → IsRunTable plant plan width k cells
unfolding runs_in
table_same plant plan width k cells out table unit period h l =
    let a = start_at plan k in
    let other : runs_in plant unit period a ≡ false = elim (cases_Bool (runs_in plant unit period a)) [
      | inl e ↦ absurd (let parts = runs_parts plant unit period a e in let same : a.unit ≡ unit = parts.0 in omega arith)
      | inr e ↦ e
    ] in
    first_on plan (runs_in plant unit period) k (cell cells width unit period) (table unit period h l) other

put_test : (plant : Plant) (a : Start) (unit period width : ℕ) → period < width → (eqb a.unit unit && leb a.period period && ltb period (min (end_of plant a) width)) ≡ runs_in plant unit period a
unfolding runs_in
put_test plant a unit period width h =
    let same : ltb period (min (end_of plant a) width) ≡ ltb period (end_of plant a) = elim (cases_lt period (end_of plant a)) [
      | inl l ↦ lt-ltb period (min (end_of plant a) width) (omega arith) ∙ sym (lt-ltb period (end_of plant a) l)
      | inr g ↦ le-ltb period (min (end_of plant a) width) (omega arith) ∙ sym (le-ltb period (end_of plant a) g)
    ] in
    ap (λ (b : Bool). eqb a.unit unit && leb a.period period && b) same

pub table_more : (plant : Plant) (plan : List Start) (width k last : ℕ) (old new : List ℕ) → k < length plan → last ≡ min (end_of plant (start_at plan k)) width
    → ((r c : ℕ) → c < width → cell new width r c ≡ put_in old width (start_at plan k).unit (start_at plan k).period last k r c)
    → IsRunTable plant plan width (k + 1) old → IsRunTable plant plan width k new
table_more plant plan width k last old new there is put table unit period h l =
    let a = start_at plan k in
    let test : (eqb a.unit unit && leb a.period period && ltb period last) ≡ runs_in plant unit period a =
    ap (λ (e : ℕ). eqb a.unit unit && leb a.period period && ltb period e) is ∙ put_test plant a unit period width l in
    let now : cell new width unit period ≡ cond (runs_in plant unit period a) k (cell old width unit period) =
    put unit period l ∙ ap (λ (b : Bool). cond b k (cell old width unit period)) test in
    elim (cases_Bool (runs_in plant unit period a)) [
      | inl e ↦ (let value : cell new width unit period ≡ k = now ∙ ap (λ (b : Bool). cond b k (cell old width unit period)) e in
          subst (IsFirst (runs_in plant unit period) plan k) (sym value) (first_here plan (runs_in plant unit period) k there e))
      | inr e ↦ (let value : cell new width unit period ≡ cell old width unit period = now ∙ ap (λ (b : Bool). cond b k (cell old width unit period)) e in
          subst (IsFirst (runs_in plant unit period) plan k) (sym value) (first_on plan (runs_in plant unit period) k (cell old width unit period) (table unit period h l) e))
    ]

-- a table in which nothing runs yet
pub table_empty : (plant : Plant) (plan : List Start) (width : ℕ) (cells : List ℕ) → ((unit period : ℕ) → unit < length plant.units → period < width → cell cells width unit period ≡ length plan) → IsRunTable plant plan width (length plan) cells
table_empty plant plan width cells all unit period h l =
    subst (IsFirst (runs_in plant unit period) plan (length plan)) (sym (all unit period h l))
    (record { within = omega arith; later = omega arith; before = λ j g k. absurd (omega arith); here = λ k. absurd (omega arith) })

-- ---- rows

above_other : (c d : ℕ) → d ≤ c → (c ≡ d → ⊥) → d + 1 ≤ c
above_other c d h ne = elim (cases_lt d c) [ inl l ↦ omega arith | inr g ↦ absurd (ne (omega arith)) ]

-- one more column of a row is put
pub put_more : (old cells : List ℕ) (w row from column value : ℕ) → row * w + w ≤ length cells → column < w → from ≤ column
    → ((r c : ℕ) → c < w → cell cells w r c ≡ put_in old w row from column value r c)
    → (r c : ℕ) → c < w → cell (set cells (row * w + column) value) w r c ≡ put_in old w row from (column + 1) value r c
put_more old cells w row from column value there inside begun put r c h =
    let place : row * w + column < length cells = omega arith in
    elim (cases_eq (r * w + c) (row * w + column)) [
      | inl e ↦ (let both = same_from_place r c row column w h inside e in
          let test : (eqb row r && leb from c && ltb c (column + 1)) ≡ true =
          and_from (eqb row r && leb from c) (ltb c (column + 1)) (and_from (eqb row r) (leb from c) (eq-eqb row r (sym both.0)) (le-leb from c (let k : c ≡ column = both.1 in omega arith))) (lt-ltb c (column + 1) (let k : c ≡ column = both.1 in omega arith)) in
          ap (λ (i : ℕ). get_or (set cells (row * w + column) value) i 0) e ∙ get_or-set_same cells (row * w + column) value 0 place
          ∙ sym (ap (λ (b : Bool). cond b value (cell old w r c)) test))
      | inr ne ↦ (let other : cell (set cells (row * w + column) value) w r c ≡ cell cells w r c = get_or-set_other cells (row * w + column) (r * w + c) value 0 ne in
          let test : (eqb row r && leb from c && ltb c column) ≡ (eqb row r && leb from c && ltb c (column + 1)) = elim (cases_eq row r) [
            | inl same ↦ (let apart : c ≡ column → ⊥ = λ k. ne (ap (λ (i : ℕ). i * w + c) (sym same) ∙ ap (λ (i : ℕ). row * w + i) k) in
                ap (λ (b : Bool). eqb row r && leb from c && b) (elim (cases_lt c column) [
                  | inl l ↦ lt-ltb c column l ∙ sym (lt-ltb c (column + 1) (omega arith))
                  | inr g ↦ (let far : column + 1 ≤ c = above_other c column g apart in le-ltb c column g ∙ sym (le-ltb c (column + 1) far))
                ]))
            | inr off ↦ ap (λ (b : Bool). b && leb from c && ltb c column) (ne_eqb row r off) ∙ sym (ap (λ (b : Bool). b && leb from c && ltb c (column + 1)) (ne_eqb row r off))
          ] in
          other ∙ put r c h ∙ ap (λ (b : Bool). cond b value (cell old w r c)) test)
    ]

-- nothing is put in no columns
pub put_none : (old : List ℕ) (w row from to value : ℕ) → to ≤ from → (r c : ℕ) → cell old w r c ≡ put_in old w row from to value r c
put_none old w row from to value empty r c =
    let test : (eqb row r && leb from c && ltb c to) ≡ false = elim (cases_Bool (eqb row r && leb from c && ltb c to)) [
      | inl e ↦ absurd (let last = and_parts (eqb row r && leb from c) (ltb c to) e in
          let both = and_parts (eqb row r) (leb from c) last.0 in
          let low : from ≤ c = leb-true from c both.1 in
          let high : c < to = ltb-true c to last.1 in omega arith)
      | inr e ↦ e
    ] in
    sym (ap (λ (b : Bool). cond b value (cell old w r c)) test)

-- no value stands in no columns
pub least_empty : (cells : List ℕ) (w row from to bound : ℕ) → to ≤ from → IsLeastIn cells w row from to bound bound
least_empty cells w row from to bound empty = record { most = omega arith; least = λ c h l. absurd (omega arith); some = inl refl }

-- a list to which nothing is added
pub kept_by_none : {Y : Type 0} (xs ys : List Y) → ys ≡ [] → xs ≡ xs ++ ys
kept_by_none xs ys e = sym (ap (λ zs. xs ++ zs) e ∙ append-nil xs)

pub least_none : (cells : List ℕ) (w row from bound : ℕ) → IsLeastIn cells w row from from bound bound
least_none cells w row from bound = record { most = omega arith; least = λ c h l. absurd (omega arith); some = inl refl }

-- the least over one more column is the value there, where that is less
pub least_below : (cells : List ℕ) (w row from to bound value : ℕ) → from ≤ to → IsLeastIn cells w row from to bound value → cell cells w row to < value → IsLeastIn cells w row from (to + 1) bound (cell cells w row to)
least_below cells w row from to bound value begun before h =
    let most = before.most in
    record {
      most = omega arith;
      least = λ c l k. elim (cases_lt c to) [
        | inl low ↦ (let v : value ≤ cell cells w row c = before.least c l low in omega arith)
        | inr g ↦ (let same : c ≡ to = omega arith in let e : cell cells w row c ≡ cell cells w row to = ap (λ (i : ℕ). cell cells w row i) same in omega arith)
      ];
      some = inr (record { column = to; low = begun; high = omega arith; is = refl });
    }

-- the least over one more column is the least before, where that is no more
pub least_same : (cells : List ℕ) (w row from to bound value : ℕ) → IsLeastIn cells w row from to bound value → value ≤ cell cells w row to → IsLeastIn cells w row from (to + 1) bound value
least_same cells w row from to bound value before h = record {
  most = before.most;
  least = λ c l k. elim (cases_lt c to) [
    | inl low ↦ before.least c l low
    | inr g ↦ (let same : c ≡ to = omega arith in let e : cell cells w row c ≡ cell cells w row to = ap (λ (i : ℕ). cell cells w row i) same in omega arith)
  ];
  some = elim before.some [ inl e ↦ inl e | inr at ↦ inr (record { column = at.column; low = at.low; high = (let k = at.high in omega arith); is = at.is }) ];
}
